use Rattle.std.proofs.Common.{◌∙◌, sym}
use Rattle.compose_lint.proofs.PlainText.{plain_text}
use Rattle.compose_lint.proofs.definition.string_text.Goals as goal

pub returns-then-is_plain : goal.returns-then-is_plain
returns-then-is_plain c = plain_text c.args.raw.now (sym c.is_plain.ensures ∙ c.if-is_plain.true) c.utf8.raw
