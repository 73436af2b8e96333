use Rattle.std.proofs.Common.{◌∙◌, sym}
use Rattle.compose_lint.proofs.Unsigned.{never_skipped}
use Rattle.compose_lint.proofs.lost.is_skipped.Goals as goal

pub returns : goal.returns
returns c = sym (never_skipped c.args.line.now (sym c.may_be_skipped.ensures ∙ c.if-may_be_skipped.false))
