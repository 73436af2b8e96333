use Rattle.std.proofs.Common.{◌∙◌, ap, not, length}
use Rattle.std.specs.Option.{unwrap_or}
use Rattle.compose_text.specs.Bytes.{is_blank}
use Rattle.keysym_core.proofs.Lines.{position-or_length}
use Rattle.keysym_core.proofs.header.blank_length.Goals as goal

pub returns-clause-same : goal.returns-clause-same
returns-clause-same c = c.unwrap_or.ensures ∙ ap (λ o. unwrap_or o (length c.args.bytes.now)) c.blank_end.ensures.same ∙ position-or_length (λ b. not (is_blank b)) c.args.bytes.now
