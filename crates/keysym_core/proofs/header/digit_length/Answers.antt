use Rattle.std.proofs.Common.{◌∙◌, ap, not, length}
use Rattle.std.specs.Option.{unwrap_or}
use Rattle.compose_text.specs.Numbers.{is_hexadecimal_digit}
use Rattle.keysym_core.proofs.Lines.{position-or_length}
use Rattle.keysym_core.proofs.header.digit_length.Goals as goal

pub returns-clause-same : goal.returns-clause-same
returns-clause-same c = c.unwrap_or.ensures ∙ ap (λ o. unwrap_or o (length c.args.bytes.now)) c.digit_end.ensures.same ∙ position-or_length (λ b. not (is_hexadecimal_digit b)) c.args.bytes.now
