use Rattle.std.proofs.Common.{◌∙◌, List, ℕ, ap, sym}
use Rattle.std.specs.Prelude.{Result, Ok}
use Rattle.compose_lex.specs.declared.LexFault.{LexFault}
use Rattle.compose_lex.proofs.TextChecks.{decoded_right, decoded_other}
use Rattle.compose_lex.proofs.texts.decoded_text.Goals as goal

pub returns-in-Ok-clause-exact : goal.returns-in-Ok-clause-exact
returns-in-Ok-clause-exact c bytes decoded =
    decoded_right c.args.kept.now bytes c.args.len tt decoded c.in_ok-check_len.ensures.exact c.in_ok-check_len.ensures.fits c.in-Ok.ensures.cases.1
    ∙ ap (λ x. let r : Result (List ℕ) LexFault = Ok x in r) (sym c.in-Ok.ensures.cases.0)

pub returns-in-Err-clause-exact : goal.returns-in-Err-clause-exact
returns-in-Err-clause-exact c bytes decoded = decoded_other c.args.kept.now bytes c.args.len tt decoded c.in_ok-check_len.ensures.exact c.in_ok-check_len.ensures.fits c.in-Err.ensures.cases.0
