use Rattle.std.proofs.Common.{map, subst, true, List, ℕ}
use Rattle.std.specs.Prelude.{IfOk}
use Rattle.compose_report.specs.Outcomes.{IsNumberedOutcome}
use Rattle.compose_report.proofs.answers.outcome_with.Goals as goal

pub returns : goal.returns
returns c =
    let arguments = map (λ argument. argument.now) c.args.arguments.now in
    subst (λ details. IfOk c.numbered_outcome.result (λ outcome. (own : List ℕ) × IsNumberedOutcome true own arguments details c.args.answered outcome)) c.deref.ensures c.numbered_outcome.ensures
