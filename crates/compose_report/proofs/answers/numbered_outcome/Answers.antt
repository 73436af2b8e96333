use Rattle.std.proofs.Common.{map, List, ℕ}
use Rattle.compose_report.specs.Outcomes.{IsNumberedOutcome}
use Rattle.compose_report.proofs.Results.{ok_map}
use Rattle.compose_report.proofs.answers.numbered_outcome.Goals as goal

pub returns : goal.returns
returns c =
    let arguments = map (λ argument. argument.now) c.args.arguments.now in let details = c.args.details.now in let own = c.deref.result.now in
    ok_map (IsNumberedOutcome c.args.numbered own arguments details c.args.answered) (λ outcome. (own : List ℕ) × IsNumberedOutcome c.args.numbered own arguments details c.args.answered outcome)
    c.outcome_by.result (λ outcome is. (own, is)) c.outcome_by.ensures
