use Rattle.std.proofs.Common.{map, subst, sym, true, List, ℕ}
use Rattle.std.specs.Prelude.{Err}
use Rattle.compose_report.specs.Outcomes.{IsDetailed, IsNumberedOutcome, IsWorded}
use Rattle.compose_report.proofs.Results.{ok_map}
use Rattle.compose_report.proofs.answers.worded_refusal.Goals as goal

pub returns : goal.returns
returns c =
    let given = c.args.given.now in let details = c.deref.result.now in let answered = Err c.args.refusal in
    let detailed = subst (IsDetailed true given answered) (sym c.deref.ensures) c.in_ok-details.ensures in
    ok_map (λ outcome. (own : List ℕ) × IsNumberedOutcome c.args.numbered own (map (λ argument. argument.now) given.arguments.now) details answered outcome)
    (IsWorded c.args.numbered true given answered) c.numbered_outcome.result
    (λ outcome expected. record { own = expected.0; details = details; detailed = detailed; is = expected.1 }) c.numbered_outcome.ensures
