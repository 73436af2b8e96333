use Rattle.std.proofs.Common.{map, string_bytes, subst, List, ℕ}
use Rattle.std.specs.Prelude.{Ok}
use Rattle.compose_report.specs.Outcomes.{IsOutcome}
use Rattle.compose_report.proofs.Results.{ok_map}
use Rattle.compose_runs.specs.Differing.{ShowsAnswer}
use Rattle.compose_runs.proofs.differing.answer_outcome.Goals as goal

pub returns : goal.returns
returns c =
    let fresh = map (λ name. name.now) c.args.fresh.now in let shown = c.in_ok-shown.shown in
    ok_map (λ outcome. (own : List ℕ) × IsOutcome own fresh (string_bytes c.new.result) (Ok shown) outcome) (ShowsAnswer c.args.colored c.args.answer fresh)
    c.outcome_with.result
    (λ outcome spec. record {
      shown = shown;
      is_shown = c.in_ok-shown.ensures;
      own = spec.0;
      is = subst (λ details. IsOutcome spec.0 fresh details (Ok shown) outcome) c.new.ensures.bytes spec.1;
    }) c.outcome_with.ensures
