use Rattle.std.proofs.Common.{map, subst, ℕ, List, [], Bor}
use Rattle.compose_report.proofs.Results.{ok_map}
use Rattle.compose_runs.specs.Listing.{IsListOutcome}
use Rattle.compose_runs.specs.OneTable.{IsTableOutcome}
use Rattle.compose_runs.specs.Skipping.{IsFollowed}
use Rattle.compose_runs.proofs.looking_up.list_outcome.Goals as goal

pub returns : goal.returns
returns g c =
    let kept = c.in_ok-kept.kept in let answered = c.list_answer-answered.result in let printed = c.in_ok-printed.printed in
    ok_map (IsFollowed c.deref-2.result.now printed) (IsListOutcome c.args.read c.args.arguments.now) c.followed.result
    (λ outcome after. record {
      kept = kept;
      is_kept = c.in_ok-kept.ensures;
      answered = answered;
      is = c.list_answer-answered.ensures;
      printed = printed;
      is_printed = subst (λ (ks : List (Bor (List ℕ))). IsTableOutcome c.args.arguments.now.json kept.read (map (λ key. key.now) ks) [] [] answered printed) c.deref.ensures.value c.in_ok-printed.ensures;
      followed = subst (λ text. IsFollowed text printed outcome) c.deref-2.ensures after;
    }) c.followed.ensures
