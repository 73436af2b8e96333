use Rattle.std.proofs.Common.{map, [], ◌∷◌}
use Rattle.std.specs.Prelude.{true, Err}
use Rattle.compose_report.specs.Outcomes.{IsWorded}
use Rattle.compose_report.proofs.Results.{ok_map}
use Rattle.compose_runs.specs.Differing.{IsRefusalOutcome}
use Rattle.compose_runs.proofs.differing.refusal_outcome.Goals as goal

pub returns : goal.returns
returns c =
    let files = c.args.files.now in
    ok_map (IsWorded c.args.numbered true c.of-given.result (Err c.args.refusal)) (IsRefusalOutcome c.args.numbered files (map (λ name. name.now) c.args.fresh.now) c.args.refusal) c.worded_refusal.result
    (λ outcome reported. record {
      given = c.of-given.result;
      parts = c.of-given.ensures (files.both.old ∷ files.both.new ∷ []) (c.of.ensures, (c.of-2.ensures, tt));
      is = reported;
    }) c.worded_refusal.ensures
