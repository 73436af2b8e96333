use Rattle.std.proofs.Common.{map, [], ◌∷◌}
use Rattle.std.specs.Prelude.{true, false, Err}
use Rattle.compose_report.specs.Outcomes.{IsWorded}
use Rattle.compose_report.proofs.Results.{ok_map}
use Rattle.compose_merging.specs.Runs.{IsRefusalPrinted}
use Rattle.compose_merging.proofs.running.refusal_outcome.Goals as goal

pub returns : goal.returns
returns c =
    let old = c.args.old.now in let new = c.args.new.now in
    ok_map (IsWorded false true c.of-given.result (Err c.args.refusal)) (IsRefusalPrinted c.args.names.now old new (map (λ name. name.now) c.args.fresh.now) c.args.refusal) c.worded_refusal.result
    (λ outcome reported. record { given = c.of-given.result; parts = c.of-given.ensures (old ∷ new ∷ []) (c.of.ensures, (c.of-2.ensures, tt)); is = reported }) c.worded_refusal.ensures
