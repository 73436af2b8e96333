use Rattle.std.proofs.Common.{map, subst, []}
use Rattle.std.specs.Prelude.{not, Err}
use Rattle.compose_report.specs.Outcomes.{IsWorded}
use Rattle.compose_report.proofs.Results.{ok_map}
use Rattle.compose_service_runs.specs.Clients.{IsKeysReported}
use Rattle.compose_service_runs.proofs.client.keys_outcome.Goals as goal

pub returns : goal.returns
returns g c =
    let verbose = c.args.verbose in let are_files = c.args.are_files in
    ok_map (IsWorded (not are_files) c.wants_lines-detailed.result c.of-given.result (Err c.args.refusal))
    (IsKeysReported verbose are_files c.args.names.now (map (λ key. key.now) c.args.keys.now) c.args.refusal) c.worded_outcome.result
    (λ outcome worded. record {
      given = c.of-given.result;
      parts = c.of-given.ensures [] tt;
      worded = subst (λ d. IsWorded (not are_files) d c.of-given.result (Err c.args.refusal) outcome) c.wants_lines-detailed.ensures worded;
    }) c.worded_outcome.ensures
