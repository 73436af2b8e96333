use Rattle.std.proofs.Common.{inl, inr, option_copied}
use Rattle.compose_input.specs.declared.fault.Fault.{Fault}
use Rattle.compose_input.specs.declared.places.Places.{Places}
use Rattle.compose_given.proofs.Failing.{err_map, handed, ok_map, or_map}
use Rattle.compose_given.specs.Faults.{FailsChosenTable, FailsPlaced, OrMemory}
use Rattle.compose_given.specs.GivenTable.{FailsSystemTable, IsSystemTable}
use Rattle.compose_given.specs.Noted.{IsNotedTable, table_places}
use Rattle.compose_given.proofs.given_table.system_table.Goals as goal

pub returns-clause-read : goal.returns-clause-read
returns-clause-read g c =
    let folder = c.args.files.now.holds in let environment = c.args.environment.now in let arguments = c.args.arguments.now in let places = c.in_ok-places.places in
    ok_map (IsNotedTable folder environment places arguments) (IsSystemTable folder environment arguments) c.chosen_table.result
    (λ read is. record {
      places = places;
      are_places = c.in_ok-places.ensures;
      is = is;
    }) c.chosen_table.ensures.read

pub returns-in_err-places-clause-fault : goal.returns-in_err-places-clause-fault
returns-in_err-places-clause-fault g c =
    handed (FailsSystemTable c.args.files.now.holds c.args.environment.now c.args.arguments.now) c.from_residual.result c.in_err-places.field-0.0 c.from_residual.ensures.1
    (inr (inl c.in_err-places.ensures))

pub returns-clause-fault : goal.returns-clause-fault
returns-clause-fault g c =
    let folder = c.args.files.now.holds in let environment = c.args.environment.now in let arguments = c.args.arguments.now in let places = c.in_ok-places.places in
    let Fails = FailsChosenTable folder environment places (option_copied arguments.file) in
    err_map (OrMemory Fails) (FailsSystemTable folder environment arguments) c.chosen_table.result
    (λ fault fails. or_map Fails (FailsPlaced environment (table_places arguments) (λ (p : Places) (f : Fault). FailsChosenTable folder environment p (option_copied arguments.file) f)) fault
    (λ chosen. inr (places, c.in_ok-places.ensures, chosen)) fails) c.chosen_table.ensures.fault
