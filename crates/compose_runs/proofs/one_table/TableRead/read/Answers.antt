use Rattle.std.proofs.Common.{◌⊎◌, inl, inr, map, subst, option_copied}
use Rattle.compose_input.specs.declared.fault.Fault.{Fault}
use Rattle.compose_given.proofs.Failing.{handed, or_map}
use Rattle.compose_given.specs.Names.{names_or_builtin}
use Rattle.compose_input.specs.Faults.{FailNames}
use Rattle.compose_input.specs.declared.places.Places.{Places}
use Rattle.compose_given.specs.Faults.{FailsChosenTable, FailsPlaced, HasNames}
use Rattle.compose_runs.specs.Faults.{FailsTableRead}
use Rattle.compose_given.specs.Noted.{IsNotedTable, table_places}
use Rattle.compose_runs.proofs.one_table.TableRead.read.Goals as goal

pub returns-clause-read : goal.returns-clause-read
returns-clause-read g c = record {
  places = c.in_ok-places.places;
  are_places = c.in_ok-places.ensures;
  are_names = c.in_ok-names.ensures.read;
  is = subst (λ f. IsNotedTable f c.args.environment.now c.in_ok-places.places c.args.arguments.now c.in_ok-found.found) c.in_ok-names.ensures.kept c.in_ok-found.ensures.read;
}

pub returns-in_err-places-clause-fault : goal.returns-in_err-places-clause-fault
returns-in_err-places-clause-fault g c =
    handed (FailsTableRead c.args.files.now.holds c.args.environment.now (map (λ name. name.now) c.args.names.now) c.args.arguments.now) c.from_residual.result c.in_err-places.field-0.0
    c.from_residual.ensures.1 (inr (inl c.in_err-places.ensures))

pub returns-in_err-names-clause-fault : goal.returns-in_err-names-clause-fault
returns-in_err-names-clause-fault g c =
    handed (FailsTableRead c.args.files.now.holds c.args.environment.now (map (λ name. name.now) c.args.names.now) c.args.arguments.now) c.from_residual-in_err-names.result c.in_err-names.field-0.0
    c.from_residual-in_err-names.ensures.1 (inr (inr (c.in_ok-places.places, c.in_ok-places.ensures, inl c.in_err-names.ensures.fault)))

pub returns-in_err-found-clause-fault : goal.returns-in_err-found-clause-fault
returns-in_err-found-clause-fault g c =
    let fault = c.in_err-found.field-0.0 in let folder = c.args.files.now.holds in let environment = c.args.environment.now in let arguments = c.args.arguments.now in
    let names = map (λ name. name.now) c.args.names.now in let places = c.in_ok-places.places in let file = option_copied arguments.file in
    handed (FailsTableRead folder environment names arguments) c.from_residual-in_err-found.result fault c.from_residual-in_err-found.ensures.1
    (or_map (FailsChosenTable c.read_names.new.files.holds environment places file)
    (FailsPlaced environment (table_places arguments)
    (λ (p : Places) (f : Fault). FailNames folder (names_or_builtin names) f ⊎ (HasNames folder (names_or_builtin names) × FailsChosenTable folder environment p file f))) fault
    (λ chosen. inr (
      places,
      c.in_ok-places.ensures,
      inr ((c.in_ok-names.names, c.in_ok-names.ensures.read), subst (λ h. FailsChosenTable h environment places file fault) c.in_ok-names.ensures.kept chosen),
    )) c.in_err-found.ensures.fault)
