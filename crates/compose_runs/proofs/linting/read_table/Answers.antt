use Rattle.std.proofs.Common.{rules, ◌≡◌, inr, subst, string_bytes}
use Rattle.std.specs.Prelude.{Err, option_copied}
use Rattle.compose_model.specs.declared.Rule.TheVariants.{Longest}
use Rattle.compose_input.specs.Faults.{FailsFound}
use Rattle.compose_input.specs.Tables.{IsFoundOnSystem}
use Rattle.compose_given.proofs.Failing.{fails}
use Rattle.compose_given.specs.Faults.{FailsChosenTable}
use Rattle.compose_runs.proofs.linting.read_table.Goals as goal

pub returns-clause-read : goal.returns-clause-read
returns-clause-read g c = record {
  is_file = c.in_ok-file.ensures.chosen;
  is_table = subst (λ f. IsFoundOnSystem f c.args.places (string_bytes c.in_ok-file.file.path) Longest c.in_ok-table.table) c.in_ok-file.ensures.kept
      (subst (λ p. IsFoundOnSystem c.file_or_own.new.files.holds c.args.places p Longest c.in_ok-table.table) c.deref.ensures c.in_ok-table.ensures.found);
}

pub returns-in_err-table-clause-fault : goal.returns-in_err-table-clause-fault
returns-in_err-table-clause-fault g c =
    let fault = c.in_err-table.field-0.0 in let places = c.args.places in let path = string_bytes c.in_ok-file.file.path in
    let is : c.from_residual-in_err-table.result ≡ Err fault = search rules in
    fails (FailsChosenTable c.args.files.now.holds c.args.environment.now places (option_copied c.args.given)) c.from_residual-in_err-table.result fault is
    (inr (
      c.in_ok-file.file,
      c.in_ok-file.ensures.chosen,
      subst (λ f. FailsFound f places path fault) c.in_ok-file.ensures.kept (subst (λ p. FailsFound c.file_or_own.new.files.holds places p fault) c.deref.ensures c.in_err-table.ensures.fault),
    ))
