use Rattle.std.proofs.Common.{subst, rules, ◌≡◌, refl, inl, inr, map}
use Rattle.compose_input.specs.Tables.{IsListed}
use Rattle.std.specs.Prelude.{Err, codes}
use Rattle.compose_input.specs.declared.fault.Fault.TheVariants.{NoMemory}
use Rattle.compose_given.proofs.Failing.{fails}
use Rattle.compose_input.specs.Faults.{FailsListed}
use Rattle.compose_runs.specs.Faults.{FailsType}
use Rattle.compose_runs.proofs.typing.run_type.Goals as goal

pub returns-clause-outcome : goal.returns-clause-outcome
returns-clause-outcome g c = record {
  names = c.in_ok-names.names;
  are_names = c.in_ok-names.ensures.read;
  table = c.in_ok-table.table;
  is_table = subst (λ f. IsListed f c.args.table.now c.in_ok-table.table) c.in_ok-names.ensures.kept c.in_ok-table.ensures.listed;
  is = c.in_ok-type_outcome.ensures;
}

pub returns-in_err-names-clause-fault : goal.returns-in_err-names-clause-fault
returns-in_err-names-clause-fault g c =
    let fault = c.in_err-names.field-0.0 in let names = map (λ name. name.now) c.args.options.names.now in
    let is : c.from_residual.result ≡ Err fault = search rules in
    fails (FailsType c.args.files.now.holds names c.args.table.now) c.from_residual.result fault is (inr (inl c.in_err-names.ensures.fault))

pub returns-in_err-table-clause-fault : goal.returns-in_err-table-clause-fault
returns-in_err-table-clause-fault g c =
    let fault = c.in_err-table.field-0.0 in let names = map (λ name. name.now) c.args.options.names.now in
    let is : c.from_residual-in_err-table.result ≡ Err fault = search rules in
    fails (FailsType c.args.files.now.holds names c.args.table.now) c.from_residual-in_err-table.result fault is
    (inr (inr ((c.in_ok-names.names, c.in_ok-names.ensures.read), subst (λ f. FailsListed f (codes "table") c.args.table.now fault) c.in_ok-names.ensures.kept c.in_err-table.ensures.fault)))

pub returns-in_err-type_outcome-clause-fault : goal.returns-in_err-type_outcome-clause-fault
returns-in_err-type_outcome-clause-fault g c =
    let names = map (λ name. name.now) c.args.options.names.now in
    let is : c.from_residual-in_err-type_outcome.result ≡ Err NoMemory = search rules in
    fails (FailsType c.args.files.now.holds names c.args.table.now) c.from_residual-in_err-type_outcome.result NoMemory is (inl refl)
