use Rattle.std.proofs.Common.{refl, inl, inr, map}
use Rattle.compose_input.specs.declared.fault.Fault.TheVariants.{NoMemory}
use Rattle.compose_given.proofs.Failing.{handed}
use Rattle.compose_runs.specs.Faults.{FailsDiffRun}
use Rattle.compose_runs.proofs.differing.run_diff.Goals as goal

pub returns-clause-outcome : goal.returns-clause-outcome
returns-clause-outcome g c = record {
  found = c.in_ok-read.read;
  read = c.in_ok-read.ensures.read;
  colored = c.in_ok-colored.colored;
  colors = c.in_ok-colored.ensures;
  is = c.in_ok-kept_outcome.ensures;
}

pub returns-in_err-colored-clause-fault : goal.returns-in_err-colored-clause-fault
returns-in_err-colored-clause-fault g c =
    let fault = c.in_err-colored.field-0.0 in
    handed (FailsDiffRun c.args.files.now.holds c.args.environment.now (map (λ name. name.now) c.args.names.now) c.args.arguments.now) c.from_residual.result fault c.from_residual.ensures.1 (inl c.in_err-colored.ensures)

pub returns-in_err-read-clause-fault : goal.returns-in_err-read-clause-fault
returns-in_err-read-clause-fault g c =
    let fault = c.in_err-read.field-0.0 in
    handed (FailsDiffRun c.args.files.now.holds c.args.environment.now (map (λ name. name.now) c.args.names.now) c.args.arguments.now) c.from_residual-in_err-read.result fault c.from_residual-in_err-read.ensures.1 (inr c.in_err-read.ensures.fault)

pub returns-in_err-kept_outcome-clause-fault : goal.returns-in_err-kept_outcome-clause-fault
returns-in_err-kept_outcome-clause-fault g c =
    handed (FailsDiffRun c.args.files.now.holds c.args.environment.now (map (λ name. name.now) c.args.names.now) c.args.arguments.now) c.from_residual-in_err-kept_outcome.result NoMemory c.from_residual-in_err-kept_outcome.ensures.1 (inr (inl refl))
