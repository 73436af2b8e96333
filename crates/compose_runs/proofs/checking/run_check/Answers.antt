use Rattle.std.proofs.Common.{refl, inl, map}
use Rattle.compose_input.specs.declared.fault.Fault.TheVariants.{NoMemory}
use Rattle.compose_given.proofs.Failing.{handed}
use Rattle.compose_runs.specs.Faults.{FailsCheck}
use Rattle.compose_runs.proofs.checking.run_check.Goals as goal

pub returns-clause-outcome : goal.returns-clause-outcome
returns-clause-outcome g c = record { check = c.in_ok-check.check; read = c.in_ok-check.ensures.read; is = c.in_ok-check_outcome.ensures }

pub returns-in_err-check-clause-fault : goal.returns-in_err-check-clause-fault
returns-in_err-check-clause-fault g c =
    let fault = c.in_err-check.field-0.0 in
    handed (FailsCheck c.args.files.now.holds (map (λ name. name.now) c.args.options.names.now) c.args.paths.now) c.from_residual.result fault c.from_residual.ensures.1 c.in_err-check.ensures.fault

pub returns-in_err-check_outcome-clause-fault : goal.returns-in_err-check_outcome-clause-fault
returns-in_err-check_outcome-clause-fault g c =
    handed (FailsCheck c.args.files.now.holds (map (λ name. name.now) c.args.options.names.now) c.args.paths.now) c.from_residual-in_err-check_outcome.result NoMemory c.from_residual-in_err-check_outcome.ensures.1 (inl refl)
