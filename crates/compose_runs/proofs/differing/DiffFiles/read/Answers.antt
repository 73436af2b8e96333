use Rattle.std.proofs.Common.{subst, option_copied, inl, inr, map}
use Rattle.compose_runs.specs.DiffFiles.{IsAccepted}
use Rattle.compose_runs.specs.Faults.{FailsAccepted, FailsDiff}
use Rattle.compose_given.proofs.Failing.{handed}
use Rattle.compose_runs.proofs.differing.DiffFiles.read.Goals as goal

pub returns-clause-read : goal.returns-clause-read
returns-clause-read g c = record {
  are_both = c.in_ok-both.ensures.read;
  is_accepted = subst (λ f. IsAccepted f (option_copied c.args.arguments.now.accept) c.in_ok-accepted.accepted.items) c.in_ok-both.ensures.kept c.in_ok-accepted.ensures.read;
}

pub returns-in_err-both-clause-fault : goal.returns-in_err-both-clause-fault
returns-in_err-both-clause-fault g c =
    let fault = c.in_err-both.field-0.0 in
    handed (FailsDiff c.args.files.now.holds c.args.environment.now (map (λ name. name.now) c.args.names.now) c.args.arguments.now) c.from_residual.result fault c.from_residual.ensures.1 (inr (inl c.in_err-both.ensures.fault))

pub returns-in_err-accepted-clause-fault : goal.returns-in_err-accepted-clause-fault
returns-in_err-accepted-clause-fault g c =
    let fault = c.in_err-accepted.field-0.0 in
    handed (FailsDiff c.args.files.now.holds c.args.environment.now (map (λ name. name.now) c.args.names.now) c.args.arguments.now) c.from_residual-in_err-accepted.result fault c.from_residual-in_err-accepted.ensures.1
    (inr (inr (
      (c.in_ok-both.both, c.in_ok-both.ensures.read),
      subst (λ f. FailsAccepted f (option_copied c.args.arguments.now.accept) fault) c.in_ok-both.ensures.kept c.in_err-accepted.ensures.fault,
    )))
