use Rattle.std.proofs.Common.{map, subst}
use Rattle.compose_service_runs.specs.Serving.{IsStartOutcome}
use Rattle.compose_service_runs.proofs.serving.start_outcome.Goals as goal

pub returns-in_ok-reported_start-clause-outcome : goal.returns-in_ok-reported_start-clause-outcome
returns-in_ok-reported_start-clause-outcome g c =
    let names = map (λ name. name.now) c.args.options.names.now in let fresh = map (λ name. name.now) c.args.key_names.now in
    let outcome = c.in_ok-reported_start.field-0 in
    subst (λ wants. IsStartOutcome wants c.args.files.now.holds c.args.environment.now names c.args.served.now fresh c.args.answered outcome) c.if-wants_details.ensures
    (c.in_ok-again.again, c.in_ok-again.ensures.read, c.in_ok-reported_start.ensures)
