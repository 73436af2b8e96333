use Rattle.std.proofs.Common.{subst}
use Rattle.compose_details.specs.Input.{fault_words}
use Rattle.compose_report.specs.Outcomes.{PrintsErrors}
use Rattle.compose_report.proofs.faults.fault_worded.Goals as goal

pub returns : goal.returns
returns c =
    let own = c.in_ok-text.ensures.0 in let lines = fault_words own c.args.fault.now in (
      own,
      subst (λ ended. PrintsErrors lines ended c.of_errors.result) c.end_of_fault.ensures
          (subst (λ text. PrintsErrors text c.end_of_fault.result c.of_errors.result) c.in_ok-text.ensures.1 c.of_errors.ensures),
    )
