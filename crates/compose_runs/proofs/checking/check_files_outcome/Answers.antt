use Rattle.std.proofs.Common.{false, subst}
use Rattle.compose_report.specs.Outcomes.{IsNoted}
use Rattle.compose_runs.specs.Checking.{allowed_names, given_parts}
use Rattle.compose_runs.specs.Reports.{IsReport}
use Rattle.compose_runs.proofs.checking.check_files_outcome.Goals as goal

pub returns : goal.returns
returns g c =
    let answered = c.check_answer-answered.result in let printed = c.in_ok-printed.printed in
    record {
      answered = answered;
      is = c.check_answer-answered.ensures;
      reported = record {
        printed = printed;
        is = subst (λ v. IsReport false v (given_parts c.args.check.now c.args.texts (allowed_names c.args.allowed)) answered printed) c.wants_details-verbose.ensures c.in_ok-printed.ensures;
        noted = subst (λ notes. IsNoted notes printed c.with_notes.result) c.in_ok-notes.ensures c.with_notes.ensures;
      };
    }
