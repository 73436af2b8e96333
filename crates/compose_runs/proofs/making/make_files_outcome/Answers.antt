use Rattle.std.proofs.Common.{false, subst}
use Rattle.compose_report.specs.Outcomes.{IsNoted}
use Rattle.compose_runs.specs.Making.{make_given}
use Rattle.compose_runs.specs.Reports.{IsReport}
use Rattle.compose_runs.proofs.making.make_files_outcome.Goals as goal

pub returns : goal.returns
returns g c =
    let answered = c.make_answer-answered.result in let printed = c.in_ok-printed.printed in
    record {
      answered = answered;
      is = c.make_answer-answered.ensures;
      reported = record {
        printed = printed;
        is = subst (λ v. IsReport false v (make_given c.args.both.now c.args.repertoire.now c.args.making) answered printed) c.wants_details-verbose.ensures c.in_ok-printed.ensures;
        noted = subst (λ notes. IsNoted notes printed c.with_notes.result) c.in_ok-notes.ensures c.with_notes.ensures;
      };
    }
