use Rattle.std.proofs.Common.{true}
use Rattle.compose_report.proofs.Results.{ok_map}
use Rattle.compose_runs.specs.Making.{IsMakeOutcome, make_given}
use Rattle.compose_runs.specs.Reports.{IsReport}
use Rattle.compose_runs.proofs.making.make_outcome.Goals as goal

pub returns : goal.returns
returns g c =
    let both = c.args.both.now in let answered = c.make_answer-answered.result in
    ok_map (IsReport true c.args.verbose (make_given both c.args.repertoire.now c.args.making) answered) (IsMakeOutcome c.args.verbose both c.args.repertoire.now c.args.making) c.make_report.result
    (λ outcome report. record {
      answered = answered;
      is = c.make_answer-answered.ensures;
      given = report.given;
      parts = report.are_parts;
      reported = report.reported;
    }) c.make_report.ensures
