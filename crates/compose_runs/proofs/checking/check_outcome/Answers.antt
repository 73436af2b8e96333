use Rattle.std.proofs.Common.{true}
use Rattle.compose_report.proofs.Results.{ok_map}
use Rattle.compose_runs.specs.Checking.{IsCheckOutcome, allowed_names, given_parts, texts_of}
use Rattle.compose_runs.specs.Reports.{IsReport}
use Rattle.compose_runs.proofs.checking.check_outcome.Goals as goal

pub returns : goal.returns
returns g c =
    let check = c.args.check.now in let paths = c.args.paths.now in let answered = c.check_answer-answered.result in let allowed = allowed_names c.args.allowed in
    ok_map (IsReport true c.args.verbose (given_parts check (texts_of paths) allowed) answered) (IsCheckOutcome c.args.verbose check paths allowed) c.check_report.result
    (λ outcome report. record {
      answered = answered;
      is = c.check_answer-answered.ensures;
      given = report.given;
      parts = report.are_parts;
      reported = report.reported;
    }) c.check_report.ensures
