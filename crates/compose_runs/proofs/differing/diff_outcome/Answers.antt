use Rattle.std.proofs.Common.{subst}
use Rattle.compose_report.specs.Outcomes.{IsNoted}
use Rattle.compose_runs.proofs.differing.diff_outcome.Goals as goal

pub returns : goal.returns
returns g c = record {
  answered = c.diff_answer-answered.result;
  is = c.diff_answer-answered.ensures;
  printed = c.in_ok-printed.printed;
  is_printed = c.in_ok-printed.ensures;
  noted = subst (λ notes. IsNoted notes c.in_ok-printed.printed c.with_notes.result) c.in_ok-notes.ensures c.with_notes.ensures;
}
