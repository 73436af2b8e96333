use Rattle.std.proofs.Common.{◌≡◌, take, string_bytes}
use Rattle.compose_lint.specs.Report.{rows_text}
use Rattle.compose_lint.proofs.report.rows_text.Given as goal

-- the lines of the findings so far
abbrev pub invariant-loop-row : goal.invariant-loop-row
invariant-loop-row l = string_bytes l.text ≡ rows_text (take l.row-index l.rows)
