use Rattle.std.proofs.Common.{◌≡◌, take}
use Rattle.compose_runs.proofs.LeftOutOfAll.{reported_in}
use Rattle.compose_runs.proofs.linting.skipped_report.Given as goal

-- the lines of the tables so far, and their number
abbrev pub invariant-loop-read : goal.invariant-loop-read
invariant-loop-read l = l.report ≡ reported_in l.header (take l.read-index l.tables)
