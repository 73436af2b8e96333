use Rattle.std.proofs.Common.{◌≡◌, map, take}
use Rattle.compose_lint.specs.Rows.{found_in}
use Rattle.compose_lint.proofs.row.with_bytes.Given as goal

-- the findings so far
abbrev pub invariant-loop-finding : goal.invariant-loop-finding
invariant-loop-finding l = l.found.items ≡ map (found_in l.files) (take l.finding-index l.findings)
