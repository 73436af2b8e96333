use Rattle.std.proofs.Common.{◌≡◌, ◌++◌, map, take}
use Rattle.compose_lint.specs.Rows.{found_row}
use Rattle.compose_lint.proofs.row.push_rows.Given as goal

-- the findings so far are added
abbrev pub invariant-loop-found : goal.invariant-loop-found
invariant-loop-found l = l.rows.items ≡ l.fn.rows.items ++ map (found_row l.table.table l.table.faults) (take l.found-index l.table.found)
