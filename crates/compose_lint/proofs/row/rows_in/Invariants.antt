use Rattle.std.proofs.Common.{◌≡◌, flat_map, take}
use Rattle.compose_lint.specs.Rows.{linted_rows}
use Rattle.compose_lint.proofs.row.rows_in.Given as goal

-- the findings in the tables so far
abbrev pub invariant-loop-table : goal.invariant-loop-table
invariant-loop-table l = l.rows.items ≡ flat_map linted_rows (take l.table-index l.tables)
