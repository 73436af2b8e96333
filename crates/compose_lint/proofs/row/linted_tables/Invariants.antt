use Rattle.std.proofs.Common.{◌≡◌, map, take}
use Rattle.compose_lint.specs.Answers.{table_given}
use Rattle.compose_lint.specs.Rows.{linted}
use Rattle.compose_lint.proofs.row.linted_tables.Given as goal

-- the tables so far
abbrev pub invariant-loop-table : goal.invariant-loop-table
invariant-loop-table l = l.linted.items ≡ map (λ t. linted l.names l.readers l.is_all (table_given t)) (take l.table-index l.tables)
