use Rattle.std.proofs.Common.{◌≡◌, map, take}
use Rattle.compose_lint.specs.Answers.{table_given}
use Rattle.compose_runs.proofs.linting.tables_in.Given as goal

abbrev pub invariant-loop-table : goal.invariant-loop-table
invariant-loop-table l = map table_given l.given.items ≡ take l.table-index l.pathed
