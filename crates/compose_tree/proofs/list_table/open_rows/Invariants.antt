use Rattle.std.proofs.Common.{◌≡◌, ◌++◌, [], drop}
use Rattle.compose_tree.specs.Rows.{gathered_rows}
use Rattle.compose_tree.proofs.list_table.open_rows.Given as goal

abbrev pub invariant-loop-depth : goal.invariant-loop-depth
invariant-loop-depth l = gathered_rows 0 l.depths [] ≡ l.rows.items ++ gathered_rows l.depth-index (drop l.depth-index l.depths) []
