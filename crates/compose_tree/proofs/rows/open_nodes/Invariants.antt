use Rattle.std.proofs.Common.{◌≡◌, ◌+◌, ◌++◌, ◌<◌, length, drop}
use Rattle.compose_tree.specs.Rows.{new_rows, counted}
use Rattle.compose_tree.proofs.rows.open_nodes.Given as goal

abbrev pub invariant-loop-depth : goal.invariant-loop-depth
invariant-loop-depth l = record {
  few : length l.rows + length (drop l.depth l.sequence) < 2147483648;
  rows_left : l.initial.rows ++ new_rows (length l.initial.rows) l.leaf l.from (drop l.from l.sequence) ≡ l.rows ++ new_rows (length l.rows) l.leaf l.depth (drop l.depth l.sequence);
  path_left : l.initial.path.items ++ counted (length l.initial.rows) (drop l.from l.sequence) ≡ l.path.items ++ counted (length l.rows) (drop l.depth l.sequence);
}
