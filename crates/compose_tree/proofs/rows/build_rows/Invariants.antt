use Rattle.std.proofs.Common.{◌≡◌, ◌≤◌, ℕ, List, length, take}
use Rattle.compose_tree.specs.Targets.{max_nodes}
use Rattle.compose_tree.specs.Rows.{rows_of, path_of, shared, shared_with_last}
use Rattle.compose_tree.proofs.rows.build_rows.Given as goal

abbrev pub invariant-loop-index : goal.invariant-loop-index
invariant-loop-index l = record {
  rows_so_far : l.rows ≡ rows_of (take l.index l.sequences);
  path_so_far : l.path.items ≡ path_of (take l.index l.sequences);
  last : (s : List ℕ) → shared l.previous s ≡ shared_with_last (take l.index l.sequences) s;
  few : length l.rows ≤ max_nodes;
}
