use Rattle.std.proofs.Common.{◌≡◌, ◌≤◌, List, ℕ, length, take}
use Rattle.std.specs.Prelude.{filter}
use Rattle.compose_model.specs.Nodes.{leaves}
use Rattle.compose_compare.specs.Change.{new_changes}
use Rattle.compose_merge.specs.Merged.{is_taken}
use Rattle.compose_diff_rows.proofs.taken.count_taken.Given as goal

-- those of the leaves so far are counted
abbrev pub invariant-loop-leaf : goal.invariant-loop-leaf
invariant-loop-leaf g l = record {
  few : l.count ≤ l.leaf;
  counted : (fresh : List ℕ) → l.changes ≡ new_changes l.names fresh (g.T.ComposeTable.definitions l.old) (g.T.ComposeTable.definitions l.new.table.now)
      → l.count ≡ length (filter (is_taken l.names fresh (g.T.ComposeTable.definitions l.old) (g.T.ComposeTable.definitions l.new.table.now)) (take l.leaf (leaves (g.T.ComposeTable.definitions l.new.table.now))));
}
