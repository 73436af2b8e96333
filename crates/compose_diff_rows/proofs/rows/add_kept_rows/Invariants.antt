use Rattle.std.proofs.Common.{◌≡◌, ◌++◌, List, ℕ, not, map, take}
use Rattle.std.specs.Prelude.{filter}
use Rattle.keysym_core.specs.Names.{KeysymNames}
use Rattle.compose_model.specs.Nodes.{leaves}
use Rattle.compose_compare.specs.Change.{old_changes}
use Rattle.compose_diff.specs.declared.row.DiffRow.{DiffRow}
use Rattle.compose_diff_rows.specs.Rows.{Written, written, reported_row, kept_row, is_reported_of}
use Rattle.compose_diff_rows.proofs.rows.add_kept_rows.Given as goal

-- each leaf so far has its row if it is not reported
abbrev pub invariant-loop-leaf : goal.invariant-loop-leaf
invariant-loop-leaf g l =
    let table = g.T.ComposeTable.definitions l.old.table.now in
    (names : KeysymNames) (fresh : List ℕ) (new : Written) → l.changes ≡ old_changes names fresh table new.table
    → (kept : List DiffRow) × (l.rows.items ≡ l.fn.rows.items ++ kept)
    × (map reported_row kept ≡ map (kept_row (written g.T.ComposeTable.definitions l.old)) (filter (λ s. not (is_reported_of l.whole names fresh table new.table s)) (take l.leaf (leaves table))))
