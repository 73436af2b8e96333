use Rattle.std.proofs.Common.{◌≡◌, List, ℕ, not, map, take}
use Rattle.std.specs.Prelude.{filter}
use Rattle.keysym_core.specs.Names.{KeysymNames}
use Rattle.compose_model.specs.Table.{is_sequence}
use Rattle.compose_model.specs.Nodes.{leaves}
use Rattle.compose_compare.specs.Change.{new_changes}
use Rattle.compose_diff_rows.specs.Rows.{Written, written, reported_of, reported_sequence}
use Rattle.compose_diff_rows.proofs.reported.reported_of_new.Given as goal

-- what is reported of the leaves so far
abbrev pub invariant-loop-leaf : goal.invariant-loop-leaf
invariant-loop-leaf g l =
    let table = g.T.ComposeTable.definitions l.new.table.now in
    let new = written g.T.ComposeTable.definitions l.new in
    (names : KeysymNames) (fresh : List ℕ) (old : Written) → l.changes ≡ new_changes names fresh old.table table
    → map reported_sequence l.reported.items ≡ map (reported_of names fresh old new new) (filter (λ s. not (is_sequence old.table s)) (take l.leaf (leaves table)))
