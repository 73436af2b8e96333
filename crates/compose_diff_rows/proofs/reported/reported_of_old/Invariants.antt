use Rattle.std.proofs.Common.{◌≡◌, List, ℕ, map, take}
use Rattle.std.specs.Prelude.{filter}
use Rattle.compose_model.specs.Nodes.{leaves}
use Rattle.compose_compare.specs.Change.{old_changes}
use Rattle.compose_diff_rows.specs.Rows.{written, reported_of, reported_sequence, is_reported_of}
use Rattle.compose_diff_rows.proofs.reported.reported_of_old.Given as goal

-- what is reported of the leaves so far
abbrev pub invariant-loop-leaf : goal.invariant-loop-leaf
invariant-loop-leaf g l =
    let table = g.T.ComposeTable.definitions l.old.table.now in
    let old = written g.T.ComposeTable.definitions l.old in
    let new = written g.T.ComposeTable.definitions l.new in
    let names = l.names in
    (fresh : List ℕ) → l.changes ≡ old_changes names fresh table new.table
    → map reported_sequence l.reported.items ≡ map (reported_of names fresh old new old) (filter (is_reported_of l.whole names fresh table new.table) (take l.leaf (leaves table)))
