use Rattle.std.proofs.Common.{◌∙◌, List, ℕ, Bor, map, get_or, [], ap}
use Rattle.compose_model.specs.Nodes.{leaves}
use Rattle.compose_places.specs.Counting.{sequence_named}
use Rattle.compose_diff_rows.proofs.Leaves.{leaf_there, keys_there}
use Rattle.compose_diff_rows.proofs.TakenSoFar.{some_keys, not_taken, taken_apart}
use Rattle.compose_diff_rows.proofs.taken.is_taken_at.Goals as goal

pub returns-then-not-is_added : goal.returns-then-not-is_added
returns-then-not-is_added g c = λ fresh h.
    not_taken c.args.names.now fresh (g.T.ComposeTable.definitions c.args.old.now) (g.T.ComposeTable.definitions c.args.new.now.table.now) _ c.args.change c.is_added.result c.is_added.ensures c.if-not-is_added.true h

pub returns : goal.returns
returns g c = λ fresh h.
    (let names = c.args.names.now in
    let table = g.T.ComposeTable.definitions c.args.new.now.table.now in
    let i = c.args.leaf.0 in
    let s = get_or (leaves table) i [] in
    let named = ap (λ (keys : List (Bor (List ℕ))). sequence_named names (map (λ key. key.now) keys)) c.as_slice.ensures.value ∙ ap (sequence_named names) c.keys_at.ensures
    ∙ keys_there table names c.args.new.now.lines.now c.requires.lines i c.requires.in_table in
    let some = some_keys table s c.node_count.ensures.settled.definitions (leaf_there table i c.requires.in_table) in
    taken_apart names fresh (g.T.ComposeTable.definitions c.args.old.now) table s c.args.change c.is_added.result c.is_apart.result c.is_added.ensures c.if-not-is_added.false (c.is_apart.ensures s named some) h)
