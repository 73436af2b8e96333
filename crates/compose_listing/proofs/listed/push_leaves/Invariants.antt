use Rattle.std.proofs.Common.{◌≡◌, ◌++◌, map, take, string_bytes}
use Rattle.std.specs.Prelude.{flat_map}
use Rattle.compose_listing.specs.Leaves.{leaf_line}
use Rattle.compose_listing.proofs.listed.push_leaves.Given as goal

abbrev pub invariant-loop-leaf : goal.invariant-loop-leaf
invariant-loop-leaf g l = string_bytes l.lines ≡ string_bytes l.initial.lines
    ++ flat_map (leaf_line l.form (g.T.ComposeTable.definitions l.listed.table.now) l.listed.lines.now (map (λ path. path.now) l.listed.paths.now)) (take l.leaf-index l.leaves)
