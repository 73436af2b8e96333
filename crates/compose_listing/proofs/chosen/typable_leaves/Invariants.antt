use Rattle.std.proofs.Common.{◌≡◌, take}
use Rattle.std.specs.Prelude.{option_copied}
use Rattle.compose_listing.specs.Leaves.{typable_leaves}
use Rattle.compose_listing.proofs.chosen.typable_leaves.Given as goal

-- those of the leaves so far
abbrev pub invariant-loop-leaf : goal.invariant-loop-leaf
invariant-loop-leaf g l = l.typable.items ≡ typable_leaves (g.T.ComposeTable.definitions l.listed.table.now) (option_copied l.repertoire) (take l.leaf-index l.leaves)
