use Rattle.std.proofs.Common.{◌≡◌, ◌++◌, take}
use Rattle.compose_lookup.specs.TextIndex.{of_length}
use Rattle.compose_lookup.proofs.text_index.push_of_length.Given as goal

-- those of the leaves so far are appended
abbrev pub invariant-loop-leaf : goal.invariant-loop-leaf
invariant-loop-leaf l = l.leaves.items ≡ l.initial.leaves.items ++ of_length l.lengths (take l.leaf-index l.these) l.keys
