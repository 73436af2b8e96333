use Rattle.std.proofs.Common.{◌*◌, take}
use Rattle.compose_tree.specs.Packed.{texts_of, AreEntries}
use Rattle.compose_c.proofs.packed.are_entries.Given as goal

-- the entries so far are those of the texts
abbrev pub invariant-loop-leaf : goal.invariant-loop-leaf
invariant-loop-leaf l = AreEntries (take (l.leaf * 4) l.entries) (take l.leaf (texts_of l.table)) l.long_texts
