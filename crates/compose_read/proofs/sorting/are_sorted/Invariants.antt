-- The spans up to the index are sorted.
use Rattle.std.specs.List.Sorted.{IsSortedWithin}
use Rattle.compose_read.specs.SortKeys.{by_sequence}
use Rattle.compose_read.proofs.sorting.are_sorted.Given as goal

abbrev pub invariant-loop-index : goal.invariant-loop-index
invariant-loop-index l = IsSortedWithin (by_sequence l.keysyms) l.run 0 l.index
