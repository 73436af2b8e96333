use Rattle.std.proofs.Common.{◌≡◌, ◌≤◌, length}
use Rattle.std.specs.List.Sorted.{IsPermutation, IsStableBy}
use Rattle.compose_read.specs.SortKeys.{by_sequence}
use Rattle.compose_read.proofs.sorting.sort_runs.Given as goal

abbrev pub invariant-loop-index : goal.invariant-loop-index
invariant-loop-index l = record {
  within : l.start ≤ l.index;
  count : length l.spans ≡ length l.fn.spans;
  permutation : IsPermutation l.fn.spans l.spans;
  stable : IsStableBy (by_sequence l.keysyms) l.fn.spans l.spans;
}
