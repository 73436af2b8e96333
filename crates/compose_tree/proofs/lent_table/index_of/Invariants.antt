use Rattle.std.proofs.Common.{◌+◌, ◌<◌, ◌≤◌, ℕ, length, slice_index}
use Rattle.compose_tree.specs.Packed.{keys_of}
use Rattle.compose_tree.proofs.lent_table.index_of.Given as goal

-- if the keysym is there at all, it is at one of `count` indexes from the first
abbrev pub invariant-loop-count : goal.invariant-loop-count
invariant-loop-count l = record {
  within : l.first + l.count ≤ length l.edges;
  below : (k : ℕ) → k < l.first → slice_index (keys_of l.edges) k < l.keysym;
  above : (k : ℕ) → l.first + l.count ≤ k → k < length l.edges → l.keysym < slice_index (keys_of l.edges) k;
}

abbrev pub decreases-loop-count : goal.decreases-loop-count
decreases-loop-count l = l.count
