-- What is left of the two sequences compares as all of them do.
use Rattle.std.proofs.Common.{◌≡◌, ◌-◌, ◌≤◌, drop, length, nat_cmp}
use Rattle.std.specs.Cmp.Lexicographic.{slice_cmp}
use Rattle.compose_read.proofs.sorting.comes_before.Given as goal

abbrev pub invariant-loop-index : goal.invariant-loop-index
invariant-loop-index l = (slice_cmp nat_cmp (drop l.index l.one) (drop l.index l.other) ≡ slice_cmp nat_cmp l.one l.other) × (l.index ≤ length l.one) × (l.index ≤ length l.other)

abbrev pub decreases-loop-index : goal.decreases-loop-index
decreases-loop-index l = length l.one - l.index
