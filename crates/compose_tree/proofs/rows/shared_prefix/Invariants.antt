use Rattle.std.proofs.Common.{◌≡◌, ◌+◌, ◌-◌, ◌≤◌, length, drop}
use Rattle.compose_tree.specs.Rows.{shared}
use Rattle.compose_tree.proofs.rows.shared_prefix.Given as goal

abbrev pub invariant-loop-count : goal.invariant-loop-count
invariant-loop-count l = record {
  in_one : l.count ≤ length l.one;
  in_other : l.count ≤ length l.other;
  so_far : shared l.one l.other ≡ l.count + shared (drop l.count l.one) (drop l.count l.other);
}

abbrev pub decreases-loop-count : goal.decreases-loop-count
decreases-loop-count l = length l.one - l.count
