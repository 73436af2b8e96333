use Rattle.std.proofs.Common.{◌≡◌, ◌≤◌, ◌-◌, length}
use Rattle.std.specs.Prelude.{None, replicate}
use Rattle.compose_places.proofs.counting.no_lines.Given as goal

abbrev pub invariant-loop-kept : goal.invariant-loop-kept
invariant-loop-kept l = record {
  none : l.kept.items ≡ replicate (length l.kept.items) None;
  few : length l.kept.items ≤ l.leaves;
}

abbrev pub decreases-loop-kept : goal.decreases-loop-kept
decreases-loop-kept l = l.leaves - length l.kept.items
