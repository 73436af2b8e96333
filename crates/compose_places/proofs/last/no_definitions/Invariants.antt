use Rattle.std.proofs.Common.{◌≡◌, ◌≤◌, ◌-◌, length}
use Rattle.std.specs.Prelude.{None, replicate}
use Rattle.compose_places.proofs.last.no_definitions.Given as goal

abbrev pub invariant-loop-last : goal.invariant-loop-last
invariant-loop-last l = record {
  none : l.last.items ≡ replicate (length l.last.items) None;
  few : length l.last.items ≤ l.leaves;
}

abbrev pub decreases-loop-last : goal.decreases-loop-last
decreases-loop-last l = l.leaves - length l.last.items
