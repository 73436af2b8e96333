use Rattle.std.proofs.Common.{◌≡◌, ◌≤◌, List, length}
use Rattle.compose_read.specs.Lines.{Source}
use Rattle.compose_read.specs.Visits.{left_from}
use Rattle.compose_read.proofs.visits.take_line.Given as goal

-- the sources that were closed have no line left
abbrev pub invariant-loop-top : goal.invariant-loop-top
invariant-loop-top l = record {
  left : (sources : List Source) → left_from sources 0 l.fn.opened.items ≡ left_from sources 0 l.opened.items;
  few : length l.opened.items ≤ 9;
}

abbrev pub decreases-loop-top : goal.decreases-loop-top
decreases-loop-top l = length l.opened.items
