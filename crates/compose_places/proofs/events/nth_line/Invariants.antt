use Rattle.std.proofs.Common.{◌≡◌}
use Rattle.std.specs.Prelude.{slice_get}
use Rattle.compose_text.specs.Lines.{lines_of}
use Rattle.compose_places.proofs.events.nth_line.Given as goal

abbrev pub invariant-loop-left : goal.invariant-loop-left
invariant-loop-left l = slice_get (lines_of l.rest) l.left ≡ slice_get (lines_of l.bytes) l.index

abbrev pub decreases-loop-left : goal.decreases-loop-left
decreases-loop-left l = l.left
