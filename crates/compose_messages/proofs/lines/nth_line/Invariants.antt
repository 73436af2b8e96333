use Rattle.std.proofs.Common.{◌≡◌, length}
use Rattle.std.specs.Prelude.{[], get_or}
use Rattle.compose_text.specs.Lines.{lines_of}
use Rattle.compose_messages.proofs.lines.nth_line.Given as goal

-- the wanted line is one of those that are left
abbrev pub invariant-loop-line : goal.invariant-loop-line
invariant-loop-line l = get_or (lines_of l.rest) l.left [] ≡ get_or (lines_of l.bytes) l.index []

abbrev pub decreases-loop-line : goal.decreases-loop-line
decreases-loop-line l = length l.rest
