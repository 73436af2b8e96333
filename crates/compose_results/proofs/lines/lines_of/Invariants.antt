use Rattle.std.proofs.Common.{◌≡◌, ◌++◌, map, length}
use Rattle.compose_text.specs.Lines.{lines_of}
use Rattle.compose_read.specs.Lines.{source_lines}
use Rattle.compose_results.proofs.lines.lines_of.Given as goal

-- the lines so far, and those that are left, are all lines
abbrev pub invariant-loop-line : goal.invariant-loop-line
invariant-loop-line l = map (λ line. line.now) l.lines.items ++ lines_of l.rest ≡ source_lines l.bytes

abbrev pub decreases-loop-line : goal.decreases-loop-line
decreases-loop-line l = length l.rest
