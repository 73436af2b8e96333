use Rattle.std.proofs.Common.{◌≡◌, ◌++◌, map, length}
use Rattle.compose_text.specs.Lines.{lines_of}
use Rattle.compose_lint.specs.Lost.{lost_after, lost_lines}
use Rattle.compose_lint.proofs.lost.push_lost.Given as goal

-- the lost lines so far and the lost lines of the remaining bytes are all lost lines
abbrev pub invariant-loop-line : goal.invariant-loop-line
invariant-loop-line l = map (λ x. x.now) l.lost.items ++ lost_after l.marked l.unended l.before (lines_of l.rest) ≡ map (λ x. x.now) l.fn.lost.items ++ lost_lines l.bytes

abbrev pub decreases-loop-line : goal.decreases-loop-line
decreases-loop-line l = length l.rest
