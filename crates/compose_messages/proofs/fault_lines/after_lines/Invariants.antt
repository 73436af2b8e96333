use Rattle.std.proofs.Common.{◌≡◌, drop, length}
use Rattle.compose_text.specs.Lines.{lines_of}
use Rattle.compose_messages.proofs.fault_lines.after_lines.Given as goal

-- the lines that are wanted follow the ones that are left
abbrev pub invariant-loop-behind : goal.invariant-loop-behind
invariant-loop-behind l = drop l.left (lines_of l.rest) ≡ drop l.count (lines_of l.bytes)

abbrev pub decreases-loop-behind : goal.decreases-loop-behind
decreases-loop-behind l = length l.rest
