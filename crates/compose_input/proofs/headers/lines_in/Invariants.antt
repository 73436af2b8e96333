use Rattle.std.proofs.Common.{◌≡◌, ◌≤◌, ◌+◌, length}
use Rattle.compose_text.specs.Lines.{lines_of}
use Rattle.compose_input.proofs.headers.lines_in.Given as goal

-- the lines so far and those of the remaining bytes are all lines, and no more lines were counted
-- than bytes
abbrev pub invariant-loop-behind : goal.invariant-loop-behind
invariant-loop-behind l = record {
  lines : l.count + length (lines_of l.rest) ≡ length (lines_of l.bytes);
  few : l.count + length l.rest ≤ length l.bytes;
}

abbrev pub decreases-loop-behind : goal.decreases-loop-behind
decreases-loop-behind l = length l.rest
