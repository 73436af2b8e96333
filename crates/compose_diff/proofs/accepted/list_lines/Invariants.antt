use Rattle.std.proofs.Common.{◌≡◌, ◌≤◌, ◌+◌, ◌++◌, length}
use Rattle.compose_text.specs.Lines.{lines_of}
use Rattle.compose_diff.specs.Accepted.{list_lines_from}
use Rattle.compose_diff.proofs.accepted.list_lines.Given as goal

-- the lines so far and those of the remaining bytes are all lines, and no more lines were read than
-- bytes
abbrev pub invariant-loop-text : goal.invariant-loop-text
invariant-loop-text l = record {
  lines : l.lines.items ++ list_lines_from (1 + l.number) (lines_of l.rest) ≡ list_lines_from 1 (lines_of l.bytes);
  count : l.number + length l.rest ≤ length l.bytes;
}

abbrev pub decreases-loop-text : goal.decreases-loop-text
decreases-loop-text l = length l.rest
