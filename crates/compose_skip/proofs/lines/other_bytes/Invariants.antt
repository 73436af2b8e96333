use Rattle.std.proofs.Common.{◌≡◌, ◌≤◌, ◌+◌, ◌++◌, length}
use Rattle.std.specs.List.{filter_map}
use Rattle.compose_text.specs.Lines.{lines_of}
use Rattle.compose_read.specs.Lines.{numbered}
use Rattle.compose_skip.specs.Faulty.{lines_in, left_fault}
use Rattle.compose_skip.specs.Written.{mark, written}
use Rattle.compose_skip.proofs.lines.other_bytes.Given as goal

abbrev pub invariant-loop-own : goal.invariant-loop-own
invariant-loop-own l = record {
  kept : l.kept.items ++ written l.names (numbered l.source 0 (1 + l.line) (lines_of l.rest)) ≡ mark ++ written l.names (lines_in l.source l.bytes);
  faults : l.faults.items ++ filter_map (left_fault l.names) (numbered l.source 0 (1 + l.line) (lines_of l.rest)) ≡ l.fn.faults.items ++ filter_map (left_fault l.names) (lines_in l.source l.bytes);
  within : l.line + length l.rest ≤ length l.bytes;
}

abbrev pub decreases-loop-own : goal.decreases-loop-own
decreases-loop-own l = length l.rest
