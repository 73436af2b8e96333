use Rattle.std.proofs.Common.{◌≡◌, ◌++◌, ◌+◌, ◌<◌, ◌^◌, map, length}
use Rattle.compose_text.specs.Lines.{lines_of}
use Rattle.compose_read.specs.Lines.{numbered}
use Rattle.compose_lint.specs.Lines.{lint_line, lines_in}
use Rattle.compose_lint.proofs.lines.lines_in.Given as goal

-- the lines so far, and those of the remaining bytes, are those of the source
abbrev pub invariant-loop-bytes : goal.invariant-loop-bytes
invariant-loop-bytes l = record {
  read : l.lines.items ++ map (lint_line l.names l.sources) (numbered l.source 0 (1 + l.line) (lines_of l.rest)) ≡ lines_in l.names l.sources l.source;
  counted : l.line + length l.rest < 2 ^ 63;
}

abbrev pub decreases-loop-bytes : goal.decreases-loop-bytes
decreases-loop-bytes l = length l.rest
