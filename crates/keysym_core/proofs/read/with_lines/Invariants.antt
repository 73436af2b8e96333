use Rattle.std.proofs.Common.{◌≡◌, ◌+◌, ◌≤◌, length, Ok}
use Rattle.compose_text.specs.Lines.{lines_of}
use Rattle.keysym_core.specs.Header.{with_lines}
use Rattle.keysym_core.proofs.read.with_lines.Given as goal

-- the lines that are left lead to the result of all of them, and no more lines were read than there
-- are bytes
abbrev pub invariant-loop-bytes : goal.invariant-loop-bytes
invariant-loop-bytes l =
    (with_lines (Ok l.grown) (l.line + 1) (lines_of l.rest) ≡ with_lines (Ok l.fn.table) 1 (lines_of l.header)) × (l.line + length l.rest ≤ length l.header)

abbrev pub decreases-loop-bytes : goal.decreases-loop-bytes
decreases-loop-bytes l = length l.rest
