use Rattle.std.proofs.Common.{◌≡◌, ◌≤◌, ◌+◌, ◌++◌, length}
use Rattle.compose_text.specs.Lines.{lines_of}
use Rattle.compose_find.specs.Includes.{includes_of, includes_from}
use Rattle.compose_find.proofs.includes.includes_of.Given as goal

-- the includes so far and those of the remaining lines are all, and no more lines were read than
-- there are bytes
abbrev pub invariant-loop-bytes : goal.invariant-loop-bytes
invariant-loop-bytes l = (l.found.items ++ includes_from (1 + l.line) (lines_of l.rest) ≡ includes_of l.source) × (l.line + length l.rest ≤ length l.source)

abbrev pub decreases-loop-bytes : goal.decreases-loop-bytes
decreases-loop-bytes l = length l.rest
