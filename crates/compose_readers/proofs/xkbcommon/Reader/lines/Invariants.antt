use Rattle.std.proofs.Common.{◌≡◌, ◌++◌, length}
use Rattle.compose_readers.specs.Files.{untold, empties}
use Rattle.compose_readers.proofs.xkbcommon.Reader.lines.Given as goal

-- the lines so far, and then the others
abbrev pub invariant-loop-line : goal.invariant-loop-line
invariant-loop-line l = untold l.lines.items ++ empties l.rest ≡ empties l.fn.bytes

abbrev pub decreases-loop-line : goal.decreases-loop-line
decreases-loop-line l = length l.rest
