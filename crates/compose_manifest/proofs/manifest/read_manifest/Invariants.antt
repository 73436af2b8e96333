use Rattle.std.proofs.Common.{◌≡◌, ◌≤◌, ◌+◌, length, false}
use Rattle.std.specs.Prelude.{Ok, None, []}
use Rattle.compose_text.specs.Lines.{lines_of}
use Rattle.compose_manifest.specs.Manifest.{Listing, lines_on}
use Rattle.compose_manifest.proofs.manifest.read_manifest.Given as goal

abbrev nothing : Listing
nothing = record { rule = None; paths_here = false; entries = [] }

-- the remaining lines lead from the listing so far to the same result as all lines, and no more
-- lines were read than there are bytes
abbrev pub invariant-loop-line : goal.invariant-loop-line
invariant-loop-line l =
    (lines_on (1 + l.number) (lines_of l.rest) (Ok l.manifest) ≡ lines_on 1 (lines_of l.bytes) (Ok nothing))
    × (l.number + length l.rest ≤ length l.bytes)

abbrev pub decreases-loop-line : goal.decreases-loop-line
decreases-loop-line l = length l.rest
