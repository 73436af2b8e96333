use Rattle.std.proofs.Common.{◌≡◌, ◌+◌, ◌≤◌, length, Ok}
use Rattle.compose_text.specs.Lines.{lines_of}
use Rattle.compose_cert.specs.Repertoire.{IsRepertoire, lines_on, repertoire_of}
use Rattle.compose_cert.proofs.repertoire.Repertoire.read.Given as goal

-- the remaining lines lead from the repertoire so far to the same result as all lines, and each
-- line had a byte
abbrev pub invariant-loop-text : goal.invariant-loop-text
invariant-loop-text l =
    (lines_on l.line (lines_of l.rest) (Ok (record { characters = l.characters.items; keys = l.keys.items })) ≡ repertoire_of l.bytes)
    × IsRepertoire (record { characters = l.characters.items; keys = l.keys.items }) × (l.line + length l.rest ≤ length l.bytes + 1)

abbrev pub decreases-loop-text : goal.decreases-loop-text
decreases-loop-text l = length l.rest
