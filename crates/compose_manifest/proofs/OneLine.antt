-- One more line of a manifest: the listing goes on, or the fault is that of the whole manifest.
use Rattle.std.proofs.Common.{◌≡◌, ℕ, ◌+◌, List, ◌∷◌, sym, ◌∙◌, ap, arith}
use Rattle.std.specs.Prelude.{Result, Ok, Err}
use Rattle.compose_manifest.specs.Manifest.{Listing, with_line, lines_on, some_entries}
use Rattle.compose_manifest.specs.ManifestReturns.{ManifestReturns, AddReturns}
use Rattle.compose_manifest.specs.declared.manifest.ManifestFault.{ManifestFault}
use Rattle.compose_manifest.specs.declared.manifest.ManifestFault.TheVariants.{BadLine, Empty, NoMemory}

swapped : (n : ℕ) → 1 + n ≡ n + 1
swapped n = omega arith

-- the content of line `number + 1`, before the lines after it
pub line_message : (number : ℕ) (listing : Listing) (line : List ℕ) (lines : List (List ℕ)) (expected : Result Listing ManifestFault) → with_line (number + 1) listing line ≡ expected
    → lines_on (1 + number) (line ∷ lines) (Ok listing) ≡ lines_on (1 + (number + 1)) lines expected
line_message number listing line lines expected e =
    ap (λ n. lines_on (1 + n) lines (with_line n listing line)) (swapped number) ∙ ap (lines_on (1 + (number + 1)) lines) e

-- a fault of one line of a manifest is the fault of the manifest from that line on
pub line_stops : (number : ℕ) (listing new : Listing) (line : List ℕ) (lines : List (List ℕ)) (all : Result Listing ManifestFault) (fault : ManifestFault)
    → AddReturns (with_line (number + 1) listing line) (Err fault) new → lines_on (1 + number) (line ∷ lines) (Ok listing) ≡ all → ManifestReturns (Err fault) (some_entries all)
line_stops number listing new line lines all NoMemory e f = tt
line_stops number listing new line lines all (BadLine n) e f = ap some_entries (sym f ∙ line_message number listing line lines (Err (BadLine n)) e)
line_stops number listing new line lines all Empty e f = ap some_entries (sym f ∙ line_message number listing line lines (Err Empty) e)
