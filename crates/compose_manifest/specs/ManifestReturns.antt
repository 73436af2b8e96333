-- The results of reading a manifest, unless memory runs out.
use Rattle.std.specs.Prelude.{◌≡◌, ℕ, List, Result, Ok, Err}
use Rattle.std.proofs.Common.{Bor}
use Rattle.compose_manifest.specs.Manifest.{Listing, ManifestEntry, with_line}
use Rattle.compose_manifest.specs.declared.manifest.ManifestFault.{ManifestFault}
use Rattle.compose_manifest.specs.declared.manifest.ManifestFault.TheVariants.{NoMemory}

abbrev pub ManifestReturns : Result Listing ManifestFault → Result Listing ManifestFault → Type 0
ManifestReturns (Ok listing) expected = expected ≡ Ok listing
ManifestReturns (Err NoMemory) expected = Unit {0}
ManifestReturns (Err fault) expected = expected ≡ Err fault

-- the result of adding a line, and the listing after it
abbrev pub AddReturns : Result Listing ManifestFault → Result (Unit {0}) ManifestFault → Listing → Type 0
AddReturns expected (Ok done) new = expected ≡ Ok new
AddReturns expected (Err NoMemory) new = Unit {0}
AddReturns expected (Err fault) new = expected ≡ Err fault

abbrev pub LineReturns : ℕ → Listing → List ℕ → Result (Unit {0}) ManifestFault → Listing → Type 0
LineReturns number old line result new = AddReturns (with_line number old line) result new

-- the two parts of a line, as an entry
abbrev pub entry : Bor (List ℕ) × Bor (List ℕ) → ManifestEntry
entry parts = record { name = parts.0.now; path = parts.1.now }
