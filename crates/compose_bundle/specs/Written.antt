-- The results of reading and writing a bundle.
use Rattle.std.specs.Prelude.{◌≡◌, ℕ, ◌<◌, ◌≤◌, ◌^◌, List, ◌++◌, length, take, flat_map, Option, None, Result, Ok, Err}
use Rattle.std.specs.Int.{to_be_bytes, w16}
use Rattle.std.specs.declared.alloc.Global.{Global}
use Rattle.std.specs.declared.vec.Vec.{Vec}
use Rattle.compose_read.specs.Lines.{Source}
use Rattle.compose_bundle.specs.Bundle.{Bundle, BundleFits, IsBundle, source_bytes, bundle_bytes}
use Rattle.compose_bundle.specs.declared.BundleFault.{BundleFault}
use Rattle.compose_bundle.specs.declared.BundleFault.TheVariants as bundle_faults

-- the largest payload of a load, in bytes
abbrev pub max_payload : ℕ
max_payload = 8388608

-- why the payload is not read as a bundle: it is none, or memory ran out
abbrev pub NotRead : BundleFault → List ℕ → Type 0
NotRead bundle_faults.Form payload = (b : Bundle) → IsBundle payload b → ⊥
NotRead bundle_faults.TooLarge payload = ⊥
NotRead bundle_faults.NoMemory payload = Unit {0}

-- why bytes are not decoded in this way
abbrev pub NotDecoded : {A : Type 0} → BundleFault → Option A → Type 0
NotDecoded bundle_faults.Form o = o ≡ None
NotDecoded bundle_faults.TooLarge o = ⊥
NotDecoded bundle_faults.NoMemory o = Unit {0}

-- the piece, which has the property P, was appended, and the whole is a payload; or it would be too
-- large
abbrev pub Appends : Type 0 → List ℕ → List ℕ → Result (Unit {0}) BundleFault → List ℕ → Type 0
Appends P old piece (Ok u) new = P × (new ≡ old ++ piece) × (length new ≤ max_payload)
Appends P old piece (Err bundle_faults.TooLarge) new = P → max_payload < length (old ++ piece)
Appends P old piece (Err bundle_faults.Form) new = ⊥
Appends P old piece (Err bundle_faults.NoMemory) new = Unit {0}

-- the same for any piece
abbrev pub AppendsAlways : List ℕ → List ℕ → Result (Unit {0}) BundleFault → List ℕ → Type 0
AppendsAlways old piece result new = Appends (Unit {0}) old piece result new

-- both lengths of a source fit into their bytes
pub record HasLengths (s : Source) : Type 0 where
  pub name : length s.name < 2 ^ 16
  pub content : length s.bytes < 2 ^ 32

-- the number of sources, followed by the first ones up to this index
abbrev pub so_far : List Source → ℕ → List ℕ
so_far sources index = to_be_bytes w16 (length sources) ++ flat_map source_bytes (take index sources)

-- the payload is the bundle; or no load can carry it; or memory ran out
abbrev pub Writes : Result (Vec ℕ Global) BundleFault → Bundle → Type 0
Writes (Ok payload) b = IsBundle payload.items b × (length payload.items ≤ max_payload)
Writes (Err bundle_faults.TooLarge) b = BundleFits b → max_payload < length (bundle_bytes b)
Writes (Err bundle_faults.Form) b = ⊥
Writes (Err bundle_faults.NoMemory) b = Unit {0}
