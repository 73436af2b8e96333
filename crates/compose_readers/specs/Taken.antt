-- The definitions that are taken.
use Rattle.std.specs.Prelude.{◌≡◌, ℕ, List, slice_get, Some}
use Rattle.compose_readers.specs.Definitions.{Definition}
use Rattle.compose_readers.specs.Fates.{Entry, fate_of}
use Rattle.compose_readers.specs.declared.settling.Fate.TheVariants.{Taken}

-- the entry with this index is the definition, and taken
abbrev pub IsTaken : List Entry → ℕ → Definition → Type 0
IsTaken es at d = (slice_get es at ≡ Some (Some d)) × (fate_of es at (Some d) ≡ Taken)
