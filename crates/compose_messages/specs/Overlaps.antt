-- The message for an overlap (this project's profile): its two sequences by names.
use Rattle.std.specs.Prelude.{ℕ, List, [], ◌∷◌, ◌++◌, flat_map, codes}
use Rattle.keysym_core.specs.Names.{KeysymNames}
use Rattle.keysym_core.specs.Printed.{printed}

-- a blank, and the keysym as a table writes an event (codes 32, 60 and 62)
abbrev pub event : KeysymNames → ℕ → List ℕ
event names k = 32 ∷ 60 ∷ (printed names k ++ 62 ∷ [])

abbrev pub events : KeysymNames → List ℕ → List ℕ
events names sequence = flat_map (event names) sequence

abbrev pub overlap_message : KeysymNames → List ℕ → List ℕ → List ℕ
overlap_message names short long = codes "the sequence" ++ events names short ++ codes " is a prefix of the sequence" ++ events names long
