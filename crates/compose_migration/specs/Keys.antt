-- Key names, each of which has to name a keysym (this project's format: docs/FORMATS.md, "Names of
-- keysyms").
use Rattle.std.specs.Prelude.{ℕ, List, map, position, Option, is_none, Result, Ok, Err}
use Rattle.std.specs.Option.{option_map_or, option_to_list}
use Rattle.std.specs.List.{flat_map}
use Rattle.keysym_core.specs.Names.{KeysymNames, value}

-- all values if each is there, or the index of the first that is not
abbrev pub all_there : List (Option ℕ) → Result (List ℕ) ℕ
all_there values = option_map_or (λ i. Err i) (position is_none values) (Ok (flat_map option_to_list values))

-- the keysyms of the key names, or the index of the first key name that has none
abbrev pub keys_of : KeysymNames → List (List ℕ) → Result (List ℕ) ℕ
keys_of names key_names = all_there (map (value names) key_names)
