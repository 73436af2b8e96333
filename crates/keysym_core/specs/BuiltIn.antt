-- The names that are built in, as data (`make names` writes it).
use Rattle.std.specs.Prelude.{ℕ, ◌-◌, List, [], ◌∷◌, map, take, drop}
use Rattle.keysym_core.specs.Names.{NameRow, CharacterRow, KeysymNames}
use Rattle.keysym_core.specs.declared.built_in_rows.TheConstants.{TEXT, STARTS, KEYSYMS}
use Rattle.keysym_core.specs.declared.built_in_characters.TheConstants.{CHARACTERS}

-- names with their keysyms, where each name is the part of a text from its own start to the next
-- one
abbrev pub rows_from : List ℕ → List ℕ → List ℕ → List NameRow
rows_from [] keysyms text = []
rows_from (start ∷ []) keysyms text = []
rows_from (start ∷ next ∷ starts) [] text = []
rows_from (start ∷ next ∷ starts) (keysym ∷ keysyms) text =
    record { name = take (next - start) text; value = keysym } ∷ rows_from (next ∷ starts) keysyms (drop (next - start) text)

unfoldable pub built_in_rows : List NameRow
built_in_rows = rows_from STARTS KEYSYMS TEXT.now

unfoldable pub built_in_characters : List CharacterRow
built_in_characters = map (λ r. record { value = r.0; character = r.1 }) CHARACTERS

abbrev pub built_in : KeysymNames
built_in = record { names = built_in_rows; characters = built_in_characters }
