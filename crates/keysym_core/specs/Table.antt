-- A table of names: the rows that its columns hold, and the properties of these.
use Rattle.std.specs.Prelude.{◌≡◌, ℕ, ◌+◌, Bool, true, ◌&&◌, not, ◌==◌, nat_eq, if◌then◌else◌, List, [], ◌∷◌, ◌++◌, map, Option, Some, None, is_some, string_bytes}
use Rattle.std.specs.declared.string.String.{String}
use Rattle.std.specs.declared.alloc.Global.{Global}
use Rattle.std.specs.List.{list_all}
use Rattle.std.specs.Map.{lookup}
use Rattle.std.specs.Option.{option_map_or}
use Rattle.keysym_core.specs.Keysym.{is_keysym}
use Rattle.keysym_core.specs.GivenCharacters.{IsEachFirst, AreKeysyms}
use Rattle.keysym_core.specs.Printed.{first_name}
use Rattle.keysym_core.specs.Names.{NameRow, CharacterRow, row_value, form_value}

-- the rows of a map from names to keysyms
abbrev pub name_rows : List (String Global × ℕ) → List NameRow
name_rows entries = map (λ e. record { name = string_bytes e.0; value = e.1 }) entries

-- the rows of a map from keysyms to characters
abbrev pub character_rows : List (ℕ × ℕ) → List CharacterRow
character_rows entries = map (λ e. record { value = e.0; character = e.1 }) entries

-- the index of the first row with this value, if the first of these rows has the index `at`
abbrev pub index_from : ℕ → ℕ → List NameRow → Option ℕ
index_from k at [] = None
index_from k at (row ∷ rows) = if k == row.value then Some at else index_from k (at + 1) rows

-- the map has, for each value, the index of the first row with it
abbrev pub ShowsFirstIndexes : List (ℕ × ℕ) → List NameRow → Type 0
ShowsFirstIndexes indexes rows = (k : ℕ) → lookup (nat_eq k) indexes ≡ index_from k 0 rows

-- the first name of each value looks up as that value
abbrev pub FirstNamesLookUp : List NameRow → Type 0
FirstNamesLookUp rows = (k : ℕ) (n : List ℕ) → first_name rows k ≡ Some n → row_value rows n ≡ Some k

-- a name in one of the two forms has the keysym that it writes
abbrev pub agrees_with_form : NameRow → Bool
agrees_with_form row = option_map_or (λ v. v == row.value) (form_value row.name) true

-- a row that can be added after these rows: its name is new, and looks up as the value of the row
abbrev pub is_addable : List NameRow → NameRow → Bool
is_addable rows row = not (is_some (row_value rows row.name)) && agrees_with_form row && is_keysym row.value

-- rows that can be added after these rows one after another
abbrev pub are_addable : List NameRow → List NameRow → Bool
are_addable rows [] = true
are_addable rows (row ∷ others) = is_addable rows row && are_addable (rows ++ row ∷ []) others

-- the properties of the columns of a table
pub record IsTable (indexes : List (ℕ × ℕ)) (names : List NameRow) (characters : List CharacterRow) : Type 0 where
  pub first_indexes : ShowsFirstIndexes indexes names
  pub agree : list_all agrees_with_form names ≡ true
  pub first_names : FirstNamesLookUp names
  pub each_first : IsEachFirst characters
  pub keysyms : AreKeysyms characters
