-- What is printed of keys in a table, and of the keys on which two tables differ (this project's
-- profile).
use Rattle.std.specs.Prelude.{ℕ, Bool, false, not, ◌&&◌, ◌==◌, nat_eq, if◌then◌else◌, List, [], ◌∷◌, ◌++◌, length, flat_map, slice_get, Option, Some, None, is_some, codes}
use Rattle.std.specs.Option.{option_map_or}
use Rattle.std.specs.List.{starts_with, list_any}
use Rattle.compose_model.specs.Table.{Definition}
use Rattle.keysym_core.specs.Names.{KeysymNames}
use Rattle.compose_places.specs.declared.places.DefinitionPlace.{DefinitionPlace}
use Rattle.compose_messages.specs.Overlaps.{events}
use Rattle.compose_messages.specs.declared.hints.Hint.{Hint}
use Rattle.compose_messages.specs.declared.hints.Hint.TheVariants.{Fresh}
use Rattle.compose_walk.specs.Evidence.{Evidence}
use Rattle.compose_details.specs.Lines.{line}
use Rattle.compose_details.specs.Definitions.{definition_line, paths_in}
use Rattle.compose_details.specs.Refusals.{hint_line}
use Rattle.compose_details.specs.declared.sides.SideTable.{SideTable}

-- the sequence of the definition with this index begins with the keys
abbrev pub begins : List Definition → List ℕ → ℕ → Bool
begins table keys index = option_map_or (λ (d : Definition). starts_with nat_eq d.sequence keys) (slice_get table index) false

-- the first of the definitions that count, in the order of their sequences, whose sequence begins
-- with the keys
abbrev pub first_beginning : List Definition → List ℕ → List (Option ℕ) → Option ℕ
first_beginning table keys [] = None
first_beginning table keys (None ∷ counting) = first_beginning table keys counting
first_beginning table keys (Some index ∷ counting) = if begins table keys index then Some index else first_beginning table keys counting

-- that no sequence begins this way, at the manifest
abbrev pub missing_line : KeysymNames → List ℕ → List ℕ → List ℕ
missing_line names manifest keys = line manifest None (codes "no sequence begins with" ++ events names keys)

-- the line of the first sequence that begins with the keys, at the definition that counts; or that
-- there is none
abbrev pub keys_line : KeysymNames → List ℕ → List (List ℕ) → List Definition → List DefinitionPlace → List (Option ℕ) → List ℕ → List ℕ
keys_line names manifest paths table places counting keys =
    option_map_or (definition_line names paths table places) (first_beginning table keys counting) (missing_line names manifest keys)

-- ---- of a table that was read

abbrev pub side_line : SideTable → List ℕ → List ℕ
side_line side keys = keys_line side.placed.names.now side.manifest.now (paths_in side.placed) side.placed.definitions.now side.placed.places.now side.counting.now keys

abbrev pub difference_lines : SideTable → SideTable → List ℕ → List ℕ
difference_lines old new keys = side_line old keys ++ side_line new keys

abbrev pub lines_of_difference : SideTable → SideTable → Evidence → List ℕ
lines_of_difference old new x = difference_lines old new x.keys

-- the lines of all differences
abbrev pub lines_of_differences : SideTable → SideTable → List Evidence → List ℕ
lines_of_differences old new differences = flat_map (lines_of_difference old new) differences

-- ---- a key at rest that starts a sequence

-- whether the sequence of a definition that counts begins with the keys
abbrev pub is_beginning : SideTable → List ℕ → Bool
is_beginning side keys = is_some (first_beginning side.placed.definitions.now keys side.counting.now)

-- a single key with which no sequence of the old table begins, but one of the new table does
abbrev pub begins_anew : SideTable → SideTable → List ℕ → Bool
begins_anew old new keys = length keys == 1 && not (is_beginning old keys) && is_beginning new keys

abbrev pub any_begins_anew : SideTable → SideTable → List Evidence → Bool
any_begins_anew old new differences = list_any (λ (x : Evidence). begins_anew old new x.keys) differences

-- the hint about fresh keysyms helps if a difference is such a key
abbrev pub differences_hint : SideTable → SideTable → List Evidence → Option Hint
differences_hint old new differences = if any_begins_anew old new differences then Some Fresh else None

-- the lines of all differences, and then the hint, once
abbrev pub hinted_differences : SideTable → SideTable → List Evidence → List ℕ
hinted_differences old new differences = lines_of_differences old new differences ++ hint_line (differences_hint old new differences)
