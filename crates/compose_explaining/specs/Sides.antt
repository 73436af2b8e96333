-- What is printed of keys in a table that was read with its lines (defined by this project).
use Rattle.std.specs.Prelude.{ℕ, Bool, false, not, ◌&&◌, ◌==◌, nat_eq, if◌then◌else◌, List, [], ◌∷◌, ◌++◌, length, map, flat_map, slice_get, position, Option, Some, None, is_some, string_bytes}
use Rattle.std.specs.Option.{option_map_or, option_and_then, unwrap_or}
use Rattle.std.specs.List.{starts_with, list_any}
use Rattle.keysym_core.specs.Names.{KeysymNames}
use Rattle.compose_model.specs.Table.{Definition}
use Rattle.compose_model.specs.Nodes.{leaves}
use Rattle.compose_read.specs.Lines.{Source}
use Rattle.compose_tree.specs.Targets.{leaf_text}
use Rattle.compose_places.specs.Counting.{WrittenLine, counting_line, read_lines, sequence_named}
use Rattle.compose_places.specs.Placed.{root_of}
use Rattle.compose_places.specs.declared.placed.PlacedTable.{PlacedTable}
use Rattle.compose_messages.specs.declared.hints.Hint.{Hint}
use Rattle.compose_messages.specs.declared.hints.Hint.TheVariants.{Fresh}
use Rattle.compose_walk.specs.Evidence.{Evidence}
use Rattle.compose_details.specs.Definitions.{definition_message}
use Rattle.compose_details.specs.Lines.{line, path_of, whole_line}
use Rattle.compose_details.specs.Refusals.{hint_line}
use Rattle.compose_details.specs.Sides.{missing_line}
use Rattle.compose_explaining.specs.declared.sides.Side.{Side}

-- a table, the paths of its files, and the line that counts for each of its sequences
pub record Lined : Type 0 where
  pub path : List ℕ
  pub paths : List (List ℕ)
  pub table : List Definition
  pub lines : List (Option WrittenLine)

-- the sequence that a line gives
abbrev pub written_sequence : KeysymNames → Option WrittenLine → Option (List ℕ)
written_sequence names line = option_and_then (λ (w : WrittenLine). sequence_named names w.keys) line

-- its sequence begins with the keys
abbrev pub begins : KeysymNames → List ℕ → Option WrittenLine → Bool
begins names keys line = option_map_or (λ s. starts_with nat_eq s keys) (written_sequence names line) false

-- the first of the lines whose sequence begins with the keys
abbrev pub first_line : KeysymNames → List (Option WrittenLine) → List ℕ → Option ℕ
first_line names lines keys = position (begins names keys) lines

-- the sequence of a line and its text, at its place
abbrev pub written_text : KeysymNames → List (List ℕ) → List ℕ → Option WrittenLine → List ℕ
written_text names paths text None = []
written_text names paths text (Some w) = line (path_of paths w.place.source) (whole_line w.place.line) (definition_message names (record { sequence = unwrap_or (sequence_named names w.keys) []; text = text }))

abbrev pub row_text : KeysymNames → Lined → ℕ → List ℕ
row_text names t index = option_map_or (written_text names t.paths (unwrap_or (leaf_text t.table index) [])) (slice_get t.lines index) []

-- the first sequence that begins with the keys, or that there is none
abbrev pub side_text : KeysymNames → Lined → List ℕ → List ℕ
side_text names t keys = option_map_or (row_text names t) (first_line names t.lines keys) (missing_line names t.path keys)

abbrev pub both_texts : KeysymNames → Lined → Lined → List ℕ → List ℕ
both_texts names old new keys = side_text names old keys ++ side_text names new keys

abbrev pub difference_text : KeysymNames → Lined → Lined → Evidence → List ℕ
difference_text names old new x = both_texts names old new x.keys

abbrev pub difference_texts : KeysymNames → Lined → Lined → List Evidence → List ℕ
difference_texts names old new xs = flat_map (difference_text names old new) xs

-- ---- a key at rest that starts a sequence

abbrev pub is_beginning : KeysymNames → List (Option WrittenLine) → List ℕ → Bool
is_beginning names lines keys = is_some (first_line names lines keys)

abbrev pub lines_begin_anew : KeysymNames → List (Option WrittenLine) → List (Option WrittenLine) → List ℕ → Bool
lines_begin_anew names old new keys = length keys == 1 && not (is_beginning names old keys) && is_beginning names new keys

abbrev pub any_lines_begin_anew : KeysymNames → List (Option WrittenLine) → List (Option WrittenLine) → List Evidence → Bool
any_lines_begin_anew names old new xs = list_any (λ (x : Evidence). lines_begin_anew names old new x.keys) xs

abbrev pub fresh_hint : KeysymNames → List (Option WrittenLine) → List (Option WrittenLine) → List Evidence → Option Hint
fresh_hint names old new xs = if any_lines_begin_anew names old new xs then Some Fresh else None

-- the lines of all differences, and then the hint, once
abbrev pub hinted_texts : KeysymNames → Lined → Lined → List Evidence → List ℕ
hinted_texts names old new xs = difference_texts names old new xs ++ hint_line (fresh_hint names old.lines new.lines xs)

-- ---- of a table that was read

abbrev pub paths_in : Side → List (List ℕ)
paths_in side = map string_bytes side.paths.now

-- as it was built
abbrev pub lined : {T : Type 0} → (T → List Definition) → Side → PlacedTable T → Lined
lined view side placed = record { path = side.path.now; paths = paths_in side; table = view placed.table; lines = placed.lines.items }

-- as its sources say
abbrev pub lined_of : KeysymNames → Side → List Source → List Definition → Lined
lined_of names side sources table = record { path = side.path.now; paths = paths_in side; table = table; lines = map (counting_line names (read_lines sources (root_of sources))) (leaves table) }
