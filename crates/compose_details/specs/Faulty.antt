-- What is printed of the faulty lines of a table (this project's profile): each once, at most
-- twenty.
use Rattle.std.specs.Prelude.{ℕ, Bool, ◌&&◌, ◌==◌, if◌then◌else◌, List, [], ◌∷◌, ◌++◌, take, map, flat_map, slice_get, string_bytes, Some, None}
use Rattle.std.specs.List.{list_any}
use Rattle.std.specs.Option.{unwrap_or, option_map_or}
use Rattle.keysym_core.specs.Names.{KeysymNames}
use Rattle.compose_read.specs.Lines.{Source}
use Rattle.compose_read.specs.Read.{max_lines}
use Rattle.compose_read.specs.Faults.{faults_of}
use Rattle.compose_read.specs.declared.ReadFault.{ReadFault}
use Rattle.compose_messages.specs.Places.{line_of, position_of}
use Rattle.compose_messages.specs.Messages.{read_message_text}
use Rattle.compose_messages.specs.declared.position.Position.{Position}
use Rattle.compose_details.specs.Lines.{line, path_of}
use Rattle.compose_details.specs.declared.given.GivenTable.{GivenTable}

-- the source and the line of a fault; line 0 if it has none
abbrev pub place_of : ReadFault → ℕ × ℕ
place_of fault = unwrap_or (line_of fault) (0, 0)

abbrev pub is_among : List (ℕ × ℕ) → ℕ × ℕ → Bool
is_among places at = list_any (λ p. p.0 == at.0 && p.1 == at.1) places

-- the faults in order, without those in lines that were reported or that have an earlier fault
abbrev pub each_once : List (ℕ × ℕ) → List ReadFault → List ReadFault
each_once reported [] = []
each_once reported (f ∷ fs) = if is_among reported (place_of f) then each_once reported fs else f ∷ each_once (reported ++ place_of f ∷ []) fs

abbrev pub max_reported : ℕ
max_reported = 20

-- the line of a fault: its file and place, or the manifest if it is in no line
abbrev pub fault_line : List Source → List ℕ → List (List ℕ) → ReadFault → List ℕ
fault_line sources manifest paths fault =
    option_map_or (λ (at : ℕ × Position). line (path_of paths at.0) (Some at.1) (read_message_text sources fault)) (position_of sources fault) (line manifest None (read_message_text sources fault))

-- the faults that are reported: the first one, and then the others of the table
abbrev pub reported_faults : KeysymNames → List Source → List ℕ → ReadFault → List ReadFault
reported_faults names sources root first = take max_reported (each_once [] (first ∷ take max_lines (faults_of names sources root)))

abbrev pub faulty_lines : KeysymNames → List Source → List ℕ → List (List ℕ) → List ℕ → ReadFault → List ℕ
faulty_lines names sources manifest paths root first = flat_map (fault_line sources manifest paths) (reported_faults names sources root first)

-- ---- of a table as it was given: its root is the first source

abbrev pub root_of : List Source → List ℕ
root_of sources = option_map_or (λ (s : Source). s.name) (slice_get sources 0) []

abbrev pub paths_of : GivenTable → List (List ℕ)
paths_of table = map (λ path. string_bytes path) table.paths.now

abbrev pub line_of_fault : GivenTable → ReadFault → List ℕ
line_of_fault table fault = fault_line table.input.sources.now table.manifest.now (paths_of table) fault

abbrev pub lines_of_table : KeysymNames → GivenTable → ReadFault → List ℕ
lines_of_table names table first = faulty_lines names table.input.sources.now table.manifest.now (paths_of table) (root_of table.input.sources.now) first
