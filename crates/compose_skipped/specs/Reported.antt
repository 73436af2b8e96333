-- The report of skipped lines (this project's format).
use Rattle.std.specs.Prelude.{ℕ, ◌+◌, ◌==◌, if◌then◌else◌, List, [], ◌∷◌, ◌++◌, flat_map, length, map, get_or, Some, string_bytes, codes}
use Rattle.std.specs.Fmt.{decimal}
use Rattle.std.specs.Option.{option_map_or}
use Rattle.compose_read.specs.Lines.{Source}
use Rattle.compose_read.specs.declared.ReadFault.{ReadFault}
use Rattle.compose_shown.specs.Shown.{shown_text}
use Rattle.compose_messages.specs.Messages.{position_text, read_message_text}
use Rattle.compose_messages.specs.Places.{position_of}
use Rattle.compose_messages.specs.declared.position.Position.{Position}
use Rattle.compose_input.specs.declared.tables.TableFiles.{TableFiles}
use Rattle.compose_skipped.specs.Kept.{skipped_faults}

-- ---- a line

-- the path of the file of the source with this index
abbrev pub path_of : List (List ℕ) → ℕ → List ℕ
path_of paths source = get_or paths source []

-- a file, a place in it, and a message (code 10 ends the line)
abbrev pub message_at : List ℕ → Position → List ℕ → List ℕ
message_at path position sentence = codes "composecheck: " ++ shown_text path ++ position_text (Some position) ++ codes ": " ++ sentence ++ 10 ∷ []

-- the line of a fault
abbrev pub skipped_line : List Source → List (List ℕ) → ReadFault → List ℕ
skipped_line sources paths fault = option_map_or (λ (at : ℕ × Position). message_at (path_of paths at.0) at.1 (read_message_text sources fault)) (position_of sources fault) []

abbrev pub fault_lines : TableFiles → List ReadFault → List ℕ
fault_lines table faults = flat_map (skipped_line table.sources (map string_bytes table.paths.items)) faults

-- ---- the report

-- the lines, and the number of skipped lines
pub record Reported : Type 0 where
  pub lines : List ℕ
  pub count : ℕ

abbrev pub nothing : Reported
nothing = record { lines = []; count = 0 }

-- the report with these faults of a table too
abbrev pub with_faults : Reported → TableFiles → List ReadFault → Reported
with_faults r table faults = record { lines = r.lines ++ fault_lines table faults; count = r.count + length faults }

-- the last line, which has the number of skipped lines; none if no line was skipped
abbrev pub count_line : ℕ → List ℕ
count_line count = if count == 0 then [] else if count == 1 then codes "1 faulty line left out\n" else decimal count ++ codes " faulty lines left out\n"

abbrev pub report_of : Reported → List ℕ
report_of r = r.lines ++ count_line r.count

-- the report of the skipped lines of these tables
abbrev pub report_text : List ℕ → List TableFiles → List ℕ
report_text header tables =
    flat_map (λ table. fault_lines table (skipped_faults header table)) tables ++ count_line (length (flat_map (λ table. skipped_faults header table) tables))
