-- Does a file begin like a Compose file? (this project's profile)
use Rattle.std.specs.Prelude.{ℕ, Bool, true, false, List, [], ◌∷◌, Option, Some, None, Result, Ok, Err}
use Rattle.std.specs.Option.{option_map_or}
use Rattle.compose_text.specs.Lines.{lines_of}
use Rattle.compose_lex.specs.Line.{Reading, blank}
use Rattle.compose_lex.specs.Fault.{reading_of}
use Rattle.compose_lex.specs.declared.LexFault.{LexFault}
use Rattle.compose_messages.specs.Places.{text_or_nothing}

-- the line is a production or an include; none for a blank line or a comment
abbrev pub is_table_reading : Result Reading LexFault → Option Bool
is_table_reading (Ok blank) = None
is_table_reading (Ok reading) = Some true
is_table_reading (Err fault) = Some false

abbrev pub line_of_table : List ℕ → Option Bool
line_of_table line = is_table_reading (reading_of (text_or_nothing line))

-- the first of the lines that is not blank and not a comment is a line of a Compose file
abbrev pub begin_as_table : List (List ℕ) → Bool
begin_as_table [] = false
begin_as_table (line ∷ lines) = option_map_or (λ is_table. is_table) (line_of_table line) (begin_as_table lines)

abbrev pub begins_as_table : List ℕ → Bool
begins_as_table bytes = begin_as_table (lines_of bytes)
