-- The places of the definitions of a table.
use Rattle.std.specs.Prelude.{ℕ, Bool, true, false, ◌&&◌, nat_lt, if◌then◌else◌, List, [], length, map, filter, take, Result, Ok}
use Rattle.std.specs.Str.{is_utf8}
use Rattle.compose_lex.specs.Line.{Reading, production}
use Rattle.compose_lex.specs.Fault.{reading_of}
use Rattle.compose_lex.specs.declared.LexFault.{LexFault}
use Rattle.compose_read.specs.Lines.{Source, Visit, source_named, visits}
use Rattle.compose_read.specs.Read.{max_lines}
use Rattle.compose_places.specs.declared.places.DefinitionPlace.{DefinitionPlace}

abbrev pub is_production : Result Reading LexFault → Bool
is_production (Ok (production events raw name)) = true
is_production _ = false

-- the line is a definition, or would be if its names were known and its text valid
abbrev pub is_definition_line : List ℕ → Bool
is_definition_line bytes = is_utf8 bytes && is_production (reading_of bytes)

-- the lines that give definitions, in reading order
abbrev pub definition_lines : List Source → List ℕ → List Visit
definition_lines sources root =
    if nat_lt (source_named sources root) (length sources) then filter (λ v. is_definition_line v.bytes) (take max_lines (visits sources (source_named sources root))) else []

-- the place of a line
abbrev pub place_of : Visit → DefinitionPlace
place_of v = record { source = v.source; line = v.line }

abbrev pub definition_places : List Source → List ℕ → List DefinitionPlace
definition_places sources root = map place_of (definition_lines sources root)
