-- The place of a definition, and what is printed of it (this project's profile).
use Rattle.std.specs.Prelude.{ℕ, List, [], ◌++◌, map, slice_get, string_bytes, Result, Ok, Err, codes}
use Rattle.std.specs.Option.{option_map_or}
use Rattle.keysym_core.specs.Names.{KeysymNames}
use Rattle.compose_model.specs.Table.{Definition}
use Rattle.compose_shown.specs.Shown.{shown_text}
use Rattle.compose_lex.specs.Escape.{quote}
use Rattle.compose_read.specs.Read.{definitions_of}
use Rattle.compose_read.specs.declared.ReadFault.{ReadFault}
use Rattle.compose_places.specs.Last.{last_with}
use Rattle.compose_places.specs.Places.{definition_places}
use Rattle.compose_places.specs.declared.places.DefinitionPlace.{DefinitionPlace}
use Rattle.compose_messages.specs.Overlaps.{events, overlap_message}
use Rattle.compose_details.specs.Lines.{line, whole_line, path_of}
use Rattle.compose_details.specs.Faulty.{root_of, paths_of}
use Rattle.compose_details.specs.declared.given.GivenTable.{GivenTable}
use Rattle.compose_details.specs.declared.definitions.PlacedTable.{PlacedTable}

-- the sequence by its names, and its text as a terminal may show it
abbrev pub definition_message : KeysymNames → Definition → List ℕ
definition_message names d = codes "the sequence" ++ events names d.sequence ++ codes " gives " ++ shown_text (quote d.text)

-- a line at the place with this index
abbrev pub line_at : List (List ℕ) → List DefinitionPlace → ℕ → List ℕ → List ℕ
line_at paths places index sentence = option_map_or (λ (p : DefinitionPlace). line (path_of paths p.source) (whole_line p.line) sentence) (slice_get places index) []

-- the line of the definition with this index
abbrev pub definition_line : KeysymNames → List (List ℕ) → List Definition → List DefinitionPlace → ℕ → List ℕ
definition_line names paths table places index = option_map_or (λ (d : Definition). line_at paths places index (definition_message names d)) (slice_get table index) []

-- ---- overlaps

-- the shorter sequence: that it is a prefix, and its definition
abbrev pub short_lines : KeysymNames → List (List ℕ) → List Definition → List DefinitionPlace → List ℕ → List ℕ → List ℕ
short_lines names paths table places short long =
    option_map_or (λ index. line_at paths places index (overlap_message names short long) ++ definition_line names paths table places index) (last_with table short) []

abbrev pub long_line : KeysymNames → List (List ℕ) → List Definition → List DefinitionPlace → List ℕ → List ℕ
long_line names paths table places long = option_map_or (definition_line names paths table places) (last_with table long) []

-- both sequences, each at the definition that counts
abbrev pub both_lines : KeysymNames → List (List ℕ) → List Definition → List DefinitionPlace → List ℕ → List ℕ → List ℕ
both_lines names paths table places short long = short_lines names paths table places short long ++ long_line names paths table places long

-- by the definitions that were read from a table
abbrev pub overlap_of : KeysymNames → GivenTable → List ℕ → List ℕ → List Definition → List ℕ
overlap_of names given short long table = both_lines names (paths_of given) table (definition_places given.input.sources.now (root_of given.input.sources.now)) short long

abbrev pub overlap_in : KeysymNames → GivenTable → List ℕ → List ℕ → Result (List Definition) ReadFault → List ℕ
overlap_in names given short long (Err fault) = []
overlap_in names given short long (Ok table) = overlap_of names given short long table

-- the lines of an overlap of a table that can be read
abbrev pub overlap_lines : KeysymNames → GivenTable → List ℕ → List ℕ → List ℕ
overlap_lines names given short long = overlap_in names given short long (definitions_of names given.input.sources.now (root_of given.input.sources.now))

-- ---- of a table that was read

abbrev pub paths_in : PlacedTable → List (List ℕ)
paths_in placed = map (λ path. string_bytes path) placed.paths.now

abbrev pub line_at_place : PlacedTable → ℕ → List ℕ → List ℕ
line_at_place placed index sentence = line_at (paths_in placed) placed.places.now index sentence

abbrev pub line_of_definition : PlacedTable → ℕ → List ℕ
line_of_definition placed index = definition_line placed.names.now (paths_in placed) placed.definitions.now placed.places.now index

abbrev pub short_lines_of : PlacedTable → List ℕ → List ℕ → List ℕ
short_lines_of placed short long = short_lines placed.names.now (paths_in placed) placed.definitions.now placed.places.now short long

abbrev pub long_line_of : PlacedTable → List ℕ → List ℕ
long_line_of placed long = long_line placed.names.now (paths_in placed) placed.definitions.now placed.places.now long

abbrev pub short_lines_at : PlacedTable → List ℕ → List ℕ → ℕ → List ℕ
short_lines_at placed short long index = line_at_place placed index (overlap_message placed.names.now short long) ++ line_of_definition placed index

abbrev pub both_lines_of : PlacedTable → List ℕ → List ℕ → List ℕ
both_lines_of placed short long = short_lines_of placed short long ++ long_line_of placed long
