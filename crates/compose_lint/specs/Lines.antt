-- The lines of the sources, each once, and their definitions.
use Rattle.std.specs.Prelude.{ℕ, Bool, not, ◌+◌, ◌==◌, nat_lt, if◌then◌else◌, List, [], ◌∷◌, length, take, map, filter, flat_map, slice_get, Option, None, Result, Ok, Err}
use Rattle.std.specs.Option.{option_map_or, option_and_then}
use Rattle.keysym_core.specs.Names.{KeysymNames}
use Rattle.compose_model.specs.Table.{Definition}
use Rattle.compose_read.specs.Lines.{Source, Visit, own_lines, source_named, visits}
use Rattle.compose_read.specs.Read.{line_result, max_lines}
use Rattle.compose_read.specs.declared.ReadFault.{ReadFault}
use Rattle.compose_lint.specs.Productions.{Written, comment_of, definition_given, production_of, written_of}

-- a line: the index of its source, its number from 1, its bytes, its string and result name, its
-- definition, and the comment after its string
pub record LintLine : Type 0 where
  pub source : ℕ
  pub line : ℕ
  pub bytes : List ℕ
  pub written : Option Written
  pub definition : Option Definition
  pub comment : Option (List ℕ)

-- the definition in the result of reading a line; a faulty line has none
abbrev pub definition_in : Result (Option Definition) ReadFault → Option Definition
definition_in (Ok definition) = definition
definition_in (Err fault) = None

abbrev pub lint_line : KeysymNames → List Source → Visit → LintLine
lint_line names sources v = record { source = v.source; line = v.line; bytes = v.bytes; written = written_of v.bytes; definition = definition_in (line_result names sources v); comment = comment_of v.bytes }

-- the line by its bytes, for private functions
abbrev pub line_read : KeysymNames → ℕ → ℕ → List ℕ → LintLine
line_read names source line bytes = record { source = source; line = line; bytes = bytes; written = written_of bytes; definition = option_and_then (definition_given names) (production_of bytes); comment = comment_of bytes }

-- the lines of a source
abbrev pub lines_in : KeysymNames → List Source → ℕ → List LintLine
lines_in names sources source = map (lint_line names sources) (own_lines sources source 0)

-- the lines that are read from the source with this index, includes in place
abbrev pub read_from : List Source → ℕ → List Visit
read_from sources source =
    option_map_or (λ (s : Source). if nat_lt (source_named sources s.name) (length sources) then take max_lines (visits sources (source_named sources s.name)) else []) (slice_get sources source) []

-- those of other sources among them, which the source includes
abbrev pub included_lines : KeysymNames → List Source → ℕ → List LintLine
included_lines names sources source = map (lint_line names sources) (filter (λ v. not (v.source == source)) (read_from sources source))

-- a source: its bytes, its lines, and the lines that it includes, if these are wanted
pub record SourceLines : Type 0 where
  pub bytes : List ℕ
  pub lines : List LintLine
  pub included : List LintLine

abbrev pub lint_source : KeysymNames → List Source → Bool → ℕ → Source → SourceLines
lint_source names sources is_all i s = record { bytes = s.bytes; lines = lines_in names sources i; included = if is_all then included_lines names sources i else [] }

-- these sources, the first of which has this index
abbrev pub sources_from : KeysymNames → List Source → Bool → ℕ → List Source → List SourceLines
sources_from names sources is_all i [] = []
sources_from names sources is_all i (s ∷ rest) = lint_source names sources is_all i s ∷ sources_from names sources is_all (1 + i) rest

abbrev pub all_sources : KeysymNames → List Source → Bool → List SourceLines
all_sources names sources is_all = sources_from names sources is_all 0 sources

-- the lines of all sources, each once
abbrev pub all_lines : List SourceLines → List LintLine
all_lines files = flat_map (λ f. f.lines) files
