-- The findings in tables, each with the table's data that its row needs.
use Rattle.std.specs.Prelude.{ℕ, ◌-◌, Bool, true, false, if◌then◌else◌, List, [], take, map, filter, flat_map, slice_get}
use Rattle.std.specs.Option.{option_map_or}
use Rattle.keysym_core.specs.Names.{KeysymNames}
use Rattle.compose_read.specs.Lines.{Source}
use Rattle.compose_read.specs.Faults.{faults_of}
use Rattle.compose_read.specs.declared.ReadFault.{ReadFault}
use Rattle.compose_read.specs.declared.ReadFault.TheVariants.{MissingInclude, IncludeDepth}
use Rattle.compose_messages.specs.Places.{line_at}
use Rattle.compose_lint.specs.Findings.{findings}
use Rattle.compose_lint.specs.Lines.{LintLine, SourceLines, all_sources}
use Rattle.compose_lint.specs.declared.finding.Finding.{Finding}
use Rattle.compose_lint.specs.declared.reader.Readers.{Readers}

-- a table: its sources, the path of each source's file, and whether its faulty lines are skipped
pub record Table : Type 0 where
  pub sources : List Source
  pub paths : List (List ℕ)
  pub skip_faulty : Bool

-- a finding, the sources, the paths and the first faults of its table, and the bytes of its line
pub record Row : Type 0 where
  pub sources : List Source
  pub paths : List (List ℕ)
  pub faults : List ReadFault
  pub finding : Finding
  pub bytes : List ℕ

-- the name of the first source, from which a table is read; empty if there is none
abbrev pub root_of : List Source → List ℕ
root_of sources = option_map_or (λ (s : Source). s.name) (slice_get sources 0) []

abbrev pub max_faults : ℕ
max_faults = 1000

-- the first of the faults of the table
abbrev pub first_faults : KeysymNames → List Source → List ReadFault
first_faults names sources = take max_faults (faults_of names sources (root_of sources))

-- the fault of an include, whose line is valid by itself
abbrev pub is_of_include : ReadFault → Bool
is_of_include (MissingInclude source line) = true
is_of_include (IncludeDepth source line) = true
is_of_include fault = false

-- the reported faults, except those of skipped lines
abbrev pub left_faults : Bool → List ReadFault → List ReadFault
left_faults skip_faulty faults = if skip_faulty then filter is_of_include faults else faults

abbrev pub table_faults : KeysymNames → Table → List ReadFault
table_faults names t = left_faults t.skip_faulty (first_faults names t.sources)

abbrev pub row_of : Table → List ReadFault → Finding → Row
row_of t faults f = record { sources = t.sources; paths = t.paths; faults = faults; finding = f; bytes = line_at t.sources f.source f.line }

-- the findings in the lines of a table, in order, if these are its faults
abbrev pub rows_by : KeysymNames → Readers → Bool → Table → List ReadFault → List Row
rows_by names readers is_all t faults = map (row_of t faults) (findings names readers is_all faults t.sources)

abbrev pub table_rows : KeysymNames → Readers → Bool → Table → List Row
table_rows names readers is_all t = rows_by names readers is_all t (table_faults names t)

-- the findings in the tables, in the order of the tables
abbrev pub rows_in : KeysymNames → Readers → Bool → List Table → List Row
rows_in names readers is_all tables = flat_map (table_rows names readers is_all) tables

-- ---- definitions for private functions

-- the bytes of the line of the finding in these files
abbrev pub bytes_in : List SourceLines → Finding → List ℕ
bytes_in files f = option_map_or (λ (file : SourceLines). option_map_or (λ (l : LintLine). l.bytes) (slice_get file.lines (f.line - 1)) []) (slice_get files f.source) []

-- a finding, and the bytes of its line
pub record Found : Type 0 where
  pub finding : Finding
  pub bytes : List ℕ

abbrev pub found_in : List SourceLines → Finding → Found
found_in files f = record { finding = f; bytes = bytes_in files f }

-- a table, its first faults, and the findings in it
pub record LintedTable : Type 0 where
  pub table : Table
  pub faults : List ReadFault
  pub found : List Found

abbrev pub linted : KeysymNames → Readers → Bool → Table → LintedTable
linted names readers is_all t = record {
  table = t;
  faults = table_faults names t;
  found = map (found_in (all_sources names t.sources is_all)) (findings names readers is_all (table_faults names t) t.sources);
}

abbrev pub found_row : Table → List ReadFault → Found → Row
found_row t faults f = record { sources = t.sources; paths = t.paths; faults = faults; finding = f.finding; bytes = f.bytes }

abbrev pub linted_rows : LintedTable → List Row
linted_rows t = map (found_row t.table t.faults) t.found
