-- A table that a command reads, without its faulty lines (this project's profile).
use Rattle.std.specs.Prelude.{◌≡◌, ℕ, List, [], Option, Some, None, Result, Ok, Err}
use Rattle.keysym_core.specs.Header.{names_of}
use Rattle.keysym_core.specs.Names.{KeysymNames}
use Rattle.keysym_core.specs.declared.fault.NameFault.{NameFault}
use Rattle.compose_read.specs.Lines.{Source}
use Rattle.compose_read.specs.declared.ReadFault.{ReadFault}
use Rattle.compose_skip.specs.Faulty.{AreOthers, own_faults}
use Rattle.compose_skip.specs.declared.others.OtherLines.{OtherLines}
use Rattle.compose_input.specs.declared.tables.TableFiles.{TableFiles}

-- the faults of the skipped lines, by these names; none if the names are refused
abbrev pub faults_by : Result KeysymNames NameFault → List Source → List ReadFault
faults_by (Ok names) sources = own_faults names sources
faults_by (Err fault) sources = []

-- the same by the names of a header
abbrev pub skipped_faults : List ℕ → TableFiles → List ReadFault
skipped_faults header table = faults_by (names_of header) table.sources

-- the table with other sources
pub record IsOtherTable (table : TableFiles) (others : List Source) (other : TableFiles) : Type 0 where
  pub path : other.path ≡ table.path
  pub paths : other.paths ≡ table.paths
  pub rule : other.rule ≡ table.rule
  pub note : other.note ≡ table.note
  pub locale : other.locale ≡ table.locale
  pub sources : other.sources ≡ others

-- the table has only the lines without a fault; the same table if the names are refused
abbrev pub IsKept : Result KeysymNames NameFault → TableFiles → TableFiles → Type 0
IsKept (Ok names) table kept = (others : List Source) × AreOthers names table.sources others × IsOtherTable table others kept
IsKept (Err fault) table kept = kept ≡ table

-- the lines of the sources without a fault, and the faults of the skipped ones; none if the names
-- are refused
abbrev pub AreOtherLines : Result KeysymNames NameFault → List Source → Option OtherLines → Type 0
AreOtherLines (Ok names) sources (Some others) = AreOthers names sources others.sources × (others.faults.items ≡ own_faults names sources)
AreOtherLines (Ok names) sources None = ⊥
AreOtherLines (Err fault) sources others = others ≡ None
