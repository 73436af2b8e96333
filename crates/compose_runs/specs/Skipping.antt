-- The files that commands read, without the faulty lines of tables, and the report of these lines
-- (this project's profile).
use Rattle.std.specs.Prelude.{◌≡◌, ℕ, Bool, true, false, List, [], ◌∷◌, ◌++◌, string_bytes}
use Rattle.keysym_core.specs.Header.{names_of}
use Rattle.compose_skipped.specs.Kept.{IsKept}
use Rattle.compose_skipped.specs.Reported.{report_text}
use Rattle.compose_report.specs.declared.outcome.Outcome.{Outcome}
use Rattle.compose_runs.specs.declared.differing.DiffFiles.{DiffFiles}
use Rattle.compose_runs.specs.declared.one_table.TableRead.{TableRead}
use Rattle.compose_runs.specs.declared.skipping.KeptPair.{KeptPair}
use Rattle.compose_runs.specs.declared.skipping.KeptRead.{KeptRead}

-- ---- the files of a command

-- those of one Compose file
pub record SkipsRead (read : TableRead) (kept : KeptRead) : Type 0 where
  pub names : kept.read.names ≡ read.names
  pub notes : kept.read.notes ≡ read.notes
  pub table : IsKept (names_of read.names.lines.items) read.table kept.read.table
  pub skipped : string_bytes kept.skipped ≡ report_text read.names.lines.items (read.table ∷ [])

-- all lines, or those without a fault if the others are skipped
abbrev pub IsKeptRead : Bool → TableRead → KeptRead → Type 0
IsKeptRead false read kept = (kept.read ≡ read) × (string_bytes kept.skipped ≡ [])
IsKeptRead true read kept = SkipsRead read kept

-- those of two Compose files
pub record SkipsPair (files : DiffFiles) (kept : KeptPair) : Type 0 where
  pub names : kept.files.both.names ≡ files.both.names
  pub accepted : kept.files.accepted ≡ files.accepted
  pub old : IsKept (names_of files.both.names.lines.items) files.both.old kept.files.both.old
  pub new : IsKept (names_of files.both.names.lines.items) files.both.new kept.files.both.new
  pub skipped : string_bytes kept.skipped ≡ report_text files.both.names.lines.items (files.both.old ∷ files.both.new ∷ [])

abbrev pub IsKeptPair : Bool → DiffFiles → KeptPair → Type 0
IsKeptPair false files kept = (kept.files ≡ files) × (string_bytes kept.skipped ≡ [])
IsKeptPair true files kept = SkipsPair files kept

-- ---- what is printed

-- the same outcome, with this text after its errors
pub record IsFollowed (text : List ℕ) (before outcome : Outcome) : Type 0 where
  pub notes : outcome.notes ≡ before.notes
  pub output : outcome.output ≡ before.output
  pub errors : string_bytes outcome.errors ≡ string_bytes before.errors ++ text
  pub file : outcome.file ≡ before.file
  pub ended : outcome.ended ≡ before.ended
