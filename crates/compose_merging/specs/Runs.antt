-- A run of `merge` (this project's profile).
use Rattle.std.specs.Prelude.{◌≡◌, ℕ, Bool, true, false, List, [], ◌∷◌, ◌++◌, map, Option, None, Result, Ok, Err, string_bytes, codes}
use Rattle.compose_folder.specs.Content.{Entry}
use Rattle.compose_answer.specs.declared.answer.Ended.TheVariants as ends
use Rattle.compose_arguments.specs.declared.given_tables.TypeTable.{TypeTable}
use Rattle.compose_arguments.specs.declared.merge_arguments.MergeArguments.{MergeArguments}
use Rattle.compose_details.specs.Given.{IsGiven, parts_of}
use Rattle.compose_details.specs.declared.given.Given.{Given}
use Rattle.compose_given.specs.Reads.{AreParts, FailsReads, reads_of}
use Rattle.compose_given.specs.declared.chosen.NotedTable.{NotedTable}
use Rattle.compose_given.specs.declared.environment.Environment.{Environment}
use Rattle.compose_given.specs.declared.wanted.ReadParts.{ReadParts}
use Rattle.compose_given.specs.declared.wanted.Wanted.{Wanted}
use Rattle.compose_given.specs.declared.wanted.WantedTable.{WantedTable}
use Rattle.compose_input.specs.Tables.{sources_of}
use Rattle.compose_input.specs.declared.fault.Fault.{Fault}
use Rattle.compose_input.specs.declared.names.NameFiles.{NameFiles}
use Rattle.compose_input.specs.declared.tables.TableFiles.{TableFiles}
use Rattle.compose_migration.specs.Migration.{GivenMigration}
use Rattle.compose_migration.specs.declared.refusal.Refusal.{Refusal}
use Rattle.compose_report.specs.Outcomes.{IsNoted, IsWorded, PrintsErrors}
use Rattle.compose_report.specs.declared.outcome.Outcome.{Outcome}
use Rattle.compose_skipped.specs.Kept.{IsKept}
use Rattle.compose_skipped.specs.Reported.{report_text}
use Rattle.keysym_core.specs.Header.{names_of}
use Rattle.compose_merging.specs.Merges.{Asked, AnswersMerge}
use Rattle.compose_merging.specs.declared.asking.Merging.{Merging}
use Rattle.compose_merging.specs.declared.asking.MergingFault.{MergingFault}
use Rattle.compose_merging.specs.declared.asking.MergingFault.TheVariants.{Input, TooLarge, NotReadBack}

-- ---- what is read

-- a table and the part of the input that it is
abbrev pub part_of : WantedTable → List ℕ × TypeTable
part_of wanted = (wanted.part.now, wanted.table)

-- the names, these tables, and no other files
pub record Wants (names : List (List ℕ)) (tables : List WantedTable) (wanted : Wanted) : Type 0 where
  pub names_are : map (λ name. name.now) wanted.names.now ≡ names
  pub are_files : wanted.are_files ≡ true
  pub tables_are : wanted.tables.now ≡ tables
  pub no_texts : wanted.texts.now ≡ []

-- the two tables of the arguments
abbrev pub AreWanted : MergeArguments → List WantedTable → Type 0
AreWanted arguments tables = map part_of tables ≡ (codes "old", arguments.old) ∷ (codes "new", arguments.new) ∷ []

-- both tables that were read
abbrev pub AreBoth : ReadParts → NotedTable → NotedTable → Type 0
AreBoth read old new = read.tables.items ≡ old ∷ new ∷ []

-- ---- the merge of two tables

abbrev pub given_by : NameFiles → TableFiles → TableFiles → List (List ℕ) → GivenMigration
given_by names old new fresh = record { header = names.lines.items; key_names = fresh; old = sources_of old; new = sources_of new }

abbrev pub asked_of : NameFiles → TableFiles → TableFiles → List (List ℕ) → Asked
asked_of names old new fresh = record {
  migration = given_by names old new fresh;
  old_paths = map string_bytes old.paths.items;
  new_paths = map string_bytes new.paths.items;
}

-- ---- what is printed

-- the merged table on standard output, and what is left out on standard error
pub record IsMergingPrinted (merging : Merging) (outcome : Outcome) : Type 0 where
  pub notes : string_bytes outcome.notes ≡ []
  pub output : outcome.output ≡ merging.table
  pub errors : outcome.errors ≡ merging.report
  pub file : outcome.file ≡ None
  pub ends : outcome.ended ≡ ends.Yes

-- for a refusal, each faulty line of the input, for people
pub record IsRefusalPrinted (names : NameFiles) (old new : TableFiles) (fresh : List (List ℕ)) (refusal : Refusal) (outcome : Outcome) : Type 0 where
  pub given : Given
  pub parts : IsGiven (parts_of names fresh (old ∷ new ∷ [])) given
  pub is : IsWorded false true given (Err refusal) outcome

-- the line of another fault (code 10 ends it)
abbrev pub refused_line : List ℕ → List ℕ
refused_line reason = codes "composecheck: " ++ (reason ++ 10 ∷ [])

abbrev pub IsPrinted : NameFiles → TableFiles → TableFiles → List (List ℕ) → Result Merging MergingFault → Outcome → Type 0
IsPrinted names old new fresh (Ok merging) outcome = IsMergingPrinted merging outcome
IsPrinted names old new fresh (Err (Input refusal)) outcome = IsRefusalPrinted names old new fresh refusal outcome
IsPrinted names old new fresh (Err TooLarge) outcome = PrintsErrors (refused_line (codes "the merged table is too large for a table")) ends.Refused outcome
IsPrinted names old new fresh (Err NotReadBack) outcome = PrintsErrors (refused_line (codes "what is printed of the merged table would not be read as this table")) ends.Refused outcome

-- the merge of these tables is printed
pub record IsMergeOf (names : NameFiles) (old new : TableFiles) (fresh : List (List ℕ)) (outcome : Outcome) : Type 0 where
  pub merged : Result Merging MergingFault
  pub is : AnswersMerge (asked_of names old new fresh) merged
  pub printed : IsPrinted names old new fresh merged outcome

-- after notes on where they lie
pub record IsMergeOutcome (names : NameFiles) (old new : NotedTable) (fresh : List (List ℕ)) (outcome : Outcome) : Type 0 where
  pub printed : Outcome
  pub is : IsMergeOf names old.table new.table fresh printed
  pub noted : IsNoted (string_bytes old.notes ++ string_bytes new.notes) printed outcome

-- the same table without its faulty lines
pub record KeepsNoted (names : NameFiles) (noted kept : NotedTable) : Type 0 where
  pub is : IsKept (names_of names.lines.items) noted.table kept.table
  pub notes : kept.notes ≡ noted.notes

-- without their faulty lines, of which a report comes last
pub record IsSkippedMerge (names : NameFiles) (old new : NotedTable) (fresh : List (List ℕ)) (outcome : Outcome) : Type 0 where
  pub kept_old : NotedTable
  pub kept_new : NotedTable
  pub is_old : KeepsNoted names old kept_old
  pub is_new : KeepsNoted names new kept_new
  pub printed : Outcome
  pub is : IsMergeOutcome names kept_old kept_new fresh printed
  pub output : outcome.output ≡ printed.output
  pub errors : string_bytes outcome.errors ≡ string_bytes printed.errors ++ report_text names.lines.items (old.table ∷ new.table ∷ [])
  pub notes : outcome.notes ≡ printed.notes
  pub file : outcome.file ≡ printed.file
  pub ended : outcome.ended ≡ printed.ended

abbrev pub IsKeptMerge : Bool → NameFiles → NotedTable → NotedTable → List (List ℕ) → Outcome → Type 0
IsKeptMerge false names old new fresh outcome = IsMergeOutcome names old new fresh outcome
IsKeptMerge true names old new fresh outcome = IsSkippedMerge names old new fresh outcome

-- ---- the run

-- the same on the files in the folder, in this environment
pub record IsMergeRun (folder : Option (List Entry)) (environment : Environment) (names : List (List ℕ)) (arguments : MergeArguments) (fresh : List (List ℕ)) (outcome : Outcome) : Type 0 where
  pub tables : List WantedTable
  pub are_tables : AreWanted arguments tables
  pub wanted : Wanted
  pub wants : Wants names tables wanted
  pub read : ReadParts
  pub parts : AreParts folder environment wanted read
  pub old : NotedTable
  pub new : NotedTable
  pub both : AreBoth read old new
  pub is : IsKeptMerge arguments.skip_faulty read.names old new fresh outcome

-- the fault of the first of the names and tables that can't be read or is refused
pub record FailsMerge (folder : Option (List Entry)) (environment : Environment) (names : List (List ℕ)) (arguments : MergeArguments) (fault : Fault) : Type 0 where
  pub tables : List WantedTable
  pub are_tables : AreWanted arguments tables
  pub wanted : Wanted
  pub wants : Wants names tables wanted
  pub is : FailsReads (reads_of folder environment wanted) fault
