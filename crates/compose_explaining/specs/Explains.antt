-- A run of `explain` (defined by this project).
use Rattle.std.specs.Prelude.{◌≡◌, ℕ, List, [], ◌∷◌, ◌++◌, map, Option, Result, string_bytes, codes}
use Rattle.compose_folder.specs.Content.{Entry}
use Rattle.compose_answer.specs.Parts.{explain_parts}
use Rattle.compose_arguments.specs.declared.given_tables.TypeTable.{TypeTable}
use Rattle.compose_input.specs.Tables.{sources_of}
use Rattle.compose_input.specs.declared.fault.Fault.{Fault}
use Rattle.compose_input.specs.declared.names.NameFiles.{NameFiles}
use Rattle.compose_input.specs.declared.tables.TableFiles.{TableFiles}
use Rattle.compose_migration.specs.Migration.{GivenMigration}
use Rattle.compose_migration.specs.Refused.{Returns}
use Rattle.compose_migration.specs.Values.{given_of}
use Rattle.compose_migration.specs.declared.migration.MigrationInput.{MigrationInput}
use Rattle.compose_migration.specs.declared.refusal.Refusal.{Refusal}
use Rattle.compose_details.specs.Given.{IsGiven, parts_of}
use Rattle.compose_details.specs.declared.given.Given.{Given}
use Rattle.compose_report.specs.declared.outcome.Outcome.{Outcome}
use Rattle.compose_given.specs.declared.environment.Environment.{Environment}
use Rattle.compose_given.specs.declared.chosen.NotedTable.{NotedTable}
use Rattle.compose_given.specs.Reads.{AreParts, FailsReads, reads_of}
use Rattle.compose_report.specs.Told.{IsToldOutcome}
use Rattle.compose_explaining.specs.Told.{Tells}
use Rattle.compose_explaining.specs.declared.sides.Side.{Side}
use Rattle.compose_report.specs.declared.told.Told.{Told}
use Rattle.compose_explaining.specs.declared.question.Explain.{Explain}
use Rattle.compose_given.specs.declared.wanted.ReadParts.{ReadParts}
use Rattle.compose_given.specs.declared.wanted.Wanted.{Wanted}
use Rattle.compose_given.specs.declared.wanted.WantedTable.{WantedTable}

-- a table, and the part of the input that a fault of it names
abbrev pub part_of : WantedTable → List ℕ × TypeTable
part_of wanted = (wanted.part.now, wanted.table)

abbrev pub asked_tables : Explain → List (List ℕ × TypeTable)
asked_tables asked = (codes "old", asked.old) ∷ (codes "new", asked.new) ∷ []

-- what `explain` reads: the names, the old table and the new one, whichever way they are named
pub record Wants (asked : Explain) (wanted : Wanted) : Type 0 where
  pub names : wanted.names ≡ asked.names
  pub are_files : wanted.are_files ≡ asked.are_files
  pub tables : map part_of wanted.tables.now ≡ asked_tables asked
  pub texts : wanted.texts.now ≡ []

abbrev pub fresh_of : Explain → List (List ℕ)
fresh_of asked = map (λ name. name.now) asked.fresh.now

abbrev pub input_of : NameFiles → TableFiles → TableFiles → List (List ℕ) → GivenMigration
input_of names old new fresh = record { header = names.lines.items; key_names = fresh; old = sources_of old; new = sources_of new }

-- the paths of a table's files
pub record IsSideOf (table : TableFiles) (side : Side) : Type 0 where
  pub path : side.path.now ≡ string_bytes table.path
  pub paths : side.paths.now ≡ table.paths.items

-- what is told of these tables, and printed
pub record IsExplainOutcome (asked : Explain) (names : NameFiles) (old new : NotedTable) (outcome : Outcome) : Type 0 where
  pub input : MigrationInput
  pub is_input : given_of input ≡ input_of names old.table new.table (fresh_of asked)
  pub old_side : Side
  pub is_old : IsSideOf old.table old_side
  pub new_side : Side
  pub is_new : IsSideOf new.table new_side
  pub told : Result Told Refusal
  pub is_told : Returns (Tells asked.verbose asked.all old_side new_side input) told (explain_parts (given_of input))
  pub given : Given
  pub is_given : IsGiven (parts_of names (fresh_of asked) (old.table ∷ new.table ∷ [])) given
  pub reported : IsToldOutcome asked.form given (string_bytes old.notes ++ string_bytes new.notes) told outcome

abbrev pub IsExplainOf : Explain → NameFiles → List NotedTable → Outcome → Type 0
IsExplainOf asked names (old ∷ new ∷ []) outcome = IsExplainOutcome asked names old new outcome
IsExplainOf asked names tables outcome = ⊥

-- the same of what the folder has
pub record IsExplainRun (folder : Option (List Entry)) (environment : Environment) (asked : Explain) (outcome : Outcome) : Type 0 where
  pub wanted : Wanted
  pub wants : Wants asked wanted
  pub read : ReadParts
  pub are_parts : AreParts folder environment wanted read
  pub is : IsExplainOf asked read.names read.tables.items outcome

-- the first read that fails
pub record FailsExplain (folder : Option (List Entry)) (environment : Environment) (asked : Explain) (fault : Fault) : Type 0 where
  pub wanted : Wanted
  pub wants : Wants asked wanted
  pub fails : FailsReads (reads_of folder environment wanted) fault
