-- A run of the program, and what the bytes of its folder define (this project's profile).
use Rattle.std.specs.Prelude.{◌≡◌, ℕ, List, Option}
use Rattle.compose_answer.specs.Ends.{status_of}
use Rattle.compose_arguments.specs.declared.diff_arguments.DiffArguments.{DiffArguments}
use Rattle.compose_arguments.specs.declared.given_tables.BothTables.{BothTables}
use Rattle.compose_arguments.specs.declared.given_tables.BothTables.TheVariants.{Manifests, Files}
use Rattle.compose_arguments.specs.declared.given_tables.TypeTable.{TypeTable}
use Rattle.compose_arguments.specs.declared.question.Question.{Question}
use Rattle.compose_check.specs.Input.{Input}
use Rattle.compose_diff_rows.specs.Answers.{Asked}
use Rattle.compose_explaining.specs.Explains.{input_of}
use Rattle.compose_folder.specs.Content.{Entry}
use Rattle.compose_given.specs.GivenTable.{IsGivenTable}
use Rattle.compose_given.specs.Names.{names_for}
use Rattle.compose_given.specs.declared.chosen.NotedTable.{NotedTable}
use Rattle.compose_input.specs.Names.{AreNames}
use Rattle.compose_input.specs.declared.names.NameFiles.{NameFiles}
use Rattle.compose_migration.specs.Migration.{GivenMigration}
use Rattle.compose_program.specs.Faults.{is_file}
use Rattle.compose_program.specs.Questions.{names_of}
use Rattle.compose_program.specs.Runs.{IsRun}
use Rattle.compose_report.specs.declared.form.Form.{Form}
use Rattle.compose_report.specs.declared.outcome.Outcome.{Outcome}
use Rattle.compose_runs.specs.CheckFiles.{AreCheckFiles, AreFoundCheckFiles, check_given}
use Rattle.compose_runs.specs.DiffFiles.{AreDiffFiles, AreFoundFiles}
use Rattle.compose_runs.specs.Differing.{diff_asked}
use Rattle.compose_runs.specs.Files.{AreMigrationFiles, migration_given}
use Rattle.compose_runs.specs.Skipping.{IsKeptPair}
use Rattle.compose_runs.specs.declared.checking.CheckTexts.{CheckTexts}
use Rattle.compose_given.specs.declared.environment.Environment.{Environment}
use Rattle.compose_runs.specs.declared.options.Options.{Options}

-- what a run has besides its question: the folder, the environment, the options of every command,
-- and the form of refusals
pub record Run : Type 0 where
  pub folder : Option (List Entry)
  pub environment : Environment
  pub options : Options
  pub form : Form

-- the outcome of this question
abbrev pub Ends : Run → Question → Outcome → Type 0
Ends run question outcome = IsRun run.folder run.environment run.options run.form question outcome

-- the same, with this exit status
abbrev pub EndsWith : ℕ → Run → Question → Outcome → Type 0
EndsWith status run question outcome = Ends run question outcome × (status_of outcome.ended ≡ status)

-- ---- what the folder defines

-- the names and both tables, from manifests or Compose files, with these names of fresh keysyms
abbrev pub DefinesTables : Run → BothTables → List (List ℕ) → GivenMigration → Type 0
DefinesTables run (Manifests paths) fresh given =
    (files : _) × AreMigrationFiles run.folder (names_of run.options) paths.old.now paths.new.now files × (given ≡ migration_given files fresh)
DefinesTables run (Files pair) fresh given =
    (files : _) × AreFoundFiles run.folder run.environment (names_of run.options) pair files × (given ≡ migration_given files fresh)

-- the same, where each table is named for itself, as `explain` has them
abbrev pub DefinesBoth : Run → TypeTable → TypeTable → List (List ℕ) → GivenMigration → Type 0
DefinesBoth run old new fresh given =
    (names : NameFiles) × AreNames run.folder (names_for (is_file old) (names_of run.options)) names
    × (old_read : NotedTable) × IsGivenTable run.folder run.environment old old_read × (new_read : NotedTable) × IsGivenTable run.folder run.environment new new_read
    × (given ≡ input_of names old_read.table new_read.table fresh)

-- the input of a check: both tables, the repertoire and the certificate
abbrev pub DefinesCheck : Run → BothTables → CheckTexts → Input → Type 0
DefinesCheck run (Manifests tables) texts input =
    (files : _) × AreCheckFiles run.folder (names_of run.options) (record { tables = tables; repertoire = texts.repertoire; certificate = texts.certificate }) files × (input ≡ check_given files)
DefinesCheck run (Files pair) texts input = (files : _) × AreFoundCheckFiles run.folder run.environment (names_of run.options) pair texts files × (input ≡ check_given files)

-- what is compared: both tables, without their faulty lines if these are skipped, and the list of
-- intended changes
abbrev pub DefinesDiff : Run → DiffArguments → List (List ℕ) → Asked → Type 0
DefinesDiff run arguments fresh asked =
    (found : _) × AreDiffFiles run.folder run.environment (names_of run.options) arguments found × (kept : _) × IsKeptPair arguments.skip_faulty found kept
    × (asked ≡ diff_asked kept.files arguments fresh)
