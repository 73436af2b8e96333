-- What `make` prints, or writes to a file (this project's profile).
use Rattle.std.specs.Prelude.{◌≡◌, ℕ, Bool, true, false, List, [], ◌∷◌, map, Option, None, option_copied, Result, string_bytes}
use Rattle.std.specs.Option.{option_map}
use Rattle.compose_folder.specs.Content.{Entry, File, IsHeld}
use Rattle.compose_migration.specs.Migration.{GivenMigration}
use Rattle.compose_answer.specs.Parts.{make_parts}
use Rattle.compose_migration.specs.Refused.{Returns}
use Rattle.compose_answer.specs.declared.answer.Answer.{Answer}
use Rattle.compose_answer.specs.declared.answer.Ended.{Ended}
use Rattle.compose_answer.specs.declared.answer.Ended.TheVariants.{Yes}
use Rattle.compose_migration.specs.declared.refusal.Refusal.{Refusal}
use Rattle.compose_arguments.specs.declared.given_tables.FilePair.{FilePair}
use Rattle.compose_arguments.specs.declared.given_tables.TablePaths.{TablePaths}
use Rattle.compose_tool.specs.Answers.{IsMadeText, IsAllMadeText}
use Rattle.compose_details.specs.Given.{GivenParts, IsGiven, parts_of}
use Rattle.compose_details.specs.declared.given.Given.{Given}
use Rattle.compose_report.specs.Outcomes.{IsReported}
use Rattle.compose_report.specs.declared.outcome.Outcome.{Outcome}
use Rattle.compose_runs.specs.DiffFiles.{AreFoundFiles}
use Rattle.compose_runs.specs.Files.{AreMigrationFiles, migration_given}
use Rattle.compose_runs.specs.Reports.{IsFilesReport}
use Rattle.compose_given.specs.declared.environment.Environment.{Environment}
use Rattle.compose_runs.specs.declared.files.MigrationFiles.{MigrationFiles}
use Rattle.compose_runs.specs.declared.making.MakeOptions.{MakeOptions}
use Rattle.compose_runs.specs.declared.options.Options.{Options}

-- a certificate, or the first character that can't be typed, or with `all` each such character
abbrev pub AnswersMake : Bool → Result Answer Refusal → GivenMigration → List ℕ → Type 0
AnswersMake true answered given repertoire = Returns IsAllMadeText answered (make_parts given repertoire)
AnswersMake false answered given repertoire = Returns IsMadeText answered (make_parts given repertoire)

-- the input of `make`, with the text of the repertoire
abbrev pub make_given : MigrationFiles → List ℕ → MakeOptions → GivenParts
make_given files text making = record (parts_of files.names (map (λ name. name.now) making.fresh.now) (files.old ∷ files.new ∷ [])) { repertoire = making.repertoire.now; repertoire_text = text }

-- the report of the answer on these files
pub record IsMakeOutcome (verbose : Bool) (files : MigrationFiles) (repertoire : List ℕ) (making : MakeOptions) (outcome : Outcome) : Type 0 where
  pub answered : Result Answer Refusal
  pub is : AnswersMake making.all answered (migration_given files (map (λ name. name.now) making.fresh.now)) repertoire
  pub given : Given
  pub parts : IsGiven (make_given files repertoire making) given
  pub reported : IsReported verbose given answered outcome

-- the file to which the output is written: a certificate to the given path
abbrev pub file_of : Option (List ℕ) → Ended → Option (List ℕ)
file_of path Yes = path
file_of path ended = None

-- the outcome is the printed one, except that its output is written to this path if it is a
-- certificate
pub record IsWrittenTo (path : Option (List ℕ)) (printed written : Outcome) : Type 0 where
  pub notes : written.notes ≡ printed.notes
  pub output : written.output ≡ printed.output
  pub errors : written.errors ≡ printed.errors
  pub ended : written.ended ≡ printed.ended
  pub file : option_map string_bytes written.file ≡ file_of path printed.ended

-- the same on the files in the folder
pub record IsMakeRun (folder : Option (List Entry)) (options : Options) (paths : TablePaths) (making : MakeOptions) (outcome : Outcome) : Type 0 where
  pub files : MigrationFiles
  pub read : AreMigrationFiles folder (map (λ name. name.now) options.names.now) paths.old.now paths.new.now files
  pub repertoire : List ℕ
  pub is_repertoire : IsHeld folder making.repertoire.now (File repertoire)
  pub printed : Outcome
  pub is : IsMakeOutcome options.verbose files repertoire making printed
  pub written : IsWrittenTo (option_copied making.output) printed outcome

-- ---- Compose files

pub record IsMakeFilesOutcome (verbose : Bool) (files : MigrationFiles) (repertoire : List ℕ) (making : MakeOptions) (outcome : Outcome) : Type 0 where
  pub answered : Result Answer Refusal
  pub is : AnswersMake making.all answered (migration_given files (map (λ name. name.now) making.fresh.now)) repertoire
  pub reported : IsFilesReport verbose files (make_given files repertoire making) answered outcome

-- the same on the files in the folder, in this environment
pub record IsMakeFilesRun (folder : Option (List Entry)) (environment : Environment) (options : Options) (pair : FilePair) (making : MakeOptions) (outcome : Outcome) : Type 0 where
  pub files : MigrationFiles
  pub read : AreFoundFiles folder environment (map (λ name. name.now) options.names.now) pair files
  pub repertoire : List ℕ
  pub is_repertoire : IsHeld folder making.repertoire.now (File repertoire)
  pub printed : Outcome
  pub is : IsMakeFilesOutcome options.verbose files repertoire making printed
  pub written : IsWrittenTo (option_copied making.output) printed outcome
