-- What is printed for an answer or a refusal on an input (this project's profile).
use Rattle.std.specs.Prelude.{Bool, false, ◌||◌, Result}
use Rattle.compose_answer.specs.declared.answer.Answer.{Answer}
use Rattle.compose_migration.specs.declared.refusal.Refusal.{Refusal}
use Rattle.compose_details.specs.Given.{GivenParts, IsGiven}
use Rattle.compose_details.specs.declared.given.Given.{Given}
use Rattle.compose_report.specs.Outcomes.{IsNoted, IsWorded}
use Rattle.compose_report.specs.declared.outcome.Outcome.{Outcome}
use Rattle.compose_runs.specs.Files.{notes_of}
use Rattle.compose_runs.specs.OneTable.{is_refused}
use Rattle.compose_runs.specs.declared.files.MigrationFiles.{MigrationFiles}

-- the answer or the refusal on these parts; for people unless `numbered`
pub record IsReport (numbered verbose : Bool) (parts : GivenParts) (answered : Result Answer Refusal) (outcome : Outcome) : Type 0 where
  pub given : Given
  pub are_parts : IsGiven parts given
  pub reported : IsWorded numbered verbose given answered outcome

-- the same for Compose files: for people, a refusal with each faulty line, after the notes on where
-- the files lie
pub record IsFilesReport (verbose : Bool) (files : MigrationFiles) (parts : GivenParts) (answered : Result Answer Refusal) (outcome : Outcome) : Type 0 where
  pub printed : Outcome
  pub is : IsReport false (verbose || is_refused answered) parts answered printed
  pub noted : IsNoted (notes_of files) printed outcome
