-- What `check` prints (this project's profile).
use Rattle.std.specs.Prelude.{ℕ, Bool, List, [], ◌∷◌, map, Option, Some, None, Result}
use Rattle.std.proofs.Common.{Bor}
use Rattle.std.specs.Option.{option_map, unwrap_or}
use Rattle.compose_folder.specs.Content.{Entry}
use Rattle.compose_check.specs.Input.{allowed_parts, parts_of}
use Rattle.compose_migration.specs.Refused.{Returns}
use Rattle.compose_answer.specs.declared.answer.Answer.{Answer}
use Rattle.compose_migration.specs.declared.refusal.Refusal.{Refusal}
use Rattle.compose_tool.specs.Answers.{IsChecked, IsCheckedFor}
use Rattle.compose_details.specs.Given.{GivenParts, IsGiven}
use Rattle.compose_details.specs.Given.{parts_of as listed_parts}
use Rattle.compose_details.specs.declared.given.Given.{Given}
use Rattle.compose_report.specs.Outcomes.{IsReported}
use Rattle.compose_report.specs.declared.outcome.Outcome.{Outcome}
use Rattle.compose_arguments.specs.declared.given_tables.FilePair.{FilePair}
use Rattle.compose_runs.specs.CheckFiles.{AreCheckFiles, AreFoundCheckFiles, check_given}
use Rattle.compose_runs.specs.Reports.{IsFilesReport}
use Rattle.compose_given.specs.declared.environment.Environment.{Environment}
use Rattle.compose_runs.specs.declared.checking.CheckFiles.{CheckFiles}
use Rattle.compose_runs.specs.declared.checking.CheckPaths.{CheckPaths}
use Rattle.compose_runs.specs.declared.checking.CheckTexts.{CheckTexts}
use Rattle.compose_runs.specs.declared.options.Options.{Options}

-- the names of the allowed keysyms, if they are given
abbrev pub allowed_names : Option (Bor (List (Bor (List ℕ)))) → Option (List (List ℕ))
allowed_names allowed = option_map (λ names. map (λ name. name.now) names.now) allowed

-- the answer about the certificate; if keysyms are allowed, all its fresh keysyms have to be among
-- them
abbrev pub AnswersCheck : Option (List (List ℕ)) → Result Answer Refusal → CheckFiles → Type 0
AnswersCheck None answered check = Returns IsChecked answered (parts_of (check_given check))
AnswersCheck (Some allowed) answered check = Returns IsCheckedFor answered (allowed_parts allowed (check_given check))

-- the paths except those of the tables
abbrev pub texts_of : CheckPaths → CheckTexts
texts_of paths = record { repertoire = paths.repertoire; certificate = paths.certificate }

-- the input of `check`
abbrev pub given_parts : CheckFiles → CheckTexts → Option (List (List ℕ)) → GivenParts
given_parts check texts allowed =
    record (listed_parts check.both.names (unwrap_or allowed []) (check.both.old ∷ check.both.new ∷ [])) { repertoire = texts.repertoire.now; repertoire_text = check.repertoire.items; certificate = texts.certificate.now; certificate_text = check.certificate.items }

-- the report of the answer on these files
pub record IsCheckOutcome (verbose : Bool) (check : CheckFiles) (paths : CheckPaths) (allowed : Option (List (List ℕ))) (outcome : Outcome) : Type 0 where
  pub answered : Result Answer Refusal
  pub is : AnswersCheck allowed answered check
  pub given : Given
  pub parts : IsGiven (given_parts check (texts_of paths) allowed) given
  pub reported : IsReported verbose given answered outcome

-- the same on the files in the folder
pub record IsCheckRun (folder : Option (List Entry)) (options : Options) (paths : CheckPaths) (allowed : Option (List (List ℕ))) (outcome : Outcome) : Type 0 where
  pub check : CheckFiles
  pub read : AreCheckFiles folder (map (λ name. name.now) options.names.now) paths check
  pub is : IsCheckOutcome options.verbose check paths allowed outcome

-- ---- Compose files

pub record IsCheckFilesOutcome (verbose : Bool) (check : CheckFiles) (texts : CheckTexts) (allowed : Option (List (List ℕ))) (outcome : Outcome) : Type 0 where
  pub answered : Result Answer Refusal
  pub is : AnswersCheck allowed answered check
  pub reported : IsFilesReport verbose check.both (given_parts check texts allowed) answered outcome

-- the same on the files in the folder, in this environment
pub record IsCheckFilesRun (folder : Option (List Entry)) (environment : Environment) (options : Options) (pair : FilePair) (texts : CheckTexts) (allowed : Option (List (List ℕ))) (outcome : Outcome) : Type 0 where
  pub check : CheckFiles
  pub read : AreFoundCheckFiles folder environment (map (λ name. name.now) options.names.now) pair texts check
  pub is : IsCheckFilesOutcome options.verbose check texts allowed outcome
