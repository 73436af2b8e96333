-- What `type` prints (this project's profile).
use Rattle.std.specs.Prelude.{◌≡◌, ℕ, Bool, false, List, [], ◌∷◌, flat_map, length, map, Option, Some, None, Result, string_bytes}
use Rattle.std.specs.Str.Lines.{lines}
use Rattle.compose_folder.specs.Content.{Entry, File, IsHeld}
use Rattle.compose_input.specs.Names.{AreNames}
use Rattle.compose_input.specs.Tables.{IsListed, sources_of}
use Rattle.compose_input.specs.declared.names.NameFiles.{NameFiles}
use Rattle.compose_input.specs.declared.tables.TableFiles.{TableFiles}
use Rattle.compose_answer.specs.Parts.{type_parts}
use Rattle.compose_migration.specs.Refused.{Returns}
use Rattle.compose_answer.specs.declared.answer.Answer.{Answer}
use Rattle.compose_migration.specs.declared.refusal.Refusal.{Refusal}
use Rattle.compose_tool.specs.Answers.{AreListsTyped, IsTyped}
use Rattle.compose_details.specs.Given.{IsGiven, parts_of}
use Rattle.compose_details.specs.declared.given.Given.{Given}
use Rattle.compose_report.specs.Outcomes.{IsReported}
use Rattle.compose_report.specs.declared.outcome.Outcome.{Outcome}
use Rattle.keysym_core.specs.Header.{names_of}
use Rattle.compose_arguments.specs.declared.table_arguments.TableArguments.{TableArguments}
use Rattle.compose_keys.specs.Keys.{keys_in}
use Rattle.compose_key_lists.specs.Lists.{refused_line}
use Rattle.compose_runs.specs.OneTable.{IsTableRead, IsTableOutcome}
use Rattle.compose_runs.specs.Skipping.{IsFollowed, IsKeptRead}
use Rattle.compose_runs.specs.WrittenKeys.{AreWritten}
use Rattle.compose_given.specs.declared.environment.Environment.{Environment}
use Rattle.compose_runs.specs.declared.one_table.TableRead.{TableRead}
use Rattle.compose_runs.specs.declared.options.Options.{Options}
use Rattle.compose_runs.specs.declared.skipping.KeptRead.{KeptRead}

-- the report of the answer on these names and this table
pub record IsTypeOutcome (verbose : Bool) (names : NameFiles) (table : TableFiles) (keys : List (List ℕ)) (outcome : Outcome) : Type 0 where
  pub answered : Result Answer Refusal
  pub is : Returns IsTyped answered (type_parts names.lines.items keys (sources_of table))
  pub given : Given
  pub parts : IsGiven (parts_of names keys (table ∷ [])) given
  pub reported : IsReported verbose given answered outcome

-- the same on the files in the folder
pub record IsTypeRun (folder : Option (List Entry)) (options : Options) (path : List ℕ) (keys : List (List ℕ)) (outcome : Outcome) : Type 0 where
  pub names : NameFiles
  pub are_names : AreNames folder (map (λ name. name.now) options.names.now) names
  pub table : TableFiles
  pub is_table : IsListed folder path table
  pub is : IsTypeOutcome options.verbose names table keys outcome

-- ---- with a Compose file

-- the answer for the keys that the words write, on these names and this table, after the notes
pub record IsTypeFileOutcome (read : TableRead) (words : List (List ℕ)) (outcome : Outcome) : Type 0 where
  pub keys : List (List ℕ)
  pub are_keys : AreWritten (names_of read.names.lines.items) words keys
  pub answered : Result Answer Refusal
  pub is : Returns IsTyped answered (type_parts read.names.lines.items keys (sources_of read.table))
  pub reported : IsTableOutcome false read keys [] [] answered outcome

-- the content of standard input, whose path is a hyphen (code 45), if there are no words
abbrev pub AreGivenLines : Option (List Entry) → List (List ℕ) → Option (List ℕ) → Type 0
AreGivenLines folder [] (Some lines) = IsHeld folder (45 ∷ []) (File lines)
AreGivenLines folder [] None = ⊥
AreGivenLines folder (word ∷ words) lines = lines ≡ None

-- the answer for the lists of keys that these lines write, and, if a key is refused, the line that
-- has it
pub record IsTypeLinesOutcome (read : TableRead) (text : List ℕ) (outcome : Outcome) : Type 0 where
  pub keys : List (List ℕ)
  pub are_keys : AreWritten (names_of read.names.lines.items) (flat_map keys_in (lines text)) keys
  pub answered : Result Answer Refusal
  pub is : Returns (AreListsTyped (map (λ line. length (keys_in line)) (lines text))) answered (type_parts read.names.lines.items keys (sources_of read.table))
  pub printed : Outcome
  pub reported : IsTableOutcome false read keys [] [] answered printed
  pub followed : IsFollowed (refused_line (map (λ line. length (keys_in line)) (lines text)) answered) printed outcome

-- the answer for the lines if they are given, or otherwise for the words
abbrev pub IsTypedFile : TableRead → List (List ℕ) → Option (List ℕ) → Outcome → Type 0
IsTypedFile read words None outcome = IsTypeFileOutcome read words outcome
IsTypedFile read words (Some text) outcome = IsTypeLinesOutcome read text outcome

-- the same on the files that were read, without their faulty lines if these are skipped; the report
-- of the skipped lines comes last
pub record IsKeptType (found : TableRead) (skip_faulty : Bool) (words : List (List ℕ)) (text : Option (List ℕ)) (outcome : Outcome) : Type 0 where
  pub kept : KeptRead
  pub is_kept : IsKeptRead skip_faulty found kept
  pub printed : Outcome
  pub is : IsTypedFile kept.read words text printed
  pub followed : IsFollowed (string_bytes kept.skipped) printed outcome

-- the same on the files in the folder, in this environment
pub record IsTypeFileRun (folder : Option (List Entry)) (environment : Environment) (names : List (List ℕ)) (arguments : TableArguments) (words : List (List ℕ)) (outcome : Outcome) : Type 0 where
  pub found : TableRead
  pub is_read : IsTableRead folder environment names arguments found
  pub text : Option (List ℕ)
  pub is_text : AreGivenLines folder words text
  pub is : IsKeptType found arguments.skip_faulty words text outcome
