-- What the commands on one Compose file read, and how they print an answer (defined by this
-- project).
use Rattle.std.specs.Prelude.{◌≡◌, ℕ, Bool, true, false, List, [], ◌∷◌, ◌++◌, Option, option_copied, Result, Ok, Err, string_bytes}
use Rattle.compose_folder.specs.Content.{Entry}
use Rattle.compose_answer.specs.declared.answer.Answer.{Answer}
use Rattle.compose_migration.specs.declared.refusal.Refusal.{Refusal}
use Rattle.compose_arguments.specs.declared.table_arguments.TableArguments.{TableArguments}
use Rattle.compose_details.specs.Given.{GivenParts, IsGiven, parts_of}
use Rattle.compose_details.specs.declared.given.Given.{Given}
use Rattle.compose_input.specs.Names.{AreNames}
use Rattle.compose_input.specs.declared.places.Places.{Places}
use Rattle.compose_report.specs.Outcomes.{IsNoted, IsWorded}
use Rattle.compose_report.specs.declared.outcome.Outcome.{Outcome}
use Rattle.compose_given.specs.Noted.{IsNotedTable, table_places}
use Rattle.compose_given.specs.Names.{names_or_builtin}
use Rattle.compose_given.specs.Environment.{IsPlaced}
use Rattle.compose_given.specs.declared.environment.Environment.{Environment}
use Rattle.compose_runs.specs.declared.one_table.TableRead.{TableRead}

-- the names, and that table
pub record IsTableRead (folder : Option (List Entry)) (environment : Environment) (names : List (List ℕ)) (arguments : TableArguments) (read : TableRead) : Type 0 where
  pub places : Places
  pub are_places : IsPlaced environment (table_places arguments) places
  pub are_names : AreNames folder (names_or_builtin names) read.names
  pub is : IsNotedTable folder environment places arguments (record { table = read.table; notes = read.notes })

-- there is no answer
abbrev pub is_refused : Result Answer Refusal → Bool
is_refused (Ok answer) = false
is_refused (Err refusal) = true

-- the input: the files of names and the table, these key names, and the repertoire at this path
-- with this text
abbrev pub table_given : TableRead → List (List ℕ) → List ℕ → List ℕ → GivenParts
table_given read keys repertoire text = record (parts_of read.names keys (read.table ∷ [])) { repertoire = repertoire; repertoire_text = text }

-- the answer, or each faulty line of this input; for people unless `numbered`, after the notes
pub record IsTableOutcome (numbered : Bool) (read : TableRead) (keys : List (List ℕ)) (repertoire text : List ℕ) (answered : Result Answer Refusal) (outcome : Outcome) : Type 0 where
  pub given : Given
  pub parts : IsGiven (table_given read keys repertoire text) given
  pub reported : Outcome
  pub is : IsWorded numbered (is_refused answered) given answered reported
  pub noted : IsNoted (string_bytes read.notes) reported outcome
