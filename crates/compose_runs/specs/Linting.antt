-- What `lint` reads and prints (this project's profile).
use Rattle.std.specs.Prelude.{◌≡◌, ℕ, Bool, true, false, ◌==◌, ◌||◌, length, if◌then◌else◌, List, [], ◌∷◌, ◌++◌, map, flat_map, Option, Some, None, unwrap_or, option_copied, Result, Ok, Err, string_bytes, bytes_eq, codes}
use Rattle.std.specs.List.{AllZip, list_any}
use Rattle.std.proofs.Common.{Bor}
use Rattle.compose_folder.specs.Content.{Entry}
use Rattle.compose_model.specs.declared.Rule.TheVariants.{Longest}
use Rattle.compose_answer.specs.declared.answer.Answer.{Answer}
use Rattle.compose_answer.specs.declared.answer.Ended.TheVariants.{Refused}
use Rattle.compose_migration.specs.declared.refusal.Refusal.{Refusal}
use Rattle.compose_arguments.specs.declared.lint_arguments.LintArguments.{LintArguments}
use Rattle.compose_details.specs.Files.{message_at}
use Rattle.compose_details.specs.Given.{IsGiven, parts_of}
use Rattle.compose_details.specs.declared.given.Given.{Given}
use Rattle.compose_diff.specs.declared.accepted.AcceptFault.{AcceptFault}
use Rattle.compose_diff.specs.declared.accepted.AcceptFault.TheVariants.{Stale, BadLine, NoMemory}
use Rattle.compose_input.specs.Names.{AreNames}
use Rattle.compose_input.specs.Tables.{IsFoundOnSystem}
use Rattle.compose_input.specs.declared.names.NameFiles.{NameFiles}
use Rattle.compose_input.specs.declared.places.Places.{Places}
use Rattle.compose_lint.specs.Answers.{Asked, AnswersLint}
use Rattle.compose_lint.specs.Rows.{Table}
use Rattle.compose_lint.specs.declared.asking.LintFault.{LintFault}
use Rattle.compose_lint.specs.declared.asking.LintFault.TheVariants.{Input, Accept}
use Rattle.compose_lint.specs.declared.asking.LintForm.{LintForm}
use Rattle.compose_lint.specs.declared.asking.LintForm.TheVariants.{Lines, Json, AcceptList}
use Rattle.compose_lint.specs.declared.reader.Readers.{Readers}
use Rattle.compose_report.specs.Outcomes.{IsNoted, IsOutcome, IsWorded, PrintsErrors, reported_text}
use Rattle.compose_report.specs.declared.outcome.Outcome.{Outcome}
use Rattle.compose_runs.specs.DiffFiles.{IsAccepted}
use Rattle.compose_given.specs.Names.{names_or_builtin}
use Rattle.compose_given.specs.Environment.{IsPlaced}
use Rattle.compose_given.specs.Own.{IsChosen}
use Rattle.compose_runs.specs.Skipping.{IsFollowed}
use Rattle.compose_skipped.specs.Reported.{report_text}
use Rattle.compose_given.specs.declared.environment.Environment.{Environment}
use Rattle.compose_given.specs.declared.environment.PlaceArguments.{PlaceArguments}
use Rattle.compose_runs.specs.declared.linting.LintFiles.{LintFiles}
use Rattle.compose_runs.specs.declared.linting.ReadTable.{ReadTable}

-- ---- what is read

abbrev pub lint_places : LintArguments → PlaceArguments
lint_places arguments = record { system = arguments.system; locale = arguments.locale; root = arguments.root }

-- the wanted files: the given ones, or the user's own if none is given
abbrev pub asked_files : List (Bor (List ℕ)) → List (Option (List ℕ))
asked_files [] = None ∷ []
asked_files (path ∷ paths) = map (λ (p : Bor (List ℕ)). Some p.now) (path ∷ paths)

-- the given file, or otherwise the user's own, and its table as it is on the system
pub record IsReadTable (folder : Option (List Entry)) (environment : Environment) (places : Places) (given : Option (List ℕ)) (read : ReadTable) : Type 0 where
  pub is_file : IsChosen folder environment places given read.file
  pub is_table : IsFoundOnSystem folder places (string_bytes read.file.path) Longest read.table

-- those of the wanted files, in their order
abbrev pub AreReadTables : Option (List Entry) → Environment → Places → List (Option (List ℕ)) → List ReadTable → Type 0
AreReadTables folder environment places given read = AllZip (IsReadTable folder environment places) given read

-- the names, the tables, and the list of accepted findings
pub record AreLintFiles (folder : Option (List Entry)) (environment : Environment) (names : List (List ℕ)) (arguments : LintArguments) (files : LintFiles) : Type 0 where
  pub are_names : AreNames folder (names_or_builtin names) files.names
  pub places : Places
  pub are_places : IsPlaced environment (lint_places arguments) places
  pub are_tables : AreReadTables folder environment places (asked_files arguments.files.items) files.tables.items
  pub is_accepted : IsAccepted folder (option_copied arguments.accept) files.accepted.items

-- ---- the input

-- the reader with this word is wanted
abbrev pub has_word : List (Bor (List ℕ)) → List ℕ → Bool
has_word given word = list_any (λ (other : Bor (List ℕ)). bytes_eq other.now word) given

-- libX11 and libxkbcommon if no word is given
abbrev pub readers_of : List (Bor (List ℕ)) → Readers
readers_of given = record {
  libx11 = (length given == 0) || has_word given (codes "libX11");
  libxkbcommon = (length given == 0) || has_word given (codes "libxkbcommon");
  gtk3 = has_word given (codes "gtk3");
  gtk4 = has_word given (codes "gtk4");
}

abbrev pub form_of : Bool → Bool → LintForm
form_of true json = AcceptList
form_of false true = Json
form_of false false = Lines

abbrev pub table_of : Bool → ReadTable → Table
table_of skip_faulty read = record { sources = read.table.sources; paths = map string_bytes read.table.paths.items; skip_faulty = skip_faulty }

abbrev pub lint_asked : LintFiles → LintArguments → Asked
lint_asked files arguments = record {
  header = files.names.lines.items;
  tables = map (table_of arguments.skip_faulty) files.tables.items;
  readers = readers_of arguments.readers.items;
  is_all = arguments.all;
  accepted = files.accepted.items;
  form = form_of arguments.write_accept arguments.json;
}

-- ---- what is printed

-- the refused line of the list of accepted findings, and the reason (code 10 ends it)
abbrev pub lint_accept_details : List ℕ → AcceptFault → List ℕ
lint_accept_details path (Stale n) = message_at path n (codes "no finding in these tables is named by the line") ++ 10 ∷ []
lint_accept_details path (BadLine n) = message_at path n (codes "expected the word of a kind, \": \" and a line of a Compose file") ++ 10 ∷ []
lint_accept_details path NoMemory = []

-- for a refused list, the message about its line; if `numbered`, after the line of the refusal with
-- the printed form of the fault
abbrev pub IsLintAcceptRefusal : Bool → Option (List ℕ) → AcceptFault → Outcome → Type 0
IsLintAcceptRefusal numbered path fault outcome =
    (own : List ℕ) × PrintsErrors (reported_text numbered (codes "refused: accept: " ++ (own ++ 10 ∷ [])) (lint_accept_details (unwrap_or path []) fault)) Refused outcome

-- for a refusal of the names, each faulty line of them; if `numbered`, after the line of the
-- refusal
pub record IsLintRefusal (numbered : Bool) (names : NameFiles) (refusal : Refusal) (outcome : Outcome) : Type 0 where
  pub given : Given
  pub parts : IsGiven (parts_of names [] []) given
  pub is : IsWorded numbered true given (Err refusal) outcome

abbrev pub IsLintPrinted : LintFiles → LintArguments → Result Answer LintFault → Outcome → Type 0
IsLintPrinted files arguments (Ok answer) outcome = (own : List ℕ) × IsOutcome own [] [] (Ok answer) outcome
IsLintPrinted files arguments (Err (Input refusal)) outcome = IsLintRefusal arguments.json files.names refusal outcome
IsLintPrinted files arguments (Err (Accept fault)) outcome = IsLintAcceptRefusal arguments.json (option_copied arguments.accept) fault outcome

-- the notes on the files that were not given
abbrev pub notes_in : List ReadTable → List ℕ
notes_in tables = flat_map (λ (read : ReadTable). string_bytes read.file.note) tables

-- the faulty lines of these tables by the names of a header, and their number
abbrev pub report_in : List ℕ → List ReadTable → List ℕ
report_in header tables = report_text header (map (λ (read : ReadTable). read.table) tables)

-- the same, if faulty lines are skipped
abbrev pub skipped_lines : Bool → LintFiles → List ℕ
skipped_lines true files = report_in files.names.lines.items files.tables.items
skipped_lines false files = []

-- the answer on these files, after the notes; the report of the skipped lines comes last
pub record IsLintOutcome (files : LintFiles) (arguments : LintArguments) (outcome : Outcome) : Type 0 where
  pub answered : Result Answer LintFault
  pub is : AnswersLint (lint_asked files arguments) answered
  pub printed : Outcome
  pub is_printed : IsLintPrinted files arguments answered printed
  pub noted : Outcome
  pub is_noted : IsNoted (notes_in files.tables.items) printed noted
  pub followed : IsFollowed (skipped_lines arguments.skip_faulty files) noted outcome

-- the same on the files in the folder, in this environment
pub record IsLintRun (folder : Option (List Entry)) (environment : Environment) (names : List (List ℕ)) (arguments : LintArguments) (outcome : Outcome) : Type 0 where
  pub files : LintFiles
  pub read : AreLintFiles folder environment names arguments files
  pub is : IsLintOutcome files arguments outcome
