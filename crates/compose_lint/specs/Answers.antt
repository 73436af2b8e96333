-- The answer of `lint` on the names, the tables and the list of accepted findings (this project's
-- format).
use Rattle.std.specs.Prelude.{◌≡◌, ◌≢◌, Bool, ℕ, List, [], map, Result, Ok, Err, string_bytes, ⊤}
use Rattle.keysym_core.specs.Names.{KeysymNames}
use Rattle.keysym_core.specs.Header.{names_of}
use Rattle.compose_answer.specs.declared.answer.Answer.{Answer}
use Rattle.compose_answer.specs.declared.answer.Answer.TheVariants.{Yes, No, Invalid, FreshNotAllowed}
use Rattle.compose_migration.specs.declared.refusal.Refusal.TheVariants.{Names, NoMemory as RefusalNoMemory}
use Rattle.compose_diff.specs.Accepted.{Line}
use Rattle.compose_diff.specs.declared.accepted.AcceptFault.TheVariants.{Stale, BadLine, NoMemory}
use Rattle.compose_lint.specs.Rows.{Table, Row, rows_in}
use Rattle.compose_lint.specs.Report.{rows_text}
use Rattle.compose_lint.specs.Accepted.{accepted_of, left_of, accept_lines}
use Rattle.compose_lint.specs.Json.{json_answer}
use Rattle.compose_lint.specs.declared.asking.LintFault.{LintFault}
use Rattle.compose_lint.specs.declared.asking.LintFault.TheVariants.{Input, Accept}
use Rattle.compose_lint.specs.declared.asking.LintForm.{LintForm}
use Rattle.compose_lint.specs.declared.asking.LintForm.TheVariants.{Lines, Json, AcceptList}
use Rattle.compose_lint.specs.declared.asking.LintInput.{LintInput}
use Rattle.compose_lint.specs.declared.asking.LintTable.{LintTable}
use Rattle.compose_lint.specs.declared.reader.Readers.{Readers}

-- ---- the input

abbrev pub table_given : LintTable → Table
table_given t = record { sources = t.sources.now; paths = map (λ path. path.now) t.paths.now; skip_faulty = t.skip_faulty }

pub record Asked : Type 0 where
  pub header : List ℕ
  pub tables : List Table
  pub readers : Readers
  pub is_all : Bool
  pub accepted : List ℕ
  pub form : LintForm

abbrev pub asked : LintInput → Asked
asked input = record {
  header = input.header.now;
  tables = map table_given input.tables.now;
  readers = input.readers;
  is_all = input.is_all;
  accepted = input.accepted.now;
  form = input.form;
}

-- ---- the answer

-- the printed text, if `left` are the findings that are not accepted
abbrev pub form_text : LintForm → List Row → List Row → List ℕ
form_text Lines rows left = rows_text left
form_text Json rows left = json_answer rows left
form_text AcceptList rows left = accept_lines left

-- yes if no finding is left
abbrev pub IsLintAnswer : LintForm → List Row → List Row → Answer → Type 0
IsLintAnswer form rows left (Yes text) = (left ≡ []) × (string_bytes text ≡ form_text form rows left)
IsLintAnswer form rows left (No text) = (left ≢ []) × (string_bytes text ≡ form_text form rows left)
IsLintAnswer form rows left (Invalid fault) = ⊥
IsLintAnswer form rows left (FreshNotAllowed keysym) = ⊥

abbrev pub rows_asked : Asked → KeysymNames → List Row
rows_asked asked names = rows_in names asked.readers asked.is_all asked.tables

-- the findings that are left are those that no line accepts
pub record IsLinted (asked : Asked) (rows : List Row) (answer : Answer) : Type 0 where
  pub lines : List Line
  pub left : List Row
  pub read : accepted_of asked.accepted ≡ Ok lines
  pub leaves : left_of lines rows ≡ Ok left
  pub reports : IsLintAnswer asked.form rows left answer

-- this line is the first that accepts none of these findings
pub record IsStale (asked : Asked) (rows : List Row) (line : ℕ) : Type 0 where
  pub lines : List Line
  pub read : accepted_of asked.accepted ≡ Ok lines
  pub stale : left_of lines rows ≡ Err (Stale line)

-- the answer on these findings, or the first refusal: a line that is not in the form, or one that
-- accepts none of the findings; memory may run out too
abbrev pub AnswersOn : Asked → List Row → Result Answer LintFault → Type 0
AnswersOn asked rows (Ok answer) = IsLinted asked rows answer
AnswersOn asked rows (Err (Accept (BadLine n))) = accepted_of asked.accepted ≡ Err (BadLine n)
AnswersOn asked rows (Err (Accept (Stale n))) = IsStale asked rows n
AnswersOn asked rows (Err (Accept NoMemory)) = ⊥
AnswersOn asked rows (Err (Input RefusalNoMemory)) = ⊤
AnswersOn asked rows (Err (Input refusal)) = ⊥

-- the same on the findings in the tables, by these names
abbrev pub AnswersBy : Asked → KeysymNames → Result Answer LintFault → Type 0
AnswersBy asked names answered = AnswersOn asked (rows_asked asked names) answered

-- the answer by the names of the header, or that the header is refused
abbrev pub AnswersLint : Asked → Result Answer LintFault → Type 0
AnswersLint asked (Err (Input (Names fault))) = names_of asked.header ≡ Err fault
AnswersLint asked (Err (Input RefusalNoMemory)) = ⊤
AnswersLint asked answered = (names : KeysymNames) × (names_of asked.header ≡ Ok names) × AnswersBy asked names answered
