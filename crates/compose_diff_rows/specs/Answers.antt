-- What `diff` answers on the sources of two tables and on the intended changes (this project's
-- profile).
use Rattle.std.specs.Prelude.{◌≡◌, ℕ, Bool, true, false, not, List, [], ◌∷◌, ◌++◌, map, Option, Result, Ok, Err, string_bytes, IsTrue}
use Rattle.std.specs.Option.{option_map_or}
use Rattle.std.specs.Ordering.{nat_cmp}
use Rattle.std.specs.List.Sorted.{IsPermutation}
use Rattle.compose_text.specs.Results.{◌>>=◌}
use Rattle.keysym_core.specs.Names.{KeysymNames}
use Rattle.compose_model.specs.Table.{Definition, is_table}
use Rattle.compose_model.specs.Nodes.{leaves, rising}
use Rattle.compose_read.specs.Lines.{Source}
use Rattle.compose_migration.specs.Migration.{GivenMigration, Parts, NoAnswer, no_fresh, migration_of}
use Rattle.compose_migration.specs.Values.{given_of}
use Rattle.compose_fresh.specs.Fresh.{fresh_conditions}
use Rattle.compose_fresh.specs.Conditions.{first_unmet}
use Rattle.compose_places.specs.Counting.{WrittenLine, counting_line, read_lines}
use Rattle.compose_places.specs.Overlaps.{overlap_count}
use Rattle.compose_places.specs.Placed.{root_of}
use Rattle.compose_answer.specs.Parts.{Explainable}
use Rattle.compose_migration.specs.Refused.{IsRefused}
use Rattle.compose_answer.specs.declared.answer.Answer.{Answer}
use Rattle.compose_answer.specs.declared.answer.Answer.TheVariants.{Yes, No, Invalid, FreshNotAllowed}
use Rattle.compose_diff.specs.Accepted.{Line, accepted_of, left_of, accept_lines}
use Rattle.compose_diff.specs.Counts.{loses_nothing}
use Rattle.compose_diff.specs.JsonAnswer.{json_answer}
use Rattle.compose_diff.specs.Lost.{shown_rows}
use Rattle.compose_diff.specs.Order.{AreInOrder}
use Rattle.compose_diff.specs.Reported.{answer_text}
use Rattle.compose_diff.specs.declared.accepted.AcceptFault.TheVariants.{Stale, BadLine, NoMemory}
use Rattle.compose_diff.specs.declared.overlaps.Overlaps.{Overlaps}
use Rattle.compose_diff.specs.declared.row.DiffRow.{DiffRow}
use Rattle.compose_page.specs.Page.{page_text}
use Rattle.compose_diff_rows.specs.Rows.{Written, reported_row, reported_rows, kept_rows}
use Rattle.compose_diff_rows.specs.Taken.{merge_text}
use Rattle.compose_diff_rows.specs.declared.asking.Form.{Form}
use Rattle.compose_diff_rows.specs.declared.asking.Form.TheVariants.{Folded, Lines, Json, AcceptList, Page}
use Rattle.compose_diff_rows.specs.declared.asking.DiffInput.{DiffInput}
use Rattle.compose_diff_rows.specs.declared.asking.DiffFault.{DiffFault}
use Rattle.compose_diff_rows.specs.declared.asking.DiffFault.TheVariants.{Input, Accept}

-- ---- what is compared

-- the input of `diff`: a migration, the paths of the sources of both tables, the list of intended
-- changes, and the form in which the other rows are printed
pub record Asked : Type 0 where
  pub migration : GivenMigration
  pub old_paths : List (List ℕ)
  pub new_paths : List (List ℕ)
  pub accepted : List ℕ
  pub lost_alone : Bool
  pub form : Form

abbrev pub asked : DiffInput → Asked
asked input = record {
  migration = given_of input.tables;
  old_paths = map (λ path. path.now) input.old_paths.now;
  new_paths = map (λ path. path.now) input.new_paths.now;
  accepted = input.accepted.now;
  lost_alone = input.lost_alone;
  form = input.form;
}

-- the tables, and the fresh keysyms in rising order, each once; or the first condition that these
-- do not meet for the old table
abbrev pub compared : Parts → Result Explainable NoAnswer
compared move =
    let fresh = rising nat_cmp move.keys in
    option_map_or (λ fault. Err (no_fresh fault)) (first_unmet (fresh_conditions move.old fresh)) (Ok (record { move = move; fresh = fresh }))

abbrev pub compared_parts : GivenMigration → Result Explainable NoAnswer
compared_parts given = do
  move ← migration_of given
  compared move

-- both lists of definitions are tables
abbrev pub AreTables : Explainable → Type 0
AreTables e = IsTrue (is_table e.move.old) × IsTrue (is_table e.move.new)

-- ---- the rows

-- the lines that count for the sequences of a table whose root is the first source
abbrev pub lines_in : KeysymNames → List Source → List Definition → List (Option WrittenLine)
lines_in names sources table = map (counting_line names (read_lines sources (root_of sources))) (leaves table)

-- a table as its sources write it; the first source is its root
abbrev pub written_in : KeysymNames → List Source → List (List ℕ) → List Definition → Written
written_in names sources paths table = record {
  table = table;
  lines = lines_in names sources table;
  paths = paths;
}

-- both tables as they are written
abbrev pub old_written : Asked → Explainable → Written
old_written asked e = written_in e.move.names asked.migration.old.sources asked.old_paths e.move.old

abbrev pub new_written : Asked → Explainable → Written
new_written asked e = written_in e.move.names asked.migration.new.sources asked.new_paths e.move.new

-- the rows: those that are reported, each once, in the order in which they are printed; and then
-- the kept ones, if these are not reported
pub record AreSorted (whole : Bool) (names : KeysymNames) (fresh : List ℕ) (old new : Written) (rows : List DiffRow) : Type 0 where
  pub reported : List DiffRow
  pub kept : List DiffRow
  pub both : rows ≡ reported ++ kept
  pub each : IsPermutation (reported_rows whole names fresh old new) (map reported_row reported)
  pub sorted : AreInOrder reported
  pub others : map reported_row kept ≡ kept_rows whole names fresh old new

-- whether kept sequences are reported too
abbrev pub reports_kept : Form → Bool
reports_kept Json = true
reports_kept _ = false

-- the rows of both tables
abbrev pub AreRows : Asked → Explainable → List DiffRow → Type 0
AreRows asked e rows = AreSorted (reports_kept asked.form) e.move.names e.fresh (old_written asked e) (new_written asked e) rows

-- ---- the answer

-- the number of sequences, in the sources of each table, that are a prefix of another one
abbrev pub overlaps_in : Asked → Explainable → Overlaps
overlaps_in asked e = record {
  old = overlap_count e.move.names asked.migration.old.sources (root_of asked.migration.old.sources);
  new = overlap_count e.move.names asked.migration.new.sources (root_of asked.migration.new.sources);
}

-- what is printed of the rows that are left of all rows: of these all, or those of lost texts alone
abbrev pub form_text : Form → Bool → Overlaps → List DiffRow → List DiffRow → List ℕ
form_text Folded lost_alone overlaps rows left = answer_text (record { folds = true; lost_alone = lost_alone }) overlaps rows left
form_text Lines lost_alone overlaps rows left = answer_text (record { folds = false; lost_alone = lost_alone }) overlaps rows left
form_text Json lost_alone overlaps rows left = json_answer lost_alone overlaps rows left
form_text AcceptList lost_alone overlaps rows left = accept_lines (shown_rows lost_alone left)
form_text (Page markup folds) lost_alone overlaps rows left = page_text markup (record { folds = folds; lost_alone = lost_alone }) overlaps rows left

-- yes if each of the rows that are left is harmless; otherwise a last line follows
abbrev pub IsFormAnswer : Form → Bool → Overlaps → List ℕ → List DiffRow → List DiffRow → Answer → Type 0
IsFormAnswer form lost_alone overlaps last rows left (Yes text) = IsTrue (loses_nothing left) × (string_bytes text ≡ form_text form lost_alone overlaps rows left)
IsFormAnswer form lost_alone overlaps last rows left (No text) = IsTrue (not (loses_nothing left)) × (string_bytes text ≡ form_text form lost_alone overlaps rows left ++ last)
IsFormAnswer form lost_alone overlaps last rows left (Invalid fault) = ⊥
IsFormAnswer form lost_alone overlaps last rows left (FreshNotAllowed keysym) = ⊥

-- the answer on what is compared: the rows that are left are those that no line accepts, and the
-- last line says what a merge of both tables has
pub record IsDiff (asked : Asked) (e : Explainable) (answer : Answer) : Type 0 where
  pub lines : List Line
  pub rows : List DiffRow
  pub left : List DiffRow
  pub tables : AreTables e
  pub read : accepted_of asked.accepted ≡ Ok lines
  pub are : AreRows asked e rows
  pub leaves : left_of lines rows ≡ Ok left
  pub reported : IsFormAnswer asked.form asked.lost_alone (overlaps_in asked e) (merge_text asked.form e) rows left answer

-- a line of the list of intended changes matches none of the rows
pub record IsStale (asked : Asked) (e : Explainable) (line : ℕ) : Type 0 where
  pub lines : List Line
  pub rows : List DiffRow
  pub read : accepted_of asked.accepted ≡ Ok lines
  pub are : AreRows asked e rows
  pub stale : left_of lines rows ≡ Err (Stale line)

-- the answer, or what is refused first: the migration, its fresh keysyms, a line of the list, a
-- line that matches no row
abbrev pub AnswersDiff : Asked → Result Answer DiffFault → Type 0
AnswersDiff asked (Ok answer) = (e : Explainable) × (compared_parts asked.migration ≡ Ok e) × IsDiff asked e answer
AnswersDiff asked (Err (Input refusal)) = IsRefused refusal (compared_parts asked.migration)
AnswersDiff asked (Err (Accept (BadLine n))) = (e : Explainable) × (compared_parts asked.migration ≡ Ok e) × (accepted_of asked.accepted ≡ Err (BadLine n))
AnswersDiff asked (Err (Accept (Stale n))) = (e : Explainable) × (compared_parts asked.migration ≡ Ok e) × IsStale asked e n
AnswersDiff asked (Err (Accept NoMemory)) = ⊥
