-- What the steps of `diff` return, if memory doesn't run out.
use Rattle.std.specs.Prelude.{◌≡◌, ℕ, Bool, not, List, Result, Ok, Err, string_bytes, IsTrue}
use Rattle.std.specs.declared.vec.Vec.{Vec}
use Rattle.std.specs.declared.alloc.Global.{Global}
use Rattle.compose_model.specs.Certificate.{keys_rise}
use Rattle.compose_model.specs.Table.{Definition}
use Rattle.compose_migration.specs.Migration.{Parts, migration_of}
use Rattle.compose_migration.specs.Values.{given_of, parts}
use Rattle.compose_migration.specs.declared.migration.Migration.{Migration}
use Rattle.compose_places.specs.Placed.{HasLines}
use Rattle.compose_places.specs.declared.placed.PlacedTable.{PlacedTable}
use Rattle.compose_answer.specs.Parts.{Explainable}
use Rattle.compose_migration.specs.Refused.{IsRefused}
use Rattle.compose_answer.specs.declared.answer.Answer.{Answer}
use Rattle.compose_answer.specs.declared.answer.Answer.TheVariants.{Yes, No, Invalid, FreshNotAllowed}
use Rattle.compose_migration.specs.declared.refusal.Refusal.TheVariants as refusals
use Rattle.compose_diff.specs.Accepted.{Line, left_of}
use Rattle.compose_diff.specs.Counts.{loses_nothing}
use Rattle.compose_diff.specs.declared.accepted.AcceptFault.{AcceptFault}
use Rattle.compose_diff.specs.declared.accepted.AcceptFault.TheVariants.{Stale, BadLine, NoMemory}
use Rattle.compose_diff.specs.declared.overlaps.Overlaps.{Overlaps}
use Rattle.compose_diff.specs.declared.row.DiffRow.{DiffRow}
use Rattle.compose_diff_rows.specs.Answers.{Asked, AreTables, compared, overlaps_in, AreRows, IsFormAnswer, form_text}
use Rattle.compose_diff_rows.specs.Taken.{merge_text}
use Rattle.compose_diff_rows.specs.declared.asking.Form.{Form}
use Rattle.compose_diff_rows.specs.declared.asking.DiffInput.{DiffInput}
use Rattle.compose_diff_rows.specs.declared.asking.DiffFault.{DiffFault}
use Rattle.compose_diff_rows.specs.declared.asking.DiffFault.TheVariants.{Input, Accept}

-- a fault of the list of intended changes as one of `diff`; running out of memory is a fault of its
-- own
abbrev pub accept_raised : AcceptFault → DiffFault
accept_raised (Stale n) = Accept (Stale n)
accept_raised (BadLine n) = Accept (BadLine n)
accept_raised NoMemory = Input refusals.NoMemory

-- what is read of a migration, as values
abbrev pub placed_parts : {T : Type 0} → (T → List Definition) → Migration (PlacedTable T) → Parts
placed_parts {T} view m = parts (λ (placed : PlacedTable T). view placed.table) m

-- the migration is that of the input, with the lines that count in both tables, and the number of
-- overlaps of each
pub record IsPlaced {T : Type 0} (view : T → List Definition) (input : DiffInput) (m : Migration (PlacedTable T)) : Type 0 where
  pub expected : Parts
  pub read : migration_of (given_of input.tables) ≡ Ok expected
  pub is : expected ≡ placed_parts view m
  pub old : HasLines view m.names input.tables.old.sources.now m.old
  pub new : HasLines view m.names input.tables.new.sources.now m.new

-- the fresh keysyms of what is compared, in rising order; or the condition that they do not meet
abbrev pub ReturnsFresh : Parts → Result (Vec ℕ Global) DiffFault → Type 0
ReturnsFresh move (Ok fresh) = (compared move ≡ Ok (record { move = move; fresh = fresh.items })) × IsTrue (keys_rise fresh.items)
ReturnsFresh move (Err (Input refusal)) = IsRefused refusal (compared move)
ReturnsFresh move (Err (Accept fault)) = ⊥

-- the answer on the rows that no line accepts, without the last line; or the first line that matches
-- none of the rows
abbrev pub IsRowsAnswer : Form → Bool → Overlaps → List DiffRow → List DiffRow → Answer → Type 0
IsRowsAnswer form lost_alone overlaps rows left (Yes text) = IsTrue (loses_nothing left) × (string_bytes text ≡ form_text form lost_alone overlaps rows left)
IsRowsAnswer form lost_alone overlaps rows left (No text) = IsTrue (not (loses_nothing left)) × (string_bytes text ≡ form_text form lost_alone overlaps rows left)
IsRowsAnswer form lost_alone overlaps rows left (Invalid fault) = ⊥
IsRowsAnswer form lost_alone overlaps rows left (FreshNotAllowed keysym) = ⊥

abbrev pub AnswersForm : Form → Bool → Overlaps → List Line → List DiffRow → Result Answer DiffFault → Type 0
AnswersForm form lost_alone overlaps lines rows (Ok answer) = (left : List DiffRow) × (left_of lines rows ≡ Ok left) × IsRowsAnswer form lost_alone overlaps rows left answer
AnswersForm form lost_alone overlaps lines rows (Err (Input refusal)) = refusal ≡ refusals.NoMemory
AnswersForm form lost_alone overlaps lines rows (Err (Accept (Stale n))) = left_of lines rows ≡ Err (Stale n)
AnswersForm form lost_alone overlaps lines rows (Err (Accept (BadLine n))) = ⊥
AnswersForm form lost_alone overlaps lines rows (Err (Accept NoMemory)) = ⊥

-- with the last line
abbrev pub AnswersWhole : Form → Bool → Overlaps → List ℕ → List Line → List DiffRow → Result Answer DiffFault → Type 0
AnswersWhole form lost_alone overlaps last lines rows (Ok answer) = (left : List DiffRow) × (left_of lines rows ≡ Ok left) × IsFormAnswer form lost_alone overlaps last rows left answer
AnswersWhole form lost_alone overlaps last lines rows (Err fault) = AnswersForm form lost_alone overlaps lines rows (Err fault)

-- the same for the rows of what is compared
abbrev pub AnswersCompared : Asked → Explainable → List Line → Result Answer DiffFault → Type 0
AnswersCompared asked e lines (Ok answer) =
    (rows : List DiffRow) × AreTables e × AreRows asked e rows × AnswersWhole asked.form asked.lost_alone (overlaps_in asked e) (merge_text asked.form e) lines rows (Ok answer)
AnswersCompared asked e lines (Err (Input refusal)) = refusal ≡ refusals.NoMemory
AnswersCompared asked e lines (Err (Accept fault)) = (rows : List DiffRow) × AreRows asked e rows × AnswersForm asked.form asked.lost_alone (overlaps_in asked e) lines rows (Err (Accept fault))
