-- The whole answer of `diff`.
use Rattle.std.specs.Prelude.{◌≡◌, ℕ, Bool, not, ◌-◌, if◌then◌else◌, List, ◌++◌, length, Result, Ok, Err, string_bytes, IsTrue}
use Rattle.compose_answer.specs.declared.answer.Answer.{Answer}
use Rattle.compose_answer.specs.declared.answer.Answer.TheVariants.{Yes, No, Invalid, FreshNotAllowed}
use Rattle.compose_diff.specs.declared.row.DiffRow.{DiffRow}
use Rattle.compose_diff.specs.declared.accepted.AcceptFault.{AcceptFault}
use Rattle.compose_diff.specs.declared.accepted.AcceptFault.TheVariants.{Stale, BadLine, NoMemory}
use Rattle.compose_diff.specs.Accepted.{Line, left_of}
use Rattle.compose_diff.specs.Counts.{counts_of, counts_line, loses_nothing}
use Rattle.compose_diff.specs.Folds.{diff_lines, folded_lines}
use Rattle.compose_diff.specs.Lost.{shown_rows}
use Rattle.compose_diff.specs.Overlaps.{overlaps_line}
use Rattle.compose_diff.specs.declared.overlaps.Overlaps.{Overlaps}
use Rattle.compose_diff.specs.declared.answer.Printed.{Printed}

-- the lines of the rows that are printed of all rows
abbrev pub lines_text : Bool → List DiffRow → List DiffRow → List ℕ
lines_text folds rows shown = if folds then folded_lines rows shown else diff_lines shown

-- the lines of the rows that are printed of those that are not accepted, then that of the overlaps,
-- and that of the counts
abbrev pub answer_text : Printed → Overlaps → List DiffRow → List DiffRow → List ℕ
answer_text printed overlaps rows left = lines_text printed.folds rows (shown_rows printed.lost_alone left) ++ (overlaps_line overlaps ++ counts_line (counts_of left (length rows - length left)))

-- yes if each of these rows is harmless, otherwise no, with that text
abbrev pub IsAnswer : Printed → Overlaps → List DiffRow → List DiffRow → Answer → Type 0
IsAnswer printed overlaps rows left (Yes text) = IsTrue (loses_nothing left) × (string_bytes text ≡ answer_text printed overlaps rows left)
IsAnswer printed overlaps rows left (No text) = IsTrue (not (loses_nothing left)) × (string_bytes text ≡ answer_text printed overlaps rows left)
IsAnswer printed overlaps rows left (Invalid fault) = ⊥
IsAnswer printed overlaps rows left (FreshNotAllowed keysym) = ⊥

-- the answer on the rows that are left, or the fault that is reported
abbrev pub AnswersRows : Printed → Overlaps → List Line → List DiffRow → Result Answer AcceptFault → Type 0
AnswersRows printed overlaps lines rows (Ok answer) = (left : List DiffRow) × (left_of lines rows ≡ Ok left) × IsAnswer printed overlaps rows left answer
AnswersRows printed overlaps lines rows (Err NoMemory) = Unit {0}
AnswersRows printed overlaps lines rows (Err (Stale n)) = left_of lines rows ≡ Err (Stale n)
AnswersRows printed overlaps lines rows (Err (BadLine n)) = left_of lines rows ≡ Err (BadLine n)
