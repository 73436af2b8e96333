-- What the answer of `diff` means for people who type (this project's profile).
use Rattle.std.specs.Prelude.{ℕ, Bool, ◌||◌, List, [], ◌++◌, Option, Some, None, codes, IsTrue}
use Rattle.std.specs.List.{list_any}
use Rattle.compose_lex.specs.Escape.{quote}
use Rattle.compose_shown.specs.Shown.{shown_text}
use Rattle.compose_model.specs.Table.{is_sequence}
use Rattle.compose_answer.specs.Parts.{Explainable}
use Rattle.compose_answer.specs.declared.answer.Answer.{Answer}
use Rattle.compose_answer.specs.declared.answer.Answer.TheVariants.{Yes, No, Invalid, FreshNotAllowed}
use Rattle.compose_compare.specs.Change.{change, is_harmless}
use Rattle.compose_diff.specs.Line.{keys_text}
use Rattle.compose_diff.specs.Accepted.{Line, matches_text}
use Rattle.compose_diff_rows.specs.Answers.{Asked, old_written, new_written}
use Rattle.compose_diff_rows.specs.Rows.{ReportedEntry, ReportedRow, row_of}

-- the answer is yes
abbrev pub IsYes : Answer → Type 0
IsYes (Yes text) = Unit {0}
IsYes (No text) = ⊥
IsYes (Invalid fault) = ⊥
IsYes (FreshNotAllowed keysym) = ⊥

-- the text that a table has for a sequence, in quotes, after a blank
abbrev pub entry_text : Option ReportedEntry → List ℕ
entry_text None = []
entry_text (Some entry) = codes " " ++ shown_text (quote entry.text)

-- the word, the keys and the texts of a row, as they are printed
abbrev pub reported_text : ReportedRow → List ℕ
reported_text row = keys_text row.change row.keys ++ (entry_text row.old ++ entry_text row.new)

-- one of the lines is what is printed of this row
abbrev pub is_named : List Line → ReportedRow → Bool
is_named lines row = list_any (matches_text (reported_text row)) lines

-- what happens to the sequence s is harmless, or one of the lines is what is printed of it
abbrev pub is_meant : Asked → Explainable → List Line → List ℕ → Bool
is_meant asked e lines s =
    is_harmless (change e.move.names e.fresh e.move.old e.move.new s)
    || is_named lines (row_of e.move.names e.fresh (old_written asked e) (new_written asked e) s)

-- and so for each sequence of either table
abbrev pub AreMeant : Asked → Explainable → List Line → Type 0
AreMeant asked e lines = (s : List ℕ) → IsTrue (is_sequence e.move.old s || is_sequence e.move.new s) → IsTrue (is_meant asked e lines s)
