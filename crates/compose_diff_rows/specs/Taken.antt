-- What a merge of both tables has, for the last line of `diff`.
use Rattle.std.specs.Prelude.{ℕ, Bool, true, false, codes, if◌then◌else◌, List, [], ◌++◌, filter, length, Option, Some, None}
use Rattle.std.specs.Fmt.{decimal}
use Rattle.keysym_core.specs.Names.{KeysymNames}
use Rattle.compose_model.specs.Table.{Definition, is_sequence}
use Rattle.compose_model.specs.Nodes.{leaves}
use Rattle.compose_compare.specs.declared.Change.{Change}
use Rattle.compose_compare.specs.declared.Change.TheVariants.{Kept, Changed, Waiting, Removed, Added, NewStart}
use Rattle.compose_compare.specs.Change.{change}
use Rattle.compose_merge.specs.Merged.{is_taken}
use Rattle.compose_answer.specs.Parts.{Explainable}
use Rattle.compose_diff_rows.specs.declared.asking.Form.{Form}
use Rattle.compose_diff_rows.specs.declared.asking.Form.TheVariants.{Folded}

-- the sequences of the new table that a merge adds to those of the old one
abbrev pub taken : Explainable → List (List ℕ)
taken e = filter (is_taken e.move.names e.fresh e.move.old e.move.new) (leaves e.move.new)

-- how many sequences of both a merge has, for people who lose some
abbrev pub merge_line : Form → ℕ → ℕ → List ℕ
merge_line Folded kept added =
    codes "merge: would keep " ++ (decimal kept ++ (codes " of OLD's sequences and add " ++ (decimal added ++ codes " of NEW's\n")))
merge_line _ kept added = []

abbrev pub merge_text : Form → Explainable → List ℕ
merge_text form e = merge_line form (length (leaves e.move.old)) (length (taken e))

-- ---- definitions for private functions

-- what happens to a sequence of the new table, if the old one doesn't have it
abbrev pub change_of : KeysymNames → List ℕ → List Definition → List Definition → List ℕ → Option Change
change_of names fresh old new s = if is_sequence old s then None else Some (change names fresh old new s)

abbrev pub is_added : Option Change → Bool
is_added None = false
is_added (Some Kept) = false
is_added (Some Changed) = false
is_added (Some Waiting) = false
is_added (Some Removed) = false
is_added (Some Added) = true
is_added (Some NewStart) = false
