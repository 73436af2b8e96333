-- Rows as lines: one line for rows that fold together, and one for a source that is gone (this
-- project's profile).
use Rattle.std.specs.Prelude.{ℕ, Bool, not, nat_lt, if◌then◌else◌, List, [], ◌∷◌, ◌++◌, length, take, filter, flat_map, Option, Some, None, codes}
use Rattle.std.specs.Fmt.{decimal}
use Rattle.compose_compare.specs.declared.Change.TheVariants.{Kept}
use Rattle.compose_diff.specs.declared.row.TextPlace.{TextPlace}
use Rattle.compose_diff.specs.declared.row.DiffRow.{DiffRow}
use Rattle.compose_diff.specs.Line.{keys_text, text_part, places_text, row_line}
use Rattle.compose_diff.specs.Counts.{is_same}
use Rattle.compose_diff.specs.Causes.{is_gone, gone_entry, cause_line}
use Rattle.compose_diff.specs.Groups.{fold_keys, groups}

-- ---- lines

-- the texts of rows, each of which is in one table only
abbrev pub texts_part : List DiffRow → List ℕ
texts_part rows = flat_map (λ row. text_part row.old ++ text_part row.new) rows

-- what happens, the keys with which all begin, the number of rows, the texts of the first three,
-- and the places of the first
abbrev pub fold_line : List DiffRow → List ℕ
fold_line [] = []
fold_line (row ∷ rows) =
    keys_text row.change (fold_keys row) ++ (codes " .. " ++ (decimal (length (row ∷ rows)) ++ (codes " sequences"
    ++ (texts_part (take 3 (row ∷ rows)) ++ (codes " .." ++ (places_text row ++ codes "\n"))))))

-- a line for each row
abbrev pub row_lines : List DiffRow → List ℕ
row_lines rows = flat_map row_line rows

-- all rows but the kept ones are reported
abbrev pub reported : List DiffRow → List DiffRow
reported rows = filter (λ row. not (is_same row.change Kept)) rows

-- a line for each reported row
abbrev pub diff_lines : List DiffRow → List ℕ
diff_lines rows = row_lines (reported rows)

-- ---- folded

-- the rows of a source that is gone share a line, and so do rows that fold together; a single row
-- has its own line
abbrev pub lines_by : Option TextPlace → List DiffRow → List ℕ
lines_by (Some entry) rows = cause_line entry (length rows)
lines_by None rows = if nat_lt (length rows) 2 then row_lines rows else fold_line rows

abbrev pub group_lines : (ℕ → Bool) → List DiffRow → List ℕ
group_lines gone [] = []
group_lines gone (row ∷ rows) = lines_by (gone_entry gone row) (row ∷ rows)

-- a line for each group, at the place of its first row
abbrev pub groups_lines : (ℕ → Bool) → List DiffRow → List ℕ
groups_lines gone rows = flat_map (group_lines gone) (groups gone rows)

-- the lines of the rows that are left of all rows, accepted ones included
abbrev pub folded_lines : List DiffRow → List DiffRow → List ℕ
folded_lines rows left = groups_lines (is_gone rows (reported left)) (reported left)
