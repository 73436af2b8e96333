-- The number of rows for each change, and the line with these numbers (this project's profile).
use Rattle.std.specs.Prelude.{ℕ, ◌==◌, Bool, true, false, if◌then◌else◌, List, ◌++◌, length, filter, codes}
use Rattle.std.specs.Fmt.{decimal}
use Rattle.std.specs.List.{list_all}
use Rattle.compose_compare.specs.declared.Change.{Change}
use Rattle.compose_compare.specs.declared.Change.TheVariants.{Kept, Changed, Waiting, Removed, Added, NewStart}
use Rattle.compose_compare.specs.Change.{is_harmless}
use Rattle.compose_diff.specs.declared.row.DiffRow.{DiffRow}
use Rattle.compose_diff.specs.declared.counts.Counts.{Counts}
use Rattle.compose_diff.specs.Lost.{lost_texts}

abbrev pub is_same : Change → Change → Bool
is_same Kept Kept = true
is_same Changed Changed = true
is_same Waiting Waiting = true
is_same Removed Removed = true
is_same Added Added = true
is_same NewStart NewStart = true
is_same _ _ = false

-- the number of rows to which this happens
abbrev pub count_of : Change → List DiffRow → ℕ
count_of change rows = length (filter (λ row. is_same row.change change) rows)

-- the counts of rows that are not accepted, the number of accepted rows, and the number of lost
-- texts
abbrev pub counts_of : List DiffRow → ℕ → Counts
counts_of rows accepted = record {
  kept = count_of Kept rows;
  changed = count_of Changed rows;
  waiting = count_of Waiting rows;
  removed = count_of Removed rows;
  new_starts = count_of NewStart rows;
  added = count_of Added rows;
  accepted = accepted;
  lost_texts = length (lost_texts rows);
}

-- singular for one
abbrev pub starts_word : ℕ → List ℕ
starts_word n = if n == 1 then codes " new start" else codes " new starts"

-- singular for one
abbrev pub texts_word : ℕ → List ℕ
texts_word n = if n == 1 then codes " text" else codes " texts"

-- for example `diff: 5205 kept, 3 changed, 0 waiting, 298 removed, 0 new starts, 12 added, 2
-- accepted; 4 texts lost`
abbrev pub counts_line : Counts → List ℕ
counts_line counts =
    codes "diff: " ++ (decimal counts.kept ++ (codes " kept, " ++ (decimal counts.changed ++ (codes " changed, " ++ (decimal counts.waiting ++ (codes " waiting, " ++ (decimal counts.removed
    ++ (codes " removed, " ++ (decimal counts.new_starts ++ (starts_word counts.new_starts ++ (codes ", " ++ (decimal counts.added ++ (codes " added, " ++ (decimal counts.accepted
    ++ (codes " accepted; " ++ (decimal counts.lost_texts ++ (texts_word counts.lost_texts ++ codes " lost\n")))))))))))))))))

-- all of it is harmless to everybody who types with the old table
abbrev pub loses_nothing : List DiffRow → Bool
loses_nothing rows = list_all (λ row. is_harmless row.change) rows
