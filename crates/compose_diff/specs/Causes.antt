-- A source of the old table all of whose sequences are removed, for example because an include is
-- missing, as one line (this project's profile).
use Rattle.std.specs.Prelude.{ℕ, Bool, false, not, ◌==◌, ◌&&◌, ◌||◌, nat_lt, nat_eq, unwrap_or, if◌then◌else◌, List, ◌++◌, length, filter, Option, Some, None, codes}
use Rattle.std.specs.List.{list_all}
use Rattle.std.specs.Fmt.{decimal}
use Rattle.indexmap.specs.IndexMap.{IndexMap, get}
use Rattle.compose_shown.specs.Shown.{shown_text}
use Rattle.compose_compare.specs.declared.Change.{Change}
use Rattle.compose_compare.specs.declared.Change.TheVariants.{Removed}
use Rattle.compose_diff.specs.declared.row.TextPlace.{TextPlace}
use Rattle.compose_diff.specs.declared.row.DiffRow.{DiffRow}
use Rattle.compose_diff.specs.declared.cause.Gone.{Gone}
use Rattle.compose_diff.specs.Counts.{is_same}

-- a table has the sequence in this source
abbrev pub is_in_source : ℕ → Option TextPlace → Bool
is_in_source source None = false
is_in_source source (Some entry) = entry.source == source

-- the number of rows that the old table has in this source
abbrev pub count_in : ℕ → List DiffRow → ℕ
count_in source rows = length (filter (λ row. is_in_source source row.old) rows)

-- the number of these that are removed
abbrev pub removed_in : ℕ → List DiffRow → ℕ
removed_in source rows = length (filter (λ row. is_same row.change Removed && is_in_source source row.old) rows)

-- the old table has two rows or more in this source, and as many of the printed rows are removed
-- from it
abbrev pub is_gone : List DiffRow → List DiffRow → ℕ → Bool
is_gone rows shown source = nat_lt 1 (count_in source rows) && removed_in source shown == count_in source rows

-- what the old table has, if it is removed with its source
abbrev pub gone_with : (ℕ → Bool) → Change → Option TextPlace → Option TextPlace
gone_with gone c None = None
gone_with gone c (Some entry) = if is_same c Removed && gone entry.source then Some entry else None

-- the same for a row
abbrev pub gone_entry : (ℕ → Bool) → DiffRow → Option TextPlace
gone_entry gone row = gone_with gone row.change row.old

-- their number, and the path of the source
abbrev pub cause_line : TextPlace → ℕ → List ℕ
cause_line entry count = codes "removed: all " ++ (decimal count ++ (codes " sequences of " ++ (shown_text entry.path.now ++ codes ", from which the new table has none\n")))

-- each of the rows that the old table has in this source is removed
abbrev pub are_removed : ℕ → List DiffRow → Bool
are_removed source rows = list_all (λ row. is_same row.change Removed || not (is_in_source source row.old)) rows

-- ---- counts by source

-- the row is counted for this source: all rows that the old table has in it, or the removed ones
-- alone
abbrev pub is_counted : Bool → ℕ → DiffRow → Bool
is_counted removed_alone source row = (not removed_alone || is_same row.change Removed) && is_in_source source row.old

abbrev pub counted_in : Bool → ℕ → List DiffRow → ℕ
counted_in removed_alone source rows = length (filter (is_counted removed_alone source) rows)

abbrev pub is_source : ℕ → Option ℕ → Bool
is_source source None = false
is_source source (Some other) = other == source

-- the number that was counted for a source
abbrev pub count_at : {S : Type 0} → IndexMap ℕ ℕ S → ℕ → ℕ
count_at counts source = unwrap_or (get nat_eq counts source) 0

-- the source is gone by these counts
abbrev pub has_gone : Gone → ℕ → Bool
has_gone gone source = nat_lt 1 (count_at gone.all source) && count_at gone.removed source == count_at gone.all source
