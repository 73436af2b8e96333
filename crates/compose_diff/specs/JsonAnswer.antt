-- The whole answer of `diff` as JSON (this project's profile).
use Rattle.std.specs.Prelude.{ℕ, Bool, ◌-◌, List, ◌++◌, length, codes}
use Rattle.std.specs.Fmt.{decimal}
use Rattle.compose_diff.specs.declared.counts.Counts.{Counts}
use Rattle.compose_diff.specs.declared.overlaps.Overlaps.{Overlaps}
use Rattle.compose_diff.specs.declared.row.DiffRow.{DiffRow}
use Rattle.compose_diff.specs.Counts.{counts_of}
use Rattle.compose_diff.specs.Json.{json_rows}
use Rattle.compose_diff.specs.Lost.{shown_rows}

-- a count after the text before it
abbrev pub json_count : List ℕ → ℕ → List ℕ
json_count before n = before ++ decimal n

-- the numbers of kept, changed, waiting and removed sequences of the old table
abbrev pub json_old_counts : Counts → List ℕ
json_old_counts counts =
    json_count (codes "{\"counts\":{\"kept\":") counts.kept ++ (json_count (codes ",\"changed\":") counts.changed
    ++ (json_count (codes ",\"waiting\":") counts.waiting ++ json_count (codes ",\"removed\":") counts.removed))

-- the other counts
abbrev pub json_new_counts : Counts → List ℕ
json_new_counts counts =
    json_count (codes ",\"new_starts\":") counts.new_starts ++ (json_count (codes ",\"added\":") counts.added
    ++ (json_count (codes ",\"accepted\":") counts.accepted ++ json_count (codes ",\"lost_texts\":") counts.lost_texts))

abbrev pub json_overlaps : Overlaps → List ℕ
json_overlaps overlaps = json_count (codes ",\"old_overlaps\":") overlaps.old ++ (json_count (codes ",\"new_overlaps\":") overlaps.new ++ codes "}}\n")

-- an object on one line, with all of these as the object `counts`
abbrev pub json_counts : Counts → Overlaps → List ℕ
json_counts counts overlaps = json_old_counts counts ++ (json_new_counts counts ++ json_overlaps overlaps)

-- an object for each row that is printed of those that are not accepted, and one with the counts
abbrev pub json_answer : Bool → Overlaps → List DiffRow → List DiffRow → List ℕ
json_answer lost_alone overlaps rows left = json_rows (shown_rows lost_alone left) ++ json_counts (counts_of left (length rows - length left)) overlaps
