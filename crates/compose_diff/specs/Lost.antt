-- Sequences that people lose, and whose text no sequence of the new table gives any more (this
-- project's profile).
use Rattle.std.specs.Prelude.{ℕ, Bool, not, ◌&&◌, if◌then◌else◌, List, [], map, filter, is_some}
use Rattle.std.specs.Option.{option_map_or}
use Rattle.compose_model.specs.Nodes.{rising_lists}
use Rattle.compose_diff.specs.declared.row.DiffRow.{DiffRow}
use Rattle.compose_diff.specs.Line.{is_loss}

abbrev pub is_lost : DiffRow → Bool
is_lost row = is_loss row.change && not (is_some row.typing)

-- the rows of these, in order
abbrev pub lost_rows : List DiffRow → List DiffRow
lost_rows rows = filter is_lost rows

-- the rows that are printed: only those of lost texts, if that is asked for
abbrev pub shown_rows : Bool → List DiffRow → List DiffRow
shown_rows lost_alone rows = if lost_alone then lost_rows rows else rows

-- the text that the old table has
abbrev pub old_text : DiffRow → List ℕ
old_text row = option_map_or (λ entry. entry.text.now) row.old []

-- the texts of the lost ones, each once, in rising order
abbrev pub lost_texts : List DiffRow → List (List ℕ)
lost_texts rows = rising_lists (map old_text (lost_rows rows))
