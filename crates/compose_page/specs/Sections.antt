-- The parts of a page, and which rows are in which (this project's profile).
use Rattle.std.specs.Prelude.{ℕ, Bool, true, false, ◌&&◌, List, ◌++◌, filter, is_some, codes}
use Rattle.compose_compare.specs.declared.Change.TheVariants as changes
use Rattle.compose_diff.specs.Counts.{is_same}
use Rattle.compose_diff.specs.Line.{is_loss}
use Rattle.compose_diff.specs.Lost.{is_lost}
use Rattle.compose_diff.specs.declared.row.DiffRow.{DiffRow}
use Rattle.compose_page.specs.declared.section.Section.{Section}
use Rattle.compose_page.specs.declared.section.Section.TheVariants.{Lost, Otherwise, Starts, Additions}

abbrev pub is_in : Section → DiffRow → Bool
is_in Lost row = is_lost row
is_in Otherwise row = is_loss row.change && is_some row.typing
is_in Starts row = is_same row.change changes.NewStart
is_in Additions row = is_same row.change changes.Added

-- the rows of a part, in their order
abbrev pub rows_in : Section → List DiffRow → List DiffRow
rows_in section rows = filter (is_in section) rows

-- the rows of all parts
abbrev pub rows_of_all : List DiffRow → List DiffRow
rows_of_all rows = rows_in Lost rows ++ (rows_in Otherwise rows ++ (rows_in Starts rows ++ rows_in Additions rows))

abbrev pub is_folded : Section → Bool
is_folded Starts = true
is_folded Additions = true
is_folded _ = false

-- ---- words

abbrev pub title : Section → List ℕ
title Lost = codes "Texts that can't be typed any more"
title Otherwise = codes "Texts that are typed otherwise"
title Starts = codes "Keys that begin a sequence now"
title Additions = codes "Added"

abbrev pub caption : Section → List ℕ
caption Lost = codes "No sequence of the new table types the text."
caption Otherwise = codes "The new keys are the shortest sequence of the new table that types the text."
caption Starts = codes "No sequence of the old table begins with the first key."
caption Additions = codes "Nobody who types with the old table meets these."
