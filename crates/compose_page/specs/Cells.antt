-- A row of a table: a sequence and what happens to it (this project's profile).
use Rattle.std.specs.Prelude.{ℕ, if◌then◌else◌, List, [], ◌++◌, Option, Some, None, codes}
use Rattle.std.specs.Fmt.{decimal}
use Rattle.std.specs.Option.{option_map_or}
use Rattle.compose_compare.specs.declared.Change.{Change}
use Rattle.compose_compare.specs.declared.Change.TheVariants.{Changed, Waiting, Removed}
use Rattle.compose_diff.specs.Line.{is_loss}
use Rattle.compose_diff.specs.Order.{first_entry}
use Rattle.compose_diff.specs.declared.row.TextPlace.{TextPlace}
use Rattle.compose_diff.specs.declared.row.DiffRow.{DiffRow}
use Rattle.compose_diff.specs.declared.row.NewSequence.{NewSequence}
use Rattle.compose_page.specs.Keys.{Keys, keys_part, old_keys, new_keys}
use Rattle.compose_page.specs.Markup.{escaped, numbers_part}
use Rattle.compose_page.specs.declared.markup.Markup.{Markup}
use Rattle.compose_page.specs.declared.markup.Markup.TheVariants.{Markdown, Html}

-- ---- rows and cells

abbrev pub row_begin : Markup → List ℕ
row_begin Markdown = []
row_begin Html = codes "<tr>"

abbrev pub row_end : Markup → List ℕ
row_end Markdown = codes "|\n"
row_end Html = codes "</tr>\n"

abbrev pub cell_begin : Markup → List ℕ
cell_begin Markdown = codes "|"
cell_begin Html = codes "<td>"

abbrev pub cell_end : Markup → List ℕ
cell_end Markdown = codes " "
cell_end Html = codes "</td>"

abbrev pub cell : Markup → List ℕ → List ℕ
cell markup inside = cell_begin markup ++ (inside ++ cell_end markup)

-- ---- the contents of cells; each part begins with a blank

-- a text of a table
abbrev pub bold_part : Markup → List ℕ → List ℕ
bold_part markup text = codes " <b>" ++ (escaped markup text ++ codes "</b>")

-- the text that the old table has, or else the new one
abbrev pub shown_text : DiffRow → List ℕ
shown_text row = option_map_or (λ entry. entry.text.now) (first_entry row) []

-- this text, and the numbers of its characters
abbrev pub text_cells : Markup → DiffRow → List ℕ
text_cells markup row = cell markup (bold_part markup (shown_text row)) ++ cell markup (numbers_part (shown_text row))

-- if people lose the sequence, the one that gives its text now
abbrev pub now_typed : DiffRow → Option NewSequence
now_typed row = if is_loss row.change then row.typing else None

-- the keys of the old and of the new sequence of a text
abbrev pub both_keys : Markup → Keys → Keys → List ℕ
both_keys markup old new = cell markup (old_keys markup old new) ++ cell markup (new_keys markup old new)

abbrev pub keys_cells_by : Markup → Keys → Option NewSequence → List ℕ
keys_cells_by markup keys None = cell markup (keys_part markup keys)
keys_cells_by markup keys (Some new) = both_keys markup keys new.keys.now

abbrev pub keys_cells : Markup → DiffRow → List ℕ
keys_cells markup row = keys_cells_by markup row.keys.now (now_typed row)

-- the text that a table has, and the numbers of its characters
abbrev pub entry_text : Markup → Option TextPlace → List ℕ
entry_text markup None = []
entry_text markup (Some entry) = bold_part markup entry.text.now ++ numbers_part entry.text.now

-- the text that the new table has
abbrev pub changed_to : Markup → Option TextPlace → List ℕ
changed_to markup entry = codes " changed to" ++ entry_text markup entry

abbrev pub sequence_keys : Markup → Option NewSequence → List ℕ
sequence_keys markup None = []
sequence_keys markup (Some s) = keys_part markup s.keys.now

-- the longer sequence
abbrev pub waiting_for : Markup → Option NewSequence → List ℕ
waiting_for markup longer = codes " waiting for" ++ sequence_keys markup longer

abbrev pub happens_by : Markup → Change → DiffRow → List ℕ
happens_by markup Changed row = changed_to markup row.new
happens_by markup Waiting row = waiting_for markup row.longer
happens_by markup Removed row = codes " removed"
happens_by markup _ row = []

abbrev pub happens : Markup → DiffRow → List ℕ
happens markup row = happens_by markup row.change row

-- only for a sequence that people lose
abbrev pub happens_cell : Markup → DiffRow → List ℕ
happens_cell markup row = if is_loss row.change then cell markup (happens markup row) else []

-- a path and a line in it
abbrev pub place_part : Markup → List ℕ → ℕ → List ℕ
place_part markup path line = codes " " ++ (escaped markup path ++ (codes ":" ++ decimal line))

abbrev pub entry_place : Markup → Option TextPlace → List ℕ
entry_place markup None = []
entry_place markup (Some entry) = place_part markup entry.path.now entry.line

abbrev pub sequence_place : Markup → Option NewSequence → List ℕ
sequence_place markup None = []
sequence_place markup (Some s) = place_part markup s.path.now s.line

-- the places in both tables, that of the longer sequence, and that of the one that gives the text
-- now
abbrev pub places_cell : Markup → DiffRow → List ℕ
places_cell markup row = cell markup (entry_place markup row.old ++ (entry_place markup row.new ++ (sequence_place markup row.longer ++ sequence_place markup row.typing)))

-- ---- the row

abbrev pub row_text : Markup → DiffRow → List ℕ
row_text markup row = row_begin markup ++ (text_cells markup row ++ (keys_cells markup row ++ (happens_cell markup row ++ (places_cell markup row ++ row_end markup))))
