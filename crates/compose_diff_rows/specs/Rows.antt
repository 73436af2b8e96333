-- The rows of two tables: one for each sequence of either table.
use Rattle.std.specs.Prelude.{ℕ, Bool, true, not, if◌then◌else◌, List, [], ◌++◌, map, filter, get_or, slice_get, Option, Some, None, unwrap_or}
use Rattle.std.specs.Option.{option_map, option_map_or, option_and_then}
use Rattle.keysym_core.specs.Names.{KeysymNames}
use Rattle.compose_model.specs.Table.{Definition, is_sequence, text_at}
use Rattle.compose_model.specs.Nodes.{leaves}
use Rattle.compose_tree.specs.Targets.{leaf_number}
use Rattle.compose_places.specs.Counting.{WrittenLine, sequence_named}
use Rattle.compose_compare.specs.declared.Change.{Change}
use Rattle.compose_compare.specs.declared.Change.TheVariants.{Kept, Waiting}
use Rattle.compose_compare.specs.Change.{change}
use Rattle.compose_diff.specs.declared.row.TextPlace.{TextPlace}
use Rattle.compose_diff.specs.declared.row.DiffRow.{DiffRow}
use Rattle.compose_diff.specs.declared.row.NewSequence.{NewSequence}
use Rattle.compose_diff.specs.Line.{is_loss}
use Rattle.compose_diff.specs.Counts.{is_same}
use Rattle.compose_lookup.specs.Longer.{first_longer}
use Rattle.compose_lookup.specs.Lookup.{giving, shortest_first}
use Rattle.compose_diff_rows.specs.declared.typing.NamedSequence.{NamedSequence}
use Rattle.compose_diff_rows.specs.declared.reported.ReportedSequence.{ReportedSequence}
use Rattle.compose_diff_rows.specs.declared.written.WrittenTable.{WrittenTable}

-- ---- rows as values

-- what a table has for a sequence: its text, and the place of the definition that counts
pub record ReportedEntry : Type 0 where
  pub text : List ℕ
  pub source : ℕ
  pub path : List ℕ
  pub line : ℕ

-- a sequence of the new table as it is written: the names of its keys, and its place
pub record WrittenSequence : Type 0 where
  pub keys : List (List ℕ)
  pub path : List ℕ
  pub line : ℕ

-- what happens to a sequence, the names of its keys, what each table has for it, the longer one for
-- which it waits, and how its text is typed now
pub record ReportedRow : Type 0 where
  pub change : Change
  pub keys : List (List ℕ)
  pub old : Option ReportedEntry
  pub new : Option ReportedEntry
  pub longer : Option WrittenSequence
  pub typing : Option WrittenSequence

abbrev pub reported_entry : TextPlace → ReportedEntry
reported_entry entry = record { text = entry.text.now; source = entry.source; path = entry.path.now; line = entry.line }

abbrev pub new_sequence : NewSequence → WrittenSequence
new_sequence s = record { keys = map (λ key. key.now) s.keys.now; path = s.path.now; line = s.line }

abbrev pub reported_row : DiffRow → ReportedRow
reported_row row = record { change = row.change; keys = map (λ key. key.now) row.keys.now; old = option_map reported_entry row.old; new = option_map reported_entry row.new; longer = option_map new_sequence row.longer; typing = option_map new_sequence row.typing }

-- ---- a table as it is written

-- its definitions, the line that counts for each of its sequences in order, and the paths of its
-- sources
pub record Written : Type 0 where
  pub table : List Definition
  pub lines : List (Option WrittenLine)
  pub paths : List (List ℕ)

abbrev pub written : {T : Type 0} → (T → List Definition) → WrittenTable T → Written
written view w = record { table = view w.table.now; lines = w.lines.now; paths = map (λ path. path.now) w.paths.now }

-- the line that counts for a sequence
abbrev pub line_of : Written → List ℕ → Option WrittenLine
line_of w s = get_or w.lines (leaf_number w.table s) None

-- the names of the keys of a sequence, as they are written in that line
abbrev pub keys_of : Written → List ℕ → List (List ℕ)
keys_of w s = option_map_or (λ line. line.keys) (line_of w s) []

-- the text of a sequence
abbrev pub text_in : Written → List ℕ → List ℕ
text_in w s = unwrap_or (text_at w.table s) []

abbrev pub entry_at : Written → List ℕ → WrittenLine → ReportedEntry
entry_at w s line = record { text = text_in w s; source = line.place.source; path = get_or w.paths line.place.source []; line = line.place.line }

-- what the table has for a sequence, if it has it
abbrev pub entry_of : Written → List ℕ → Option ReportedEntry
entry_of w s = if is_sequence w.table s then option_map (entry_at w s) (line_of w s) else None

-- a sequence of the table as it is written in the line that counts, if there is one
abbrev pub sequence_at : Written → WrittenLine → WrittenSequence
sequence_at w line = record { keys = line.keys; path = get_or w.paths line.place.source []; line = line.place.line }

abbrev pub sequence_in : Written → List ℕ → Option WrittenSequence
sequence_in w s = option_map (sequence_at w) (line_of w s)

-- ---- how people type a text now

-- the first of the shortest sequences that give the text, if one does
abbrev pub first_typing : List Definition → List ℕ → Option (List ℕ)
first_typing table text = slice_get (shortest_first (giving table text)) 0

-- if people lose a sequence for which the old table has this entry, how its text is typed with the
-- new one
abbrev pub now_of : Written → Change → Option ReportedEntry → Option WrittenSequence
now_of new c None = None
now_of new c (Some entry) = if is_loss c then option_and_then (sequence_in new) (first_typing new.table entry.text) else None

-- ---- the sequence for which a waiting one waits

-- the first of the shortest sequences that begin with s and go on, as it is written
abbrev pub longer_in : Written → List ℕ → Option WrittenSequence
longer_in new s = option_and_then (sequence_in new) (first_longer new.table s)

-- for a waiting sequence, the first of the shortest longer ones
abbrev pub longer_of : Written → Change → List ℕ → Option WrittenSequence
longer_of new c s = if is_same c Waiting then longer_in new s else None

-- ---- the rows

-- the keys are written as in the old table, or as in the new one if only that has the sequence
abbrev pub row_of : KeysymNames → List ℕ → Written → Written → List ℕ → ReportedRow
row_of names fresh old new s = record {
  change = change names fresh old.table new.table s;
  keys = keys_of (if is_sequence old.table s then old else new) s;
  old = entry_of old s;
  new = entry_of new s;
  longer = longer_of new (change names fresh old.table new.table s) s;
  typing = now_of new (change names fresh old.table new.table s) (entry_of old s);
}

-- ---- the sequences that get a row

-- whether a sequence of the old table to which this happens gets a row; a kept one only if all rows
-- are wanted
abbrev pub is_reported : Bool → Change → Bool
is_reported whole Kept = whole
is_reported whole _ = true

-- the same for a sequence, by what happens to it
abbrev pub is_reported_of : Bool → KeysymNames → List ℕ → List Definition → List Definition → List ℕ → Bool
is_reported_of whole names fresh old new s = is_reported whole (change names fresh old new s)

-- the sequences of the old table that get a row, in its order
abbrev pub old_reported : Bool → KeysymNames → List ℕ → List Definition → List Definition → List (List ℕ)
old_reported whole names fresh old new = filter (is_reported_of whole names fresh old new) (leaves old)

-- the sequences that only the new table has, in its order
abbrev pub new_reported : List Definition → List Definition → List (List ℕ)
new_reported old new = filter (λ s. not (is_sequence old s)) (leaves new)

-- a row for each of the former, and then for each of the latter
abbrev pub reported_rows : Bool → KeysymNames → List ℕ → Written → Written → List ReportedRow
reported_rows whole names fresh old new = map (row_of names fresh old new) (old_reported whole names fresh old.table new.table) ++ map (row_of names fresh old new) (new_reported old.table new.table)

-- for a kept sequence that is not reported, only what the old table has for it
abbrev pub kept_row : Written → List ℕ → ReportedRow
kept_row old s = record { change = Kept; keys = []; old = entry_of old s; new = None; longer = None; typing = None }

-- a row for each of these, in the order of the old table
abbrev pub kept_rows : Bool → KeysymNames → List ℕ → Written → Written → List ReportedRow
kept_rows whole names fresh old new = map (kept_row old) (filter (λ s. not (is_reported_of whole names fresh old.table new.table s)) (leaves old.table))

-- ---- definitions for private functions

-- a sequence of one of the tables: what happens to it, the names of its keys, what the table has
-- for it, the longer one, and how its text is typed now
pub record Reported : Type 0 where
  pub change : Change
  pub keys : List (List ℕ)
  pub entry : Option ReportedEntry
  pub longer : Option WrittenSequence
  pub typing : Option WrittenSequence

abbrev pub named_sequence : NamedSequence → WrittenSequence
named_sequence s = record { keys = map (λ key. key.now) s.keys.items; path = s.path.now; line = s.line }

-- such a sequence as the code represents it
abbrev pub reported_sequence : ReportedSequence → Reported
reported_sequence reported = record { change = reported.change; keys = map (λ key. key.now) reported.keys.items; entry = option_map reported_entry reported.entry; longer = option_map named_sequence reported.longer; typing = option_map named_sequence reported.typing }

-- the longer sequence, by the names of the keys
abbrev pub longer_named : KeysymNames → Written → Change → List (List ℕ) → Option WrittenSequence
longer_named names new c keys = if is_same c Waiting then option_and_then (longer_in new) (sequence_named names keys) else None

-- the sequence s of w, which is one of the two tables
abbrev pub reported_of : KeysymNames → List ℕ → Written → Written → Written → List ℕ → Reported
reported_of names fresh old new w s = record {
  change = change names fresh old.table new.table s;
  keys = keys_of w s;
  entry = entry_of w s;
  longer = longer_named names new (change names fresh old.table new.table s) (keys_of w s);
  typing = now_of new (change names fresh old.table new.table s) (entry_of old s);
}

-- the row of a sequence of the old table; what the new table has for it is found by the names of
-- its keys
abbrev pub old_row : KeysymNames → Written → Reported → ReportedRow
old_row names new reported = record { change = reported.change; keys = reported.keys; old = reported.entry; new = option_and_then (entry_of new) (sequence_named names reported.keys); longer = reported.longer; typing = reported.typing }

-- the row of a sequence that only the new table has
abbrev pub new_row : Reported → ReportedRow
new_row reported = record { change = reported.change; keys = reported.keys; old = None; new = reported.entry; longer = None; typing = None }
