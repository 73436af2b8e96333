-- The line of a row (this project's profile): what happens, the keys, the texts and the places.
use Rattle.std.specs.Prelude.{ℕ, Bool, true, false, if◌then◌else◌, List, [], ◌∷◌, ◌++◌, map, flat_map, Option, Some, None, codes}
use Rattle.std.specs.Fmt.{decimal}
use Rattle.compose_lex.specs.Escape.{quote}
use Rattle.compose_shown.specs.Shown.{shown_text}
use Rattle.compose_compare.specs.declared.Change.{Change}
use Rattle.compose_compare.specs.declared.Change.TheVariants.{Kept, Changed, Waiting, Removed, Added, NewStart}
use Rattle.compose_diff.specs.declared.row.TextPlace.{TextPlace}
use Rattle.compose_diff.specs.declared.row.DiffRow.{DiffRow}
use Rattle.compose_diff.specs.declared.row.NewSequence.{NewSequence}

abbrev pub change_word : Change → List ℕ
change_word Kept = codes "kept"
change_word Changed = codes "changed"
change_word Waiting = codes "waiting"
change_word Removed = codes "removed"
change_word Added = codes "added"
change_word NewStart = codes "new start"

-- each key in angle brackets, after a blank
abbrev pub keys_part : List (List ℕ) → List ℕ
keys_part keys = flat_map (λ key. codes " <" ++ (shown_text key ++ codes ">")) keys

-- the text in quotes, after a blank; characters that could control a terminal are escaped
abbrev pub text_part : Option TextPlace → List ℕ
text_part None = []
text_part (Some entry) = codes " " ++ shown_text (quote entry.text.now)

-- the path, a colon and the line, after a blank
abbrev pub path_part : List ℕ → ℕ → List ℕ
path_part path line = codes " " ++ (shown_text path ++ (codes ":" ++ decimal line))

abbrev pub place_part : Option TextPlace → List ℕ
place_part None = []
place_part (Some entry) = path_part entry.path.now entry.line

-- the word and the keys
abbrev pub keys_text : Change → List (List ℕ) → List ℕ
keys_text change keys = change_word change ++ (codes ":" ++ keys_part keys)

-- the names of the keys of a sequence
abbrev pub key_names : DiffRow → List (List ℕ)
key_names row = map (λ key. key.now) row.keys.now

-- the word, the keys and the texts, without places
abbrev pub row_text : DiffRow → List ℕ
row_text row = keys_text row.change (key_names row) ++ (text_part row.old ++ text_part row.new)

abbrev pub places_text : DiffRow → List ℕ
places_text row = place_part row.old ++ place_part row.new

-- the keys of a sequence of the new table, and its place
abbrev pub sequence_part : NewSequence → List ℕ
sequence_part s = keys_part (map (λ key. key.now) s.keys.now) ++ path_part s.path.now s.line

-- people who type the sequence no longer get its text
abbrev pub is_loss : Change → Bool
is_loss Changed = true
is_loss Waiting = true
is_loss Removed = true
is_loss _ = false

abbrev pub typed_part : Option NewSequence → List ℕ
typed_part None = codes " none"
typed_part (Some s) = sequence_part s

-- for such a sequence, how its text is typed with the new table
abbrev pub now_part : Change → Option NewSequence → List ℕ
now_part change now = if is_loss change then codes " now:" ++ typed_part now else []

-- the longer sequence for which a waiting one waits
abbrev pub longer_part : Option NewSequence → List ℕ
longer_part None = []
longer_part (Some s) = codes " longer:" ++ sequence_part s

-- what follows the texts; accepted lines are not compared with it
abbrev pub row_end : DiffRow → List ℕ
row_end row = places_text row ++ (longer_part row.longer ++ now_part row.change row.typing)

-- the whole line, with the newline (code 10) that ends it
abbrev pub row_line : DiffRow → List ℕ
row_line row = row_text row ++ (row_end row ++ 10 ∷ [])
