-- A sequence and what happens to it as a JSON object (RFC 8259), on one line.
use Rattle.std.specs.Prelude.{ℕ, ◌==◌, ◌||◌, if◌then◌else◌, List, [], ◌∷◌, ◌++◌, flat_map, Option, Some, None, codes, false, map}
use Rattle.std.specs.Fmt.{decimal, digits}
use Rattle.std.specs.Str.{chars}
use Rattle.std.specs.Char.{encode_utf8}
use Rattle.compose_shown.specs.Shown.{is_unsafe}
use Rattle.keysym_core.specs.Printed.{at_least_four}
use Rattle.compose_diff.specs.declared.row.TextPlace.{TextPlace}
use Rattle.compose_diff.specs.declared.row.DiffRow.{DiffRow}
use Rattle.compose_diff.specs.declared.row.NewSequence.{NewSequence}
use Rattle.compose_diff.specs.Line.{change_word, key_names}

-- a backslash before a quote (code 34) or a backslash (code 92), a character that could control a
-- terminal by its number, any other character itself
abbrev pub json_character : ℕ → List ℕ
json_character c =
    if c == 34 || c == 92 then 92 ∷ c ∷ [] else
    if is_unsafe c then codes "\\u" ++ at_least_four (digits 16 false c) else encode_utf8 c

abbrev pub json_characters : List ℕ → List ℕ
json_characters text = flat_map json_character (chars text)

-- in quotes
abbrev pub json_string : List ℕ → List ℕ
json_string text = codes "\"" ++ (json_characters text ++ codes "\"")

-- each after a comma
abbrev pub other_strings : List (List ℕ) → List ℕ
other_strings texts = flat_map (λ text. codes "," ++ json_string text) texts

-- with commas between them, in brackets
abbrev pub json_strings : List (List ℕ) → List ℕ
json_strings [] = codes "[]"
json_strings (text ∷ texts) = codes "[" ++ (json_string text ++ (other_strings texts ++ codes "]"))

-- the text that a table has, or null
abbrev pub json_text : Option TextPlace → List ℕ
json_text None = codes "null"
json_text (Some entry) = json_string entry.text.now

-- the file and the line of a definition under these two names, or null
abbrev pub json_place : List ℕ → Option TextPlace → List ℕ
json_place side None = codes ",\"" ++ (side ++ (codes "_file\":null,\"" ++ (side ++ codes "_line\":null")))
json_place side (Some entry) = codes ",\"" ++ (side ++ (codes "_file\":" ++ (json_string entry.path.now ++ (codes ",\"" ++ (side ++ (codes "_line\":" ++ decimal entry.line))))))

abbrev pub json_keys : DiffRow → List ℕ
json_keys row = codes "{\"change\":\"" ++ (change_word row.change ++ (codes "\",\"keys\":" ++ json_strings (key_names row)))

abbrev pub json_texts : DiffRow → List ℕ
json_texts row = codes ",\"old\":" ++ (json_text row.old ++ (codes ",\"new\":" ++ json_text row.new))

abbrev pub json_places : DiffRow → List ℕ
json_places row = json_place (codes "old") row.old ++ json_place (codes "new") row.new

-- the keys, the file and the line of a sequence under this name, or null
abbrev pub json_sequence : List ℕ → Option NewSequence → List ℕ
json_sequence name None = codes ",\"" ++ (name ++ (codes "\":null,\"" ++ (name ++ (codes "_file\":null,\"" ++ (name ++ codes "_line\":null")))))
json_sequence name (Some s) =
    codes ",\"" ++ (name ++ (codes "\":" ++ (json_strings (map (λ key. key.now) s.keys.now)
    ++ (codes ",\"" ++ (name ++ (codes "_file\":" ++ (json_string s.path.now ++ (codes ",\"" ++ (name ++ (codes "_line\":" ++ decimal s.line))))))))))

-- both places, the longer sequence for which a waiting one waits, and the sequence that gives the
-- old text now
abbrev pub json_end : DiffRow → List ℕ
json_end row = json_places row ++ (json_sequence (codes "longer") row.longer ++ json_sequence (codes "now") row.typing)

abbrev pub json_row : DiffRow → List ℕ
json_row row = json_keys row ++ (json_texts row ++ (json_end row ++ codes "}\n"))

-- an object on a line for each row
abbrev pub json_rows : List DiffRow → List ℕ
json_rows rows = flat_map json_row rows
