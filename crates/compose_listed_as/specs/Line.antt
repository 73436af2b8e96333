-- The line of a definition that is taken, as `list` prints the line of a sequence: in the form of a
-- Compose file (Compose(5), "FILE DESCRIPTION"), with its place as a comment.
use Rattle.std.specs.Prelude.{ℕ, false, ◌==◌, if◌then◌else◌, List, [], ◌∷◌, ◌++◌, length, flat_map, slice_get, codes}
use Rattle.std.specs.Fmt.{decimal, digits}
use Rattle.std.specs.Option.{option_map_or}
use Rattle.std.specs.Str.{is_utf8}
use Rattle.compose_lex.specs.Escape.{octal_escape, quote}
use Rattle.compose_lex.specs.Line.{quoted}
use Rattle.compose_readers.specs.Definitions.{Definition}
use Rattle.compose_readers.specs.Files.{FileRead}
use Rattle.compose_readers.specs.Walks.{Told, entry_of}
use Rattle.compose_shown.specs.Shown.{shown_text}
use Rattle.keysym_core.specs.Keysym.{is_keysym}
use Rattle.keysym_core.specs.Names.{KeysymNames}
use Rattle.keysym_core.specs.Printed.{printed}
use Rattle.compose_listed_as.specs.Judged.{Judged, takes}

-- ---- the parts of a line

-- the name of a keysym; a number above the greatest keysym in hexadecimal digits
abbrev pub key_name : KeysymNames → ℕ → List ℕ
key_name names k = if is_keysym k then printed names k else codes "0x" ++ digits 16 false k

-- each key between `<` and `>`, and a blank after it
abbrev pub key_text : KeysymNames → ℕ → List ℕ
key_text names k = codes "<" ++ (key_name names k ++ codes "> ")

-- a text in quotes, or if it is empty, the name of the keysym without a text; bytes that are no
-- text by their codes
abbrev pub utf8_result : List ℕ → List ℕ
utf8_result text = if length text == 0 then codes "VoidSymbol" else quote text

abbrev pub result_text : List ℕ → List ℕ
result_text text = if is_utf8 text then utf8_result text else quoted (flat_map octal_escape text)

-- ---- places

-- a path that is read is a text
abbrev pub text_or_empty : List ℕ → List ℕ
text_or_empty path = if is_utf8 path then path else []

abbrev pub path_at : List FileRead → ℕ → List ℕ
path_at files index = option_map_or (λ file. text_or_empty file.path) (slice_get files index) []

-- the path, escaped for a terminal, and the line number
abbrev pub place_text : List FileRead → Told → List ℕ
place_text files t = shown_text (path_at files t.file) ++ (codes ":" ++ decimal t.line)

-- ---- a line

-- for example `<Multi_key> <e> : "é"  # en_US.UTF-8/Compose:123` (code 10 ends the line)
abbrev pub definition_line : KeysymNames → List FileRead → Told → Definition → List ℕ
definition_line names files t d = flat_map (key_text names) d.keys ++ (codes ": " ++ (result_text d.text ++ (codes "  # " ++ (place_text files t ++ 10 ∷ []))))

abbrev pub told_line : KeysymNames → List FileRead → Told → List ℕ
told_line names files t = option_map_or (definition_line names files t) (entry_of t.what) []

-- of what isn't taken there is none
abbrev pub taken_line : KeysymNames → List FileRead → Judged → List ℕ
taken_line names files j = if takes j then told_line names files j.told else []
