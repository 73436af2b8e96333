-- The place of a fault: its source, its line, and its column in characters.
use Rattle.std.specs.Prelude.{ℕ, Bool, not, ◌+◌, ◌-◌, ◌==◌, ◌&&◌, nat_lt, if◌then◌else◌, List, [], ◌∷◌, length, take, drop, Option, Some, None, Result, Ok, get_or}
use Rattle.std.specs.Option.{option_map}
use Rattle.std.specs.List.{count_by, prefix_len}
use Rattle.std.specs.Str.{is_utf8}
use Rattle.std.specs.Str.Lossy.{utf8_valid_len}
use Rattle.compose_text.specs.Bytes.{is_blank}
use Rattle.compose_text.specs.Numbers.{is_between}
use Rattle.compose_lex.specs.Line.{Reading, production}
use Rattle.compose_lex.specs.Fault.{reading_of}
use Rattle.compose_lex.specs.declared.LexFault.{LexFault}
use Rattle.compose_lex.specs.declared.LexFault.TheVariants.{BadToken, ModifierList, UnclosedString, UnknownEscape, BadCode, NoResult, TooManyKeysyms}
use Rattle.compose_read.specs.Lines.{Source, source_lines, without_mark}
use Rattle.compose_read.specs.declared.ReadFault.{ReadFault}
use Rattle.compose_read.specs.declared.ReadFault.TheVariants.{NotUtf8, Lex, UnknownKeysym, IgnoredKeysym, MissingInclude, IncludeDepth, TooManyLines, TooManyDefinitions}
use Rattle.compose_messages.specs.declared.position.Position.{Position}

-- the line with this number, counted from 1, of the source with this index; nothing if there is
-- none
abbrev pub line_at : List Source → ℕ → ℕ → List ℕ
line_at sources source line = get_or (source_lines (get_or sources source (record { name = []; bytes = [] })).bytes) (line - 1) []

-- the bytes of the source with this index, without a byte order mark; nothing if there is none
abbrev pub bytes_at : List Source → ℕ → List ℕ
bytes_at sources source = without_mark (get_or sources source (record { name = []; bytes = [] })).bytes

-- the bytes if they are UTF-8, and otherwise nothing
abbrev pub text_or_nothing : List ℕ → List ℕ
text_or_nothing bytes = if is_utf8 bytes then bytes else []

-- ---- columns

-- a byte that begins a character of UTF-8: any but 0x80 to 0xbf
abbrev pub begins_character : ℕ → Bool
begins_character b = not (is_between 0x80 0xbf b)

-- the column of this offset: one more than the number of characters before it
abbrev pub column_at : List ℕ → ℕ → ℕ
column_at line offset = 1 + count_by begins_character (take offset line)

-- the number of bytes of the first n characters, or of all if there are fewer
abbrev pub characters_len : ℕ → List ℕ → ℕ
characters_len n [] = 0
characters_len n (b ∷ bytes) = if begins_character b && n == 0 then 0 else 1 + characters_len (if begins_character b then n - 1 else n) bytes

-- the first 80 characters of a name, or all of a shorter one
abbrev pub beginning : List ℕ → List ℕ
beginning name = text_or_nothing (take (characters_len 80 name) name)

-- ---- offsets in a line, in bytes

-- the offset of the byte that follows n others of its kind, or of the end
abbrev pub nth_of : ℕ → ℕ → List ℕ → ℕ
nth_of byte n [] = 0
nth_of byte n (b ∷ line) = if b == byte && n == 0 then 0 else 1 + nth_of byte (if b == byte then n - 1 else n) line

-- the offset of the first such byte, or of the end
abbrev pub first_of : ℕ → List ℕ → ℕ
first_of byte line = nth_of byte 0 line

-- the offset of the end of the string, or of the colon (code 58) if there is no string; the raw
-- text is between quotes (code 34), the first of the line
abbrev pub text_end : List ℕ → Option (List ℕ) → ℕ
text_end line None = 1 + first_of 58 line
text_end line (Some raw) = 2 + length raw + first_of 34 line

-- the offset of the name of the result keysym, which follows the string or the colon
abbrev pub result_offset : List ℕ → Option (List ℕ) → ℕ
result_offset line raw = text_end line raw + prefix_len is_blank (drop (text_end line raw) line)

-- the offset of the event with this index, at its `<` (code 60); of the result keysym, if no event
-- has this index
abbrev pub offset_in : List ℕ → ℕ → Result Reading LexFault → ℕ
offset_in line index (Ok (production events raw name)) = if nat_lt index (length events) then nth_of 60 index line else result_offset line raw
offset_in line index reading = 0

abbrev pub keysym_offset : List ℕ → ℕ → ℕ
keysym_offset line index = offset_in line index (reading_of (text_or_nothing line))

-- the offset of the fault of a line; the fault of a text counts from after its opening quote
abbrev pub lex_offset : List ℕ → LexFault → ℕ
lex_offset line (BadToken at) = at
lex_offset line (ModifierList at) = at
lex_offset line (UnclosedString at) = at
lex_offset line (UnknownEscape at) = 1 + first_of 34 line + at
lex_offset line (BadCode at) = 1 + first_of 34 line + at
lex_offset line NoResult = first_of 58 line
lex_offset line TooManyKeysyms = nth_of 60 32 line
lex_offset line fault = first_of 34 line

abbrev pub offset_of : List ℕ → ReadFault → ℕ
offset_of line (NotUtf8 s l) = utf8_valid_len line
offset_of line (Lex s l fault) = lex_offset line fault
offset_of line (UnknownKeysym s l index) = keysym_offset line index
offset_of line (IgnoredKeysym s l index) = keysym_offset line index
offset_of line (MissingInclude s l) = first_of 34 line
offset_of line (IncludeDepth s l) = first_of 34 line
offset_of line fault = 0

-- ---- faults

-- the source and the line of a fault, if it is in one
abbrev pub line_of : ReadFault → Option (ℕ × ℕ)
line_of (NotUtf8 s l) = Some (s, l)
line_of (Lex s l fault) = Some (s, l)
line_of (UnknownKeysym s l index) = Some (s, l)
line_of (IgnoredKeysym s l index) = Some (s, l)
line_of (MissingInclude s l) = Some (s, l)
line_of (IncludeDepth s l) = Some (s, l)
line_of (TooManyLines s l) = Some (s, l)
line_of (TooManyDefinitions s l) = Some (s, l)
line_of fault = None

-- its source, and its position there
abbrev pub position_in : List Source → ReadFault → ℕ × ℕ → ℕ × Position
position_in sources fault at = (at.0, record { line = at.1; column = column_at (line_at sources at.0 at.1) (offset_of (line_at sources at.0 at.1) fault) })

abbrev pub position_of : List Source → ReadFault → Option (ℕ × Position)
position_of sources fault = option_map (position_in sources fault) (line_of fault)
