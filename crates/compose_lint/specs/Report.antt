-- How a finding is printed (this project's format).
use Rattle.std.specs.Prelude.{ℕ, List, [], ◌∷◌, ◌++◌, flat_map, slice_get, unwrap_or, codes}
use Rattle.std.specs.Fmt.{decimal}
use Rattle.std.specs.Option.{option_map_or}
use Rattle.compose_shown.specs.Shown.{shown_text}
use Rattle.compose_messages.specs.Places.{position_of}
use Rattle.compose_messages.specs.Messages.{read_message_text}
use Rattle.compose_lint.specs.Rows.{Row}
use Rattle.compose_lint.specs.declared.finding.FindingKind.{FindingKind}
use Rattle.compose_lint.specs.declared.finding.LinePlace.{LinePlace}
use Rattle.compose_lint.specs.declared.finding.FindingKind.TheVariants.{Fault, Overridden, Repeated, Prefix, Keysym, Mark, Form, Alike, Comment, Redundant, Reader}
use Rattle.compose_lint.specs.declared.reader.Reader.{Reader as ReaderName}
use Rattle.compose_lint.specs.declared.reader.Reader.TheVariants.{LibX11, Libxkbcommon, Gtk3, Gtk4}
use Rattle.compose_lint.specs.declared.reader.Class.{Class}
use Rattle.compose_lint.specs.declared.reader.Class.TheVariants.{ByteOrderMark, NoNewline, Joined, CarriageReturn, SpacedName, ManyKeysyms, NoSymbol, LongestText, Nul, WideKeysym, DigitName, NoString, LetterEscape}

abbrev pub reader_word : ReaderName → List ℕ
reader_word LibX11 = codes "libX11"
reader_word Libxkbcommon = codes "libxkbcommon"
reader_word Gtk3 = codes "gtk3"
reader_word Gtk4 = codes "gtk4"

abbrev pub class_message : Class → List ℕ
class_message ByteOrderMark = codes "the line is skipped, as it follows a byte order mark"
class_message NoNewline = codes "the line is skipped, as no newline follows it"
class_message Joined = codes "the line is skipped, as the line before it ends in a backslash"
class_message CarriageReturn = codes "the line is skipped, as it has a carriage return"
class_message SpacedName = codes "the line is skipped, as a blank stands beside the name of a key"
class_message ManyKeysyms = codes "the line is skipped, as its sequence has more keysyms than are read"
class_message NoSymbol = codes "the line is skipped, as its sequence has the keysym 0"
class_message LongestText = codes "the line is skipped, as its text has 255 bytes"
class_message Nul = codes "the text is cut, as it has a byte 0"
class_message WideKeysym = codes "the sequence is never typed, as a keysym of it is above 0xffff"
class_message DigitName = codes "the line is skipped, as the name of its result begins with a digit"
class_message NoString = codes "the line is skipped, as it has no string"
class_message LetterEscape = codes "of the escapes \\n, \\r and \\t the letter is typed"

abbrev pub kind_word : FindingKind → List ℕ
kind_word (Fault index) = codes "fault"
kind_word (Overridden line) = codes "overridden"
kind_word (Repeated line) = codes "repeated"
kind_word (Prefix place) = codes "prefix"
kind_word Keysym = codes "keysym"
kind_word Mark = codes "mark"
kind_word Form = codes "form"
kind_word (Alike place) = codes "form"
kind_word Comment = codes "comment"
kind_word (Redundant place) = codes "redundant"
kind_word (Reader reader class) = reader_word reader

-- the path of the source with this index; empty if there is none
abbrev pub path_of : List (List ℕ) → ℕ → List ℕ
path_of paths source = unwrap_or (slice_get paths source) []

-- ---- the sentence

-- a sentence that names a line by its number
abbrev pub line_sentence : ℕ → List ℕ → List ℕ
line_sentence line sentence = codes "line " ++ (decimal line ++ sentence)

-- a sentence that names a line of any file, as `PATH:LINE`
abbrev pub place_sentence : List (List ℕ) → LinePlace → List ℕ → List ℕ
place_sentence paths place sentence = shown_text (path_of paths place.source) ++ (codes ":" ++ (decimal place.line ++ sentence))

-- the message of a fault
abbrev pub fault_sentence : Row → ℕ → List ℕ
fault_sentence row index = option_map_or (read_message_text row.sources) (slice_get row.faults index) []

-- the sentence of a kind that names no other line
abbrev pub own_sentence : FindingKind → List ℕ
own_sentence Keysym = codes "the keysym after the string has another character"
own_sentence Mark = codes "the text has one combining mark twice in a row"
own_sentence Form = codes "the text is not in normal form C"
own_sentence Comment = codes "the comment stands most often beside another text, and the text beside another comment"
own_sentence (Reader reader class) = class_message class
own_sentence kind = []

abbrev pub kind_sentence : Row → FindingKind → List ℕ
kind_sentence row (Fault index) = fault_sentence row index
kind_sentence row (Overridden line) = line_sentence line (codes " gives the sequence another text, which counts")
kind_sentence row (Repeated line) = line_sentence line (codes " gives the sequence the same text again")
kind_sentence row (Prefix place) = place_sentence row.paths place (codes " defines a longer sequence that begins with this one, and the longer one is typed")
kind_sentence row (Alike place) = place_sentence row.paths place (codes " gives another text that looks like this one, and is not in normal form C")
kind_sentence row (Redundant place) = place_sentence row.paths place (codes " is included, and gives the sequence the same text")
kind_sentence row kind = own_sentence kind

abbrev pub sentence_of : Row → List ℕ
sentence_of row = kind_sentence row row.finding.kind

-- ---- the place

abbrev pub fault_column : Row → ℕ → ℕ
fault_column row index = option_map_or (λ fault. option_map_or (λ at. at.1.column) (position_of row.sources fault) 1) (slice_get row.faults index) 1

-- that of a fault, or 1 if the finding is not a fault
abbrev pub kind_column : Row → FindingKind → ℕ
kind_column row (Fault index) = fault_column row index
kind_column row kind = 1

abbrev pub column_of : Row → ℕ
column_of row = kind_column row row.finding.kind

-- ---- the line

-- `PATH:LINE:COLUMN: KIND: `
abbrev pub row_head : Row → List ℕ
row_head row =
    shown_text (path_of row.paths row.finding.source) ++ (codes ":" ++ (decimal row.finding.line ++ (codes ":" ++ (decimal (column_of row) ++ (codes ": " ++ (kind_word row.finding.kind ++ codes ": "))))))

-- the same, the sentence, and a newline (code 10)
abbrev pub row_line : Row → List ℕ
row_line row = row_head row ++ (sentence_of row ++ 10 ∷ [])

abbrev pub rows_text : List Row → List ℕ
rows_text rows = flat_map row_line rows
