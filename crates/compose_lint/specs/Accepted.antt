-- Accepted findings: lines of a kind and the line of the finding (this project's format).
use Rattle.std.specs.Prelude.{◌≡◌, ℕ, ◌-◌, Bool, true, false, not, ◌==◌, ◌||◌, if◌then◌else◌, List, [], ◌∷◌, ◌++◌, length, take, drop, map, filter, flat_map, Result, Ok, Err, bytes_eq, codes}
use Rattle.std.specs.List.{find, list_any, prefix_len, suffix_len}
use Rattle.std.specs.Option.{option_map_or}
use Rattle.std.specs.Str.{chars}
use Rattle.std.specs.Str.Lossy.{utf8_lossy}
use Rattle.std.specs.declared.vec.Vec.{Vec}
use Rattle.std.specs.declared.alloc.Global.{Global}
use Rattle.compose_text.specs.Bytes.{is_blank}
use Rattle.compose_text.specs.Lines.{lines_of}
use Rattle.compose_shown.specs.Shown.{shown_character}
use Rattle.compose_diff.specs.Accepted.{Line, list_lines_from, begins_with}
use Rattle.compose_diff.specs.declared.accepted.AcceptFault.{AcceptFault}
use Rattle.compose_diff.specs.declared.accepted.AcceptFault.TheVariants.{Stale, BadLine, NoMemory}
use Rattle.compose_lint.specs.Rows.{Row}
use Rattle.compose_lint.specs.Report.{kind_word}

-- ---- a line of a list

-- a line without the blanks (space, tab and carriage return) at its beginning, and without those at
-- its end
abbrev pub without_first_blanks : List ℕ → List ℕ
without_first_blanks line = drop (prefix_len is_blank line) line

abbrev pub without_last_blanks : List ℕ → List ℕ
without_last_blanks line = take (length line - suffix_len is_blank line) line

abbrev pub without_blanks : List ℕ → List ℕ
without_blanks line = without_last_blanks (without_first_blanks line)

-- a tab (code 9) as itself; other characters that a terminal may interpret as controls, by their
-- number
abbrev pub listed_character : ℕ → List ℕ
listed_character c = if c == 9 then c ∷ [] else shown_character c

abbrev pub listed_characters : List ℕ → List ℕ
listed_characters text = flat_map listed_character (chars text)

-- a line of a Compose file without the blanks at its ends, with U+FFFD for bytes that are not UTF-8
abbrev pub listed_line : List ℕ → List ℕ
listed_line line = listed_characters (utf8_lossy (without_blanks line))

-- the word of the kind, a colon and a blank, and the line of the finding
abbrev pub listed_text : Row → List ℕ
listed_text row = kind_word row.finding.kind ++ (codes ": " ++ listed_line row.bytes)

-- the words of kinds: those about lines of a file, about texts, and of readers
abbrev pub file_words : List (List ℕ)
file_words = codes "fault" ∷ codes "overridden" ∷ codes "repeated" ∷ codes "prefix" ∷ codes "keysym" ∷ []

abbrev pub text_words : List (List ℕ)
text_words = codes "mark" ∷ codes "form" ∷ codes "comment" ∷ codes "redundant" ∷ []

abbrev pub reader_words : List (List ℕ)
reader_words = codes "libX11" ∷ codes "libxkbcommon" ∷ codes "gtk3" ∷ codes "gtk4" ∷ []

-- the text begins with one of these words, a colon and a blank
abbrev pub begins_as_one : List (List ℕ) → List ℕ → Bool
begins_as_one words text = list_any (λ word. begins_with text (word ++ codes ": ")) words

-- the line begins with the word of a kind
abbrev pub is_in_form : Line → Bool
is_in_form line = begins_as_one file_words line.text || (begins_as_one text_words line.text || begins_as_one reader_words line.text)

-- the lines of a list, or the first of them that is not in the form
abbrev pub accepted_of : List ℕ → Result (List Line) AcceptFault
accepted_of bytes =
    let lines = list_lines_from 1 (lines_of bytes) in
    option_map_or (λ (line : Line). Err (BadLine line.number)) (find (λ line. not (is_in_form line)) lines) (Ok lines)

-- ---- what the lines accept

-- one of the lines has the kind of the finding and its line
abbrev pub is_accepted : List Line → Row → Bool
is_accepted lines row = list_any (bytes_eq (listed_text row)) (map (λ (line : Line). line.text) lines)

-- the line equals none of the texts
abbrev pub is_none_of : List (List ℕ) → Line → Bool
is_none_of texts line = not (list_any (bytes_eq line.text) texts)

-- the line accepts none of the findings
abbrev pub is_stale : List Row → Line → Bool
is_stale rows line = is_none_of (map listed_text rows) line

-- the findings that no line accepts, in order; or the first line that accepts none of them
abbrev pub left_of : List Line → List Row → Result (List Row) AcceptFault
left_of lines rows = option_map_or (λ (line : Line). Err (Stale line.number)) (find (is_stale rows) lines) (Ok (filter (λ row. not (is_accepted lines row)) rows))

-- this is the result, unless memory runs out
abbrev pub Leaves : Result (Vec Row Global) AcceptFault → Result (List Row) AcceptFault → Type 0
Leaves (Ok left) reading_result = reading_result ≡ Ok left.items
Leaves (Err NoMemory) reading_result = Unit {0}
Leaves (Err fault) reading_result = reading_result ≡ Err fault

-- the same by the bytes of a list; a line that is not in the form is refused before one that
-- accepts nothing
abbrev pub IsLeftBy : List ℕ → List Row → Result (Vec Row Global) AcceptFault → Type 0
IsLeftBy bytes rows (Ok left) = (lines : List Line) × (accepted_of bytes ≡ Ok lines) × (left_of lines rows ≡ Ok left.items)
IsLeftBy bytes rows (Err (BadLine n)) = accepted_of bytes ≡ Err (BadLine n)
IsLeftBy bytes rows (Err (Stale n)) = (lines : List Line) × (accepted_of bytes ≡ Ok lines) × (left_of lines rows ≡ Err (Stale n))
IsLeftBy bytes rows (Err NoMemory) = Unit {0}

-- ---- the list that accepts findings

-- the texts in order of first occurrence, without duplicates
abbrev pub distinct : List (List ℕ) → List (List ℕ)
distinct [] = []
distinct (text ∷ texts) = text ∷ filter (λ other. not (bytes_eq other text)) (distinct texts)

-- a text, and a newline (code 10)
abbrev pub as_line : List ℕ → List ℕ
as_line text = text ++ 10 ∷ []

abbrev pub as_lines : List (List ℕ) → List ℕ
as_lines texts = flat_map as_line texts

-- a line for each finding, without duplicates
abbrev pub accept_lines : List Row → List ℕ
accept_lines rows = as_lines (distinct (map listed_text rows))

-- ---- reading back the written list

-- the bytes are a list, none of its lines is stale, and no finding is left
pub record AcceptsAll (bytes : List ℕ) (rows : List Row) : Type 0 where
  pub lines : List Line
  pub read : accepted_of bytes ≡ Ok lines
  pub left : left_of lines rows ≡ Ok []

-- ---- definitions for private functions

-- the finding, unless it is accepted
abbrev pub unless : Bool → Row → List Row
unless true row = []
unless false row = row ∷ []
