-- The grammar of a line of a header that defines a name (the form of keysymdef.h; which comments
-- assign a character is this project's profile). A line is its bytes, without the newline.
use Rattle.std.specs.Prelude.{◌≡◌, ◌⊎◌, ℕ, Bool, not, ◌&&◌, nat_lt, List, [], ◌++◌, length, Option, Some, None, IsTrue, codes}
use Rattle.std.specs.List.{list_all}
use Rattle.compose_text.specs.Numbers.{is_hexadecimal_digit, is_hexadecimal, hexadecimal}
use Rattle.compose_text.specs.Bytes.{begins, is_blank, is_name_byte}
use Rattle.keysym_core.specs.Header.{HeaderEntry, define, is_graphic}

-- at least one byte, and all of them pass the test
abbrev pub are_some : (ℕ → Bool) → List ℕ → Bool
are_some p bytes = nat_lt 0 (length bytes) && list_all p bytes

-- ---- comments

-- the text of a comment has the number: perhaps blanks, perhaps `(`, `U+`, four to six digits, and
-- other bytes after them, of which the first is not a digit
pub record NotesNumber (text : List ℕ) (number : ℕ) : Type 0 where
  pub blanks : List ℕ
  pub opening : List ℕ
  pub digits : List ℕ
  pub others : List ℕ
  pub bytes : text ≡ blanks ++ opening ++ codes "U+" ++ digits ++ others
  pub are_blanks : IsTrue (list_all is_blank blanks)
  pub is_opening : (opening ≡ []) ⊎ (opening ≡ codes "(")
  pub are_digits : IsTrue (is_hexadecimal 4 6 digits)
  pub are_all_digits : IsTrue (not (begins is_hexadecimal_digit others))
  pub is_number : hexadecimal digits ≡ number

-- the text of a comment assigns the character: its number is that of the character, which is
-- graphic. It assigns none if it has no such number
abbrev pub NotesCharacter : List ℕ → Option ℕ → Type 0
NotesCharacter text (Some c) = NotesNumber text c × IsTrue (is_graphic c)
NotesCharacter text None = (number : ℕ) → NotesNumber text number → IsTrue (not (is_graphic number))

-- ---- lines

-- nothing, or `/*` and the text of a comment, up to the end of the line
abbrev pub comment_bytes : Option (List ℕ) → List ℕ
comment_bytes None = []
comment_bytes (Some text) = codes "/*" ++ text

-- without a comment there is no character
abbrev pub CommentNotes : Option (List ℕ) → Option ℕ → Type 0
CommentNotes None character = character ≡ None
CommentNotes (Some text) character = NotesCharacter text character

-- the line defines the entry: `#define XK_`, its name, blanks, `0x`, one to eight digits of its
-- value, perhaps blanks, and perhaps a comment
pub record DefinesEntry (line : List ℕ) (entry : HeaderEntry) : Type 0 where
  pub blanks : List ℕ
  pub digits : List ℕ
  pub more_blanks : List ℕ
  pub comment : Option (List ℕ)
  pub bytes : line ≡ define ++ entry.name ++ blanks ++ codes "0x" ++ digits ++ more_blanks ++ comment_bytes comment
  pub is_name : IsTrue (are_some is_name_byte entry.name)
  pub are_blanks : IsTrue (are_some is_blank blanks)
  pub are_digits : IsTrue (is_hexadecimal 1 8 digits)
  pub is_value : hexadecimal digits ≡ entry.value
  pub are_more_blanks : IsTrue (list_all is_blank more_blanks)
  pub is_character : CommentNotes comment entry.character
