-- What users and files wrote, as it is printed to a terminal (this project's profile).
use Rattle.std.specs.Prelude.{ℕ, Bool, ◌||◌, ◌==◌, if◌then◌else◌, List, ◌++◌, flat_map, codes, false}
use Rattle.std.specs.Fmt.{digits}
use Rattle.std.specs.Str.{chars}
use Rattle.std.specs.Char.{encode_utf8}
use Rattle.compose_text.specs.Numbers.{is_between}

-- a control character (Unicode's general category Cc)
abbrev pub is_control : ℕ → Bool
is_control c = is_between 0 0x1f c || is_between 0x7f 0x9f c

-- a character that changes the direction of writing (Unicode's property Bidi_Control)
abbrev pub turns_direction : ℕ → Bool
turns_direction c = is_between 0x61c 0x61c c || is_between 0x200e 0x200f c || is_between 0x202a 0x202e c || is_between 0x2066 0x2069 c

-- a character that no terminal shows: a space without width, an operator without a sign, a byte
-- order mark
abbrev pub is_invisible : ℕ → Bool
is_invisible c = is_between 0x200b 0x200b c || is_between 0x2060 0x2064 c || is_between 0xfeff 0xfeff c

-- a character that a reader can't see, or that changes how others are shown
abbrev pub is_unsafe : ℕ → Bool
is_unsafe c = is_control c || turns_direction c || is_invisible c

-- such a character by its number, any other as it is
abbrev pub shown_character : ℕ → List ℕ
shown_character c = if is_unsafe c then codes "\\u{" ++ digits 16 false c ++ codes "}" else encode_utf8 c

abbrev pub shown_text : List ℕ → List ℕ
shown_text text = flat_map shown_character (chars text)

-- a newline (code 10) as it is, any other character as above
abbrev pub shown_in_lines : ℕ → List ℕ
shown_in_lines c = if c == 10 then encode_utf8 c else shown_character c

abbrev pub shown_lines : List ℕ → List ℕ
shown_lines text = flat_map shown_in_lines (chars text)
