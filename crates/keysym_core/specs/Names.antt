-- The names of keysyms, as rows in the order in which they were added, and the text of a keysym.
use Rattle.std.specs.Prelude.{ℕ, Bool, ◌+◌, ◌-◌, ◌&&◌, ◌||◌, ◌==◌, nat_lt, nat_le, if◌then◌else◌, List, [], ◌∷◌, Option, Some, None, bytes_eq, encode_utf8}
use Rattle.std.specs.Option.{option_map_or, option_or}
use Rattle.compose_text.specs.Numbers.{is_between, is_hexadecimal, hexadecimal}
use Rattle.keysym_core.specs.Keysym.{is_keysym}

-- a name and its keysym, as in `#define XK_eacute 0x00e9`
pub record NameRow : Type 0 where
  pub name : List ℕ
  pub value : ℕ

-- a keysym and its character, as in the comment `/* U+00E9 .. */`
pub record CharacterRow : Type 0 where
  pub value : ℕ
  pub character : ℕ

-- the core names first, then those of the lines of a header in order
pub record KeysymNames : Type 0 where
  pub names : List NameRow
  pub characters : List CharacterRow

-- ---- the text of a keysym

-- Latin-1 keysyms are their own characters (keysymdef.h)
abbrev pub is_latin1 : ℕ → Bool
is_latin1 k = is_between 0x20 0x7e k || is_between 0xa0 0xff k

abbrev pub is_surrogate : ℕ → Bool
is_surrogate c = is_between 0xd800 0xdfff c

-- a keysym from 0x01000100 on stands for the character with its number less 0x01000000
-- (keysymdef.h)
abbrev pub is_unicode_keysym : ℕ → Bool
is_unicode_keysym k = is_between 0x01000100 0x0110ffff k

-- the ten digits of the keypad
abbrev pub is_keypad_digit : ℕ → Bool
is_keypad_digit k = is_between 0xffb0 0xffb9 k

-- the first character that is assigned to the value
abbrev pub first_character : List CharacterRow → ℕ → Option ℕ
first_character [] k = None
first_character (row ∷ rows) k = if k == row.value then Some row.character else first_character rows k

-- the character of a keysym, if it has one
abbrev pub character_of : KeysymNames → ℕ → Option ℕ
character_of names k =
    if is_latin1 k then Some k else
    if is_unicode_keysym k then (if is_surrogate (k - 0x01000000) then None else Some (k - 0x01000000)) else
    if is_keypad_digit k then Some (k - 0xffb0 + 0x30) else
    first_character names.characters k

-- the text of a keysym: its character in UTF-8, or empty (xkb_keysym_to_utf8)
abbrev pub text : KeysymNames → ℕ → List ℕ
text names k = option_map_or encode_utf8 (character_of names k) []

-- ---- the value of a name

-- the value of the row with this name
abbrev pub row_value : List NameRow → List ℕ → Option ℕ
row_value [] n = None
row_value (row ∷ rows) n = if bytes_eq n row.name then Some row.value else row_value rows n

abbrev pub is_control : ℕ → Bool
is_control c = nat_le c 0x1f || is_between 0x7f 0x9f c

-- the keysym of a character: its own number in Latin-1, else 0x01000000 added (xkb_utf32_to_keysym)
abbrev pub keysym_of_character : ℕ → Option ℕ
keysym_of_character c =
    if is_control c || is_surrogate c || nat_lt 0x10ffff c then None else
    if nat_lt c 0x100 then Some c else Some (c + 0x01000000)

-- the form `U00E9`: the letter U (code 85) and four to six digits
abbrev pub character_form : List ℕ → Option ℕ
character_form [] = None
character_form (u ∷ ds) = if u == 85 && is_hexadecimal 4 6 ds then keysym_of_character (hexadecimal ds) else None

-- the form `0xe9`: the codes 48 and 120 and one to eight digits, up to the greatest keysym
abbrev pub number_form : List ℕ → Option ℕ
number_form [] = None
number_form (z ∷ []) = None
number_form (z ∷ x ∷ ds) = if z == 48 && x == 120 && is_hexadecimal 1 8 ds && is_keysym (hexadecimal ds) then Some (hexadecimal ds) else None

-- the keysym that a name writes in one of the two forms
abbrev pub form_value : List ℕ → Option ℕ
form_value n = option_or (character_form n) (number_form n)

-- the value of a name: that of its row, else that of its form
abbrev pub value : KeysymNames → List ℕ → Option ℕ
value names n = option_or (row_value names.names n) (form_value n)
