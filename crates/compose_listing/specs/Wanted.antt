-- The text that a word of the command line stands for (this project's profile).
use Rattle.std.specs.Prelude.{ℕ, Bool, ◌&&◌, ◌||◌, nat_eq, nat_lt, if◌then◌else◌, List, drop, Option, Some, None, codes, encode_utf8}
use Rattle.std.specs.List.{starts_with}
use Rattle.std.specs.Option.{option_map_or}
use Rattle.compose_text.specs.Numbers.{is_hexadecimal, hexadecimal}

-- the number of a character: no surrogate, and at most 10FFFF
abbrev pub is_scalar : ℕ → Bool
is_scalar c = nat_lt c 0xd800 || (nat_lt 0xdfff c && nat_lt c 0x110000)

-- the character of this number: `U+` and four to six hexadecimal digits
abbrev pub numbered_character : List ℕ → Option ℕ
numbered_character word =
    if starts_with nat_eq word (codes "U+") && is_hexadecimal 4 6 (drop 2 word) && is_scalar (hexadecimal (drop 2 word)) then Some (hexadecimal (drop 2 word)) else None

-- a character by its number, and any other word itself
abbrev pub wanted_text : List ℕ → List ℕ
wanted_text word = option_map_or encode_utf8 (numbered_character word) word
