-- Definitions that other readers of Compose files skip or treat differently: each class is one line
-- of docs/READERS.md.
use Rattle.std.specs.Prelude.{ℕ, Bool, true, false, not, ◌==◌, ◌||◌, nat_lt, nat_le, List, [], ◌∷◌, length, is_some}
use Rattle.std.specs.List.{list_any}
use Rattle.std.specs.Option.{option_map_or}
use Rattle.std.specs.Char.{is_ascii_digit}
use Rattle.compose_text.specs.Bytes.{begins}
use Rattle.compose_model.specs.Table.{Definition}
use Rattle.compose_lint.specs.Productions.{Written}

-- libX11 skips a line of ten keysyms or more, libxkbcommon one of eleven or more
abbrev pub has_ten_keysyms : Definition → Bool
has_ten_keysyms d = nat_le 10 (length d.sequence)

abbrev pub has_eleven_keysyms : Definition → Bool
has_eleven_keysyms d = nat_le 11 (length d.sequence)

-- the keysym 0, `NoSymbol`: libX11 and libxkbcommon skip the line
abbrev pub has_no_symbol : Definition → Bool
has_no_symbol d = list_any (λ k. k == 0) d.sequence

-- libxkbcommon skips a text of 255 bytes
abbrev pub has_longest_text : Definition → Bool
has_longest_text d = nat_le 255 (length d.text)

-- libX11 and libxkbcommon cut a text at a byte 0
abbrev pub has_nul : Definition → Bool
has_nul d = list_any (λ b. b == 0) d.text

-- GTK 4 matches no key above 0xffff
abbrev pub has_wide_keysym : Definition → Bool
has_wide_keysym d = list_any (λ k. nat_lt 0xffff k) d.sequence

-- the result name begins with a digit: libxkbcommon skips the line
abbrev pub has_digit_name : Written → Bool
has_digit_name p = option_map_or (begins is_ascii_digit) p.name false

-- GTK skips a line without a string
abbrev pub has_no_string : Written → Bool
has_no_string p = not (is_some p.raw)

-- `\n`, `\r` or `\t` (codes 110, 114 and 116 after a backslash, code 92): libxkbcommon types the
-- letter
abbrev pub has_letter_escape_from : Bool → List ℕ → Bool
has_letter_escape_from taken [] = false
has_letter_escape_from true (b ∷ raw) = (b == 110 || b == 114 || b == 116) || has_letter_escape_from false raw
has_letter_escape_from false (b ∷ raw) = has_letter_escape_from (b == 92) raw

abbrev pub has_letter_escape : Written → Bool
has_letter_escape p = option_map_or (has_letter_escape_from false) p.raw false
