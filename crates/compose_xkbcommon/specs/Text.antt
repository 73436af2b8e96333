-- The text of a string of libxkbcommon (version 1.7, src/compose/parser.c), given what stands
-- between its quotes.
use Rattle.std.specs.Prelude.{ℕ, Bool, zero, suc, ◌+◌, ◌||◌, ◌&&◌, ◌==◌, nat_le, not, if◌then◌else◌, List, [], ◌∷◌, ◌++◌, length, take, option_to_list}
use Rattle.std.specs.List.{list_any}
use Rattle.std.specs.Str.{is_utf8}
use Rattle.std.specs.Str.Parse.{digits_value}
use Rattle.compose_text.specs.Bytes.{leading}
use Rattle.compose_text.specs.Numbers.{is_hexadecimal_digit}
use Rattle.compose_lex.specs.Escape.{byte_of, is_octal}

-- the number of bytes that an escape takes after its backslash: `\` and `"` (codes 92 and 34); `x`
-- or `X` (codes 120 and 88) and up to two digits; up to three octal digits; else none, as then the
-- backslash alone is dropped
abbrev pub escape_len : List ℕ → ℕ
escape_len [] = 0
escape_len (e ∷ rest) =
    if e == 92 || e == 34 then 1 else
    if e == 120 || e == 88 then 1 + length (leading is_hexadecimal_digit (take 2 rest)) else length (leading is_octal (take 3 (e ∷ rest)))

-- what it stands for: one byte, or none if the code is 0 or above 255
abbrev pub escape_bytes : List ℕ → List ℕ
escape_bytes [] = []
escape_bytes (e ∷ rest) =
    if e == 92 || e == 34 then e ∷ [] else
    if e == 120 || e == 88 then option_to_list (byte_of (digits_value 16 (leading is_hexadecimal_digit (take 2 rest)))) else
    option_to_list (byte_of (digits_value 8 (leading is_octal (take 3 (e ∷ rest)))))

-- the bytes of a raw text, of which the first `left` still belong to the escape before
abbrev pub typed_from : ℕ → List ℕ → List ℕ
typed_from left [] = []
typed_from (suc left) (b ∷ raw) = typed_from left raw
typed_from zero (b ∷ raw) = if b == 92 then escape_bytes raw ++ typed_from (escape_len raw) raw else b ∷ typed_from 0 raw

abbrev pub typed : List ℕ → List ℕ
typed raw = typed_from 0 raw

-- at most 255 bytes, which are UTF-8 and none of them 0
abbrev pub is_typed : List ℕ → Bool
is_typed bytes = nat_le (length bytes) 255 && is_utf8 bytes && not (list_any (λ b. b == 0) bytes)
