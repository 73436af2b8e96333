-- What is printed has no control characters: no escape, and no newline but the one that ends a
-- line.
use Rattle.std.proofs.Common.{◌≡◌, ℕ, zero, suc, ◌+◌, ◌/◌, ◌%◌, ◌≤◌, Bool, true, false, List, [], ◌∷◌, ◌++◌, flat_map, refl, ◌∙◌, arith, inl, inr, ◌⊎◌, le-leb, leb-false}
use Rattle.std.specs.Prelude.{◌==◌, ◌||◌, nat_lt, nat_le, codes, Option, Some, None}
use Rattle.std.specs.List.{list_all}
use Rattle.std.specs.Fmt.{decimal, digits}
use Rattle.std.specs.Str.{chars}
use Rattle.std.specs.Char.{encode_utf8}
use Rattle.std.specs.Fmt.{digits_onto, digit_glyph}
use Rattle.std.proofs.lemmas.Bool.{and_from, or_parts, and_cases}
use Rattle.std.proofs.lemmas.List.Folds.{list_all-append}
use Rattle.compose_text.specs.Numbers.{is_between}
use Rattle.compose_lex.specs.Escape.{quote}
use Rattle.compose_shown.specs.Shown.{is_control, is_invisible, is_unsafe, shown_character, shown_text, turns_direction}
use Rattle.compose_compare.specs.declared.Change.{Change}
use Rattle.compose_compare.specs.declared.Change.TheVariants.{Kept, Changed, Waiting, Removed, Added, NewStart}
use Rattle.compose_diff.specs.declared.row.TextPlace.{TextPlace}
use Rattle.compose_diff.specs.declared.row.DiffRow.{DiffRow}
use Rattle.compose_diff.specs.Line.{change_word, keys_part, keys_text, key_names, text_part, row_text}

-- no control of ASCII's first thirty-two
abbrev pub is_plain : ℕ → Bool
is_plain b = nat_le 32 b

-- a text of such bytes alone
abbrev pub ArePlain : List ℕ → Type 0
ArePlain bytes = list_all is_plain bytes ≡ true

-- two parts
pub both_plain : (a b : List ℕ) → ArePlain a → ArePlain b → ArePlain (a ++ b)
both_plain a b first second = list_all-append is_plain a b ∙ and_from _ _ first second

-- each part
pub all_plain : {X : Type 0} (f : X → List ℕ) (xs : List X) → ((x : X) → ArePlain (f x)) → ArePlain (flat_map f xs)
all_plain f [] each = refl
all_plain f (x ∷ xs) each = both_plain (f x) (flat_map f xs) (each x) (all_plain f xs each)

from_32 : (b : ℕ) → 32 ≤ b → is_plain b ≡ true
from_32 b h = le-leb 32 b h

-- ---- numbers

glyph : (upper : Bool) (d : ℕ) → is_plain (digit_glyph upper d) ≡ true
glyph upper d = by (nat_lt d 10) upper refl
  where
    by : (t u : Bool) → nat_lt d 10 ≡ t → is_plain (digit_glyph u d) ≡ true
    by true u e = rw e (from_32 (48 + d) (omega arith))
    by false true e = rw e (from_32 (55 + d) (omega arith))
    by false false e = rw e (from_32 (87 + d) (omega arith))

onto : (k base : ℕ) (upper : Bool) (n : ℕ) (more : List ℕ) → ArePlain more → ArePlain (digits_onto k base upper n more)
onto zero base upper n more plain = plain
onto (suc k) base upper n more plain =
    let next : ArePlain (digit_glyph upper (n % base) ∷ more) = and_from _ _ (glyph upper (n % base)) plain in
    by next (onto k base upper (n / base) (digit_glyph upper (n % base) ∷ more) next) (n / base == 0) refl
  where
    by : ArePlain (digit_glyph upper (n % base) ∷ more) → ArePlain (digits_onto k base upper (n / base) (digit_glyph upper (n % base) ∷ more)) → (t : Bool) → (n / base == 0) ≡ t
        → ArePlain (digits_onto (suc k) base upper n more)
    by next later true e = rw e next
    by next later false e = rw e later

digits_plain : (base : ℕ) (upper : Bool) (n : ℕ) → ArePlain (digits base upper n)
unfolding digits
digits_plain base upper n = onto 64 base upper n [] refl

-- a number in decimal digits
pub decimal_plain : (n : ℕ) → ArePlain (decimal n)
decimal_plain n = digits_plain 10 false n

-- ---- characters

encoded : (c : ℕ) → 32 ≤ c → ArePlain (encode_utf8 c)
unfolding encode_utf8
encoded c h = by (nat_lt c 128) (nat_lt c 2048) (nat_lt c 65536) refl refl refl
  where
    by : (s t u : Bool) → nat_lt c 128 ≡ s → nat_lt c 2048 ≡ t → nat_lt c 65536 ≡ u → ArePlain (encode_utf8 c)
    by true t u d e f = rw d (and_from _ _ (from_32 c h) refl)
    by false true u d e f = rw (d, e) (and_from _ _ (from_32 (192 + c / 64) (omega arith)) (and_from _ _ (from_32 (128 + c % 64) (omega arith)) refl))
    by false false true d e f =
        rw (d, e, f) (and_from _ _ (from_32 (224 + c / 4096) (omega arith)) (and_from _ _ (from_32 (128 + c / 64 % 64) (omega arith)) (and_from _ _ (from_32 (128 + c % 64) (omega arith)) refl)))
    by false false false d e f =
        rw (d, e, f)
        (and_from _ _ (from_32 (240 + c / 262144) (omega arith))
        (and_from _ _ (from_32 (128 + c / 4096 % 64) (omega arith)) (and_from _ _ (from_32 (128 + c / 64 % 64) (omega arith)) (and_from _ _ (from_32 (128 + c % 64) (omega arith)) refl))))

no_control : (c : ℕ) → is_unsafe c ≡ false → 32 ≤ c
no_control c safe =
    let first = or_parts (is_control c) (turns_direction c) (or_parts (is_control c || turns_direction c) (is_invisible c) safe).0 in
    above (and_cases (nat_le 0 c) (nat_le c 31) (or_parts (is_between 0 31 c) (is_between 0x7f 0x9f c) first.0).0)
  where
    above : (nat_le 0 c ≡ false) ⊎ (nat_le c 31 ≡ false) → 32 ≤ c
    above (inl low) = absurd (omega (arith, leb-false 0 c low))
    above (inr high) = omega (arith, leb-false c 31 high)

-- a character as it is printed
pub character_plain : (c : ℕ) → ArePlain (shown_character c)
character_plain c = by (is_unsafe c) refl
  where
    by : (t : Bool) → is_unsafe c ≡ t → ArePlain (shown_character c)
    by true e = rw e (both_plain (codes "\\u{") (digits 16 false c ++ codes "}") refl (both_plain (digits 16 false c) (codes "}") (digits_plain 16 false c) refl))
    by false e = rw e (encoded c (no_control c e))

-- a key or a path as it is printed
pub shown_plain : (text : List ℕ) → ArePlain (shown_text text)
shown_plain text = all_plain shown_character (chars text) character_plain

-- ---- the parts of a line

word_plain : (c : Change) → ArePlain (change_word c)
word_plain Kept = refl
word_plain Changed = refl
word_plain Waiting = refl
word_plain Removed = refl
word_plain Added = refl
word_plain NewStart = refl

key_plain : (key : List ℕ) → ArePlain (codes " <" ++ (shown_text key ++ codes ">"))
key_plain key = both_plain (codes " <") (shown_text key ++ codes ">") refl (both_plain (shown_text key) (codes ">") (shown_plain key) refl)

-- keys
pub names_plain : (keys : List (List ℕ)) → ArePlain (keys_part keys)
names_plain keys = all_plain (λ key. codes " <" ++ (shown_text key ++ codes ">")) keys key_plain

-- the word and the keys
pub keys_plain : (c : Change) (keys : List (List ℕ)) → ArePlain (keys_text c keys)
keys_plain c keys = both_plain (change_word c) (codes ":" ++ keys_part keys) (word_plain c) (both_plain (codes ":") (keys_part keys) refl (names_plain keys))

-- the text of a sequence in quotes
pub text_plain : (entry : Option TextPlace) → ArePlain (text_part entry)
text_plain None = refl
text_plain (Some entry) = both_plain (codes " ") (shown_text (quote entry.text.now)) refl (shown_plain (quote entry.text.now))

-- the text of a row has no newline in it
pub row_text_plain : (row : DiffRow) → ArePlain (row_text row)
row_text_plain row =
    both_plain (keys_text row.change (key_names row)) (text_part row.old ++ text_part row.new) (keys_plain row.change (key_names row))
    (both_plain (text_part row.old) (text_part row.new) (text_plain row.old) (text_plain row.new))
