-- A character's number is spelled by at least four digits; more than four have no leading zeros.
use Rattle.std.proofs.Common.{◌≡◌, ◌⊎◌, inl, inr, ℕ, zero, suc, ◌+◌, ◌-◌, ◌<◌, ◌≤◌, ◌^◌, List, [], ◌∷◌, ◌++◌, length, get_or, replicate, Bool, true, false, cond, ◌&&◌, refl, sym, subst, ◌∙◌, ap, arith, length-append}
use Rattle.std.specs.Prelude.{nat_le, Some, None}
use Rattle.std.specs.List.{list_all}
use Rattle.std.specs.Fmt.{digits}
use Rattle.std.specs.Str.Parse.{digits_value}
use Rattle.std.proofs.lemmas.List.{length-replicate}
use Rattle.std.proofs.lemmas.Bool.{and_parts, and_from, leb-true, le-leb, cases_eq, false≢true}
use Rattle.compose_cert.specs.declared.numeral.Notation.TheVariants.{UpperHexadecimal}
use Rattle.compose_cert.specs.Numerals.{padded, is_digit, IsSpelled}
use Rattle.compose_cert.proofs.Words.{zeros}
use Rattle.compose_cert.proofs.Numerals.{IsWritten, is_written, written_again, value_up_to}

-- digits without their leading zeros
record Stripped (word : List ℕ) : Type 0 where
  count : ℕ
  rest : List ℕ
  is : word ≡ replicate count 48 ++ rest
  some : 0 < length rest
  no_zero : get_or rest 0 0 ≡ 48 → length rest ≡ 1

strip : (word : List ℕ) → 0 < length word → Stripped word
strip [] h = absurd (omega arith)
strip (c ∷ []) h = record { count = 0; rest = c ∷ []; is = refl; some = omega arith; no_zero = λ z. refl }
strip (c ∷ d ∷ word) h = go (cases_eq c 48) (strip (d ∷ word) (omega arith))
  where
    go : (c ≡ 48) ⊎ (c ≡ 48 → ⊥) → Stripped (d ∷ word) → Stripped (c ∷ d ∷ word)
    go (inl e) r = record { count = suc r.count; rest = r.rest; is = ap (λ x. x ∷ d ∷ word) e ∙ ap (λ ds. 48 ∷ ds) r.is; some = r.some; no_zero = r.no_zero }
    go (inr n) r = record { count = 0; rest = c ∷ d ∷ word; is = refl; some = omega arith; no_zero = λ z. absurd (n z) }

all_after : (p : ℕ → Bool) (a b : List ℕ) → list_all p (a ++ b) ≡ true → list_all p b ≡ true
all_after p [] b h = h
all_after p (x ∷ a) b h = all_after p a b (and_parts (p x) (list_all p (a ++ b)) h).1

all_zeros : (count : ℕ) (ds : List ℕ) → list_all (is_digit UpperHexadecimal) ds ≡ true → list_all (is_digit UpperHexadecimal) (replicate count 48 ++ ds) ≡ true
all_zeros zero ds h = h
all_zeros (suc count) ds h = all_zeros count ds h

-- the zeros that pad to four digits are those of the word
filled : (count : ℕ) (word rest : List ℕ) → word ≡ replicate count 48 ++ rest → 4 ≤ length word → (get_or word 0 0 ≡ 48 → length word ≡ 4) → 4 - length rest ≡ count
filled zero word rest is l f = omega (arith, ap length is)
filled (suc count) word rest is l f =
    let four = f (ap (λ ds. get_or ds 0 0) is) in
    let size : length word ≡ suc count + length rest = ap length is ∙ length-append (replicate (suc count) 48) rest ∙ ap (λ n. n + length rest) (length-replicate (suc count) 48) in
    omega arith

padded_again : (word : List ℕ) → list_all (is_digit UpperHexadecimal) word ≡ true → 4 ≤ length word → (get_or word 0 0 ≡ 48 → length word ≡ 4) → digits_value 16 word < 2 ^ 32
    → padded (digits_value 16 word) ≡ word
padded_again word a l f small =
    let r = strip word (omega arith) in
    let value : digits_value 16 word ≡ digits_value 16 r.rest = ap (digits_value 16) r.is ∙ zeros r.count r.rest in
    let all = all_after (is_digit UpperHexadecimal) (replicate r.count 48) r.rest (ap (list_all (is_digit UpperHexadecimal)) (sym r.is) ∙ a) in
    let same : digits 16 true (digits_value 16 word) ≡ r.rest = ap (digits 16 true) value ∙ written_again UpperHexadecimal r.rest refl all r.some r.no_zero (omega arith) in
    ap (λ ds. replicate (4 - length ds) 48 ++ ds) same ∙ ap (λ n. replicate n 48 ++ r.rest) (filled r.count word r.rest r.is l f) ∙ sym r.is

-- the text of a character's number
record IsPadded (n : ℕ) (word : List ℕ) : Type 0 where
  digits : list_all (is_digit UpperHexadecimal) word ≡ true
  four : 4 ≤ length word
  no_zero : get_or word 0 0 ≡ 48 → length word ≡ 4
  value : digits_value 16 word ≡ n

is_padded : (n : ℕ) → n < 2 ^ 32 → IsPadded n (padded n)
is_padded n l =
    let w = is_written UpperHexadecimal n refl l in
    let ds = digits 16 true n in
    let size : length (padded n) ≡ 4 - length ds + length ds = length-append (replicate (4 - length ds) 48) ds ∙ ap (λ m. m + length ds) (length-replicate (4 - length ds) 48) in
    record { digits = all_zeros (4 - length ds) ds w.digits; four = omega arith; no_zero = λ z. first (4 - length ds) refl w size z; value = zeros (4 - length ds) ds ∙ w.value }
  where
    first : (count : ℕ) → 4 - length (digits 16 true n) ≡ count → IsWritten UpperHexadecimal n (digits 16 true n) → length (padded n) ≡ 4 - length (digits 16 true n) + length (digits 16 true n)
        → get_or (padded n) 0 0 ≡ 48 → length (padded n) ≡ 4
    first zero e w size z =
        let bare : get_or (digits 16 true n) 0 0 ≡ 48 = ap (λ count. get_or (replicate count 48 ++ digits 16 true n) 0 0) (sym e) ∙ z in
        absurd (omega (arith, w.no_zero bare))
    first (suc count) e w size z = omega arith

-- the padded digits of a character's number have that number as their value
pub padded_value : (n : ℕ) → n ≤ 0x10ffff → digits_value 16 (padded n) ≡ n
padded_value n l = (is_padded n (omega arith)).value

-- a word of at least four digits, without leading zeros if it is longer, spells its value, or no
-- character if it has none
pub padded_by_value : (word : List ℕ) → 4 ≤ length word → (get_or word 0 0 ≡ 48 → length word ≡ 4) → IsSpelled padded 0x10ffff word (value_up_to UpperHexadecimal 0x10ffff word)
padded_by_value word l f = go (list_all (is_digit UpperHexadecimal) word && nat_le (digits_value 16 word) 0x10ffff) refl
  where
    go : (t : Bool) → (list_all (is_digit UpperHexadecimal) word && nat_le (digits_value 16 word) 0x10ffff) ≡ t → IsSpelled padded 0x10ffff word (cond t (Some (digits_value 16 word)) None)
    go true e =
        let parts = and_parts (list_all (is_digit UpperHexadecimal) word) (nat_le (digits_value 16 word) 0x10ffff) e in
        let small = leb-true (digits_value 16 word) 0x10ffff parts.1 in
        (small, sym (padded_again word parts.0 l f (omega arith)))
    go false e = λ n small is.
        let w = subst (IsPadded n) (sym is) (is_padded n (omega arith)) in
        let both = and_from (list_all (is_digit UpperHexadecimal) word) (nat_le (digits_value 16 word) 0x10ffff) w.digits (le-leb (digits_value 16 word) 0x10ffff (omega (arith, w.value))) in
        false≢true (sym e ∙ both)

-- a word of more than four digits with a leading zero spells no character
pub zero_pads_none : (word : List ℕ) → 4 < length word → get_or word 0 0 ≡ 48 → (n : ℕ) → n ≤ 0x10ffff → word ≡ padded n → ⊥
zero_pads_none word l z n small is = let w = subst (IsPadded n) (sym is) (is_padded n (omega arith)) in omega (arith, w.no_zero z)
