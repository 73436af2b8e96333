-- A word spells a number exactly if it consists of digits without leading zeros.
use Rattle.std.proofs.Common.{◌≡◌, ◌⊎◌, inl, inr, ℕ, zero, suc, ◌+◌, ◌*◌, ◌/◌, ◌%◌, ◌<◌, ◌≤◌, ◌^◌, List, [], ◌∷◌, ◌++◌, length, get_or, drop, Bool, true, false, cond, not, ◌&&◌, ◌||◌, refl, sym, subst, ◌∙◌, ap, arith, append_assoc, length-append}
use Rattle.std.specs.Prelude.{◌==◌, if◌then◌else◌, nat_lt, nat_le, Some, None, Option}
use Rattle.std.specs.List.{list_all}
use Rattle.std.specs.Char.{digit_value}
use Rattle.std.specs.Fmt.{digits, digits_onto, digit_glyph}
use Rattle.std.specs.Str.Parse.{digits_value, digits_value_after, AllDigits}
use Rattle.std.proofs.Math.Nat.{pow-suc}
use Rattle.std.proofs.lemmas.List.{get_or_append_left, at_drop_more}
use Rattle.std.proofs.lemmas.Option.{cond_some}
use Rattle.std.proofs.lemmas.Bool.{and_parts, and_from, eqb-true, eqb-false, leb-true, lt-leb, le-leb, ne_eqb, agree_below_at, or_cases, ltb-true, cases_eq, false≢true, and_right}
use Rattle.std.proofs.lemmas.Fmt.{digits_is_IsNumeral, decimal-digits_value, first_decimal, decimal_digit, hex_one_digit}
use Rattle.std.proofs.lemmas.Str.{digit_value_digit}
use Rattle.std.proofs.lemmas.Str.Parse.{numerals_by_value, tells_digits, digit_from_value}
use Rattle.compose_text.specs.Numbers.{is_between}
use Rattle.compose_cert.specs.declared.numeral.Notation.{Notation}
use Rattle.compose_cert.specs.declared.numeral.Notation.TheVariants.{Decimal, LowerHexadecimal, UpperHexadecimal, EitherHexadecimal}
use Rattle.compose_cert.specs.Numerals.{radix, numeral, is_digit, is_one_case, IsSpelled}

-- ---- hexadecimal digits

abbrev hexadecimal : Bool → Notation
hexadecimal false = LowerHexadecimal
hexadecimal true = UpperHexadecimal

abbrev is_hex : Bool → ℕ → Bool
is_hex upper c = is_digit (hexadecimal upper) c

-- a digit is the text of its value
abbrev writes_itself : Bool → ℕ → Bool
writes_itself upper c = not (is_hex upper c) || (nat_lt (digit_value c) 16 && (digit_glyph upper (digit_value c) == c))

abbrev writes_digit : Bool → ℕ → Bool
writes_digit upper n = is_hex upper (digit_glyph upper n) && (nat_lt 48 (digit_glyph upper n) || n == 0)

up_to : (low high c : ℕ) → is_between low high c ≡ true → c ≤ high
up_to low high c h = leb-true c high (and_parts (nat_le low c) (nat_le c high) h).1

from : (low high c : ℕ) → is_between low high c ≡ true → low ≤ c
from low high c h = leb-true low c (and_parts (nat_le low c) (nat_le c high) h).0

below_128 : (upper : Bool) (c : ℕ) → is_hex upper c ≡ true → c < 128
below_128 false c h = go (or_cases (is_between 48 57 c) (is_between 97 102 c) h)
  where
    go : (is_between 48 57 c ≡ true) ⊎ (is_between 97 102 c ≡ true) → c < 128
    go (inl a) = omega (arith, up_to 48 57 c a)
    go (inr a) = omega (arith, up_to 97 102 c a)
below_128 true c h = go (or_cases (is_between 48 57 c) (is_between 65 70 c) h)
  where
    go : (is_between 48 57 c ≡ true) ⊎ (is_between 65 70 c ≡ true) → c < 128
    go (inl a) = omega (arith, up_to 48 57 c a)
    go (inr a) = omega (arith, up_to 65 70 c a)

all_write_themselves : (upper : Bool) (c : ℕ) → c < 128 → writes_itself upper c ≡ true
all_write_themselves false c l = agree_below_at (writes_itself false) (λ _. true) 128 c refl l
all_write_themselves true c l = agree_below_at (writes_itself true) (λ _. true) 128 c refl l

hex_writes_itself : (upper : Bool) (c : ℕ) → is_hex upper c ≡ true → (digit_value c < 16) × (digit_glyph upper (digit_value c) ≡ c)
hex_writes_itself upper c h =
    let e : (not (is_hex upper c) || (nat_lt (digit_value c) 16 && (digit_glyph upper (digit_value c) == c))) ≡ true = all_write_themselves upper c (below_128 upper c h) in
    let parts = and_parts (nat_lt (digit_value c) 16) (digit_glyph upper (digit_value c) == c) (rw h at e) in
    (ltb-true (digit_value c) 16 parts.0, eqb-true (digit_glyph upper (digit_value c)) c parts.1)

all_write_digits : (upper : Bool) (n : ℕ) → n < 16 → writes_digit upper n ≡ true
all_write_digits false n l = agree_below_at (writes_digit false) (λ _. true) 16 n refl l
all_write_digits true n l = agree_below_at (writes_digit true) (λ _. true) 16 n refl l

hex_writes_digit : (upper : Bool) (n : ℕ) → n < 16 → (is_hex upper (digit_glyph upper n) ≡ true) × (0 < n → 48 < digit_glyph upper n)
hex_writes_digit upper n l =
    let parts = and_parts (is_hex upper (digit_glyph upper n)) (nat_lt 48 (digit_glyph upper n) || n == 0) (all_write_digits upper n l) in
    (parts.0, λ s. above (or_cases (nat_lt 48 (digit_glyph upper n)) (n == 0) parts.1) s)
  where
    above : (nat_lt 48 (digit_glyph upper n) ≡ true) ⊎ ((n == 0) ≡ true) → 0 < n → 48 < digit_glyph upper n
    above (inl a) s = ltb-true 48 (digit_glyph upper n) a
    above (inr z) s = absurd (omega (arith, eqb-true n 0 z))

-- ---- the text of a number

onto_digits : (upper : Bool) (k n : ℕ) (acc : List ℕ) → list_all (is_hex upper) acc ≡ true → list_all (is_hex upper) (digits_onto k 16 upper n acc) ≡ true
onto_digits upper zero n acc h = h
onto_digits upper (suc k) n acc h = go (n / 16 == 0) (onto_digits upper k (n / 16) (digit_glyph upper (n % 16) ∷ acc) more)
  where
    more : list_all (is_hex upper) (digit_glyph upper (n % 16) ∷ acc) ≡ true
    more = and_from (is_hex upper (digit_glyph upper (n % 16))) (list_all (is_hex upper) acc) (hex_writes_digit upper (n % 16) (omega arith)).0 h

    rest : List ℕ
    rest = digits_onto k 16 upper (n / 16) (digit_glyph upper (n % 16) ∷ acc)

    go : (t : Bool) → list_all (is_hex upper) rest ≡ true → list_all (is_hex upper) (cond t (digit_glyph upper (n % 16) ∷ acc) rest) ≡ true
    go true g = more
    go false g = g

-- a number that isn't 0 is above 0
pub positive : (n : ℕ) → (n == 0) ≡ false → 0 < n
positive n e = omega (arith, eqb-false n 0 e)

onto_first : (upper : Bool) (k n : ℕ) (acc : List ℕ) → n < 16 ^ k → 0 < n → 48 < get_or (digits_onto k 16 upper n acc) 0 0
onto_first upper zero n acc h s = absurd (omega arith)
onto_first upper (suc k) n acc h s = go (n / 16 == 0) refl (λ l. onto_first upper k (n / 16) (digit_glyph upper (n % 16) ∷ acc) (omega arith) l)
  where
    below : n < 16 ^ k * 16
    below = omega (arith, pow-suc 16 k)

    rest : List ℕ
    rest = digits_onto k 16 upper (n / 16) (digit_glyph upper (n % 16) ∷ acc)

    go : (t : Bool) → (n / 16 == 0) ≡ t → (0 < n / 16 → 48 < get_or rest 0 0) → 48 < get_or (cond t (digit_glyph upper (n % 16) ∷ acc) rest) 0 0
    go true e g = let z = eqb-true (n / 16) 0 e in (hex_writes_digit upper (n % 16) (omega arith)).1 (omega arith)
    go false e g = g (positive (n / 16) e)

-- ---- the text of the value of digits

last_digit : (c : ℕ) (cs : List ℕ) → (prefix : List ℕ) × (d : ℕ) × (c ∷ cs ≡ prefix ++ d ∷ [])
last_digit c [] = ([], c, refl)
last_digit c (d ∷ cs) = let r = last_digit d cs in (c ∷ r.0, r.1, ap (λ ds. c ∷ ds) r.2)

value_push : (base n : ℕ) (prefix : List ℕ) (d : ℕ) → digits_value_after base n (prefix ++ d ∷ []) ≡ digits_value_after base n prefix * base + digit_value d
value_push base n [] d = refl
value_push base n (c ∷ prefix) d = value_push base (n * base + digit_value c) prefix d

all_push : (p : ℕ → Bool) (prefix : List ℕ) (d : ℕ) → list_all p (prefix ++ d ∷ []) ≡ true → (list_all p prefix ≡ true) × (p d ≡ true)
all_push p [] d h = (refl, (and_parts (p d) true h).0)
all_push p (c ∷ prefix) d h = let parts = and_parts (p c) (list_all p (prefix ++ d ∷ [])) h in let rest = all_push p prefix d parts.1 in (and_from (p c) (list_all p prefix) parts.0 rest.0, rest.1)

-- a value is at least the value from which it starts
pub value_grows : (k : Notation) (n : ℕ) (ds : List ℕ) → n ≤ digits_value_after (radix k) n ds
value_grows k n [] = omega arith
value_grows Decimal n (c ∷ ds) = omega (arith, value_grows Decimal (n * 10 + digit_value c) ds)
value_grows LowerHexadecimal n (c ∷ ds) = omega (arith, value_grows LowerHexadecimal (n * 16 + digit_value c) ds)
value_grows EitherHexadecimal n (c ∷ ds) = omega (arith, value_grows EitherHexadecimal (n * 16 + digit_value c) ds)
value_grows UpperHexadecimal n (c ∷ ds) = omega (arith, value_grows UpperHexadecimal (n * 16 + digit_value c) ds)

-- ---- digits without leading zeros, written again

onto_step : (upper : Bool) (k n v d : ℕ) (acc : List ℕ) → n / 16 ≡ v → digit_glyph upper (n % 16) ≡ d
    → digits_onto (suc k) 16 upper n acc ≡ cond (v == 0) (d ∷ acc) (digits_onto k 16 upper v (d ∷ acc))
onto_step upper k n v d acc q r = rw (q, r) refl

-- a number that isn't m and isn't below m is above m
above_from : (m n : ℕ) → m ≤ n → (n ≡ m → ⊥) → m < n
above_from m n l h = go (cases_eq n m)
  where
    go : (n ≡ m) ⊎ (n ≡ m → ⊥) → m < n
    go (inl e) = absurd (h e)
    go (inr e) = omega arith

value_positive : (upper : Bool) (c : ℕ) (cs : List ℕ) → is_hex upper c ≡ true → 48 < c → 0 < digits_value 16 (c ∷ cs)
value_positive upper c cs h l =
    let w = hex_writes_itself upper c h in
    let some : 0 < digit_value c = above_from 0 (digit_value c) (omega arith) (λ z. omega (arith, sym w.1 ∙ ap (digit_glyph upper) z ∙ glyph_zero upper)) in
    omega (arith, value_grows LowerHexadecimal (0 * 16 + digit_value c) cs)
  where
    glyph_zero : (upper : Bool) → digit_glyph upper 0 ≡ 48
    glyph_zero false = refl
    glyph_zero true = refl

written_onto : (upper : Bool) (k : ℕ) (prefix : List ℕ) (d : ℕ) (acc : List ℕ) → list_all (is_hex upper) prefix ≡ true → is_hex upper d ≡ true → (0 < length prefix → 48 < get_or prefix 0 0)
    → digits_value 16 (prefix ++ d ∷ []) < 16 ^ suc k → digits_onto (suc k) 16 upper (digits_value 16 (prefix ++ d ∷ [])) acc ≡ prefix ++ d ∷ acc
written_onto upper k [] d acc a h f l =
    let w = hex_writes_itself upper d h in
    let e : digits_value 16 ([] ++ d ∷ []) ≡ digit_value d = omega arith in
    let r : digits_value 16 ([] ++ d ∷ []) % 16 ≡ digit_value d = omega arith in
    onto_step upper k (digits_value 16 ([] ++ d ∷ [])) 0 d acc (omega arith) (ap (digit_glyph upper) r ∙ w.1)
written_onto upper zero (c ∷ cs) d acc a h f l =
    let parts = and_parts (is_hex upper c) (list_all (is_hex upper) cs) a in
    let v = value_positive upper c cs parts.0 (f (omega arith)) in
    absurd (omega (arith, value_push 16 0 (c ∷ cs) d))
written_onto upper (suc k) (c ∷ cs) d acc a h f l =
    let parts = and_parts (is_hex upper c) (list_all (is_hex upper) cs) a in
    let v = value_positive upper c cs parts.0 (f (omega arith)) in
    let w = hex_writes_itself upper d h in
    let e : digits_value 16 ((c ∷ cs) ++ d ∷ []) ≡ digits_value 16 (c ∷ cs) * 16 + digit_value d = value_push 16 0 (c ∷ cs) d in
    let r : digits_value 16 ((c ∷ cs) ++ d ∷ []) % 16 ≡ digit_value d = omega arith in
    let last = last_digit c cs in
    let all = all_push (is_hex upper) last.0 last.1 (ap (list_all (is_hex upper)) (sym last.2) ∙ a) in
    let is : digits_value 16 (c ∷ cs) ≡ digits_value 16 (last.0 ++ last.1 ∷ []) = ap (digits_value 16) last.2 in
    let small : digits_value 16 (last.0 ++ last.1 ∷ []) < 16 ^ suc k = omega (arith, pow-suc 16 (suc k)) in
    let first : 0 < length last.0 → 48 < get_or last.0 0 0 = λ s. omega (arith, f (omega arith), get_or_append_left last.0 (last.1 ∷ []) 0 0 s, ap (λ ds. get_or ds 0 0) last.2) in
    onto_step upper (suc k) (digits_value 16 ((c ∷ cs) ++ d ∷ [])) (digits_value 16 (c ∷ cs)) d acc (omega arith) (ap (digit_glyph upper) r ∙ w.1)
    ∙ ap (λ t. cond t (d ∷ acc) (digits_onto (suc k) 16 upper (digits_value 16 (c ∷ cs)) (d ∷ acc))) (ne_eqb (digits_value 16 (c ∷ cs)) 0 (λ z. omega arith))
    ∙ ap (λ n. digits_onto (suc k) 16 upper n (d ∷ acc)) is
    ∙ written_onto upper k last.0 last.1 (d ∷ acc) all.0 all.1 first small
    ∙ sym (append_assoc last.0 (last.1 ∷ []) (d ∷ acc)) ∙ ap (λ ds. ds ++ d ∷ acc) (sym last.2)

above_47 : (upper : Bool) (c : ℕ) → is_hex upper c ≡ true → 48 ≤ c
above_47 false c h = go (or_cases (is_between 48 57 c) (is_between 97 102 c) h)
  where
    go : (is_between 48 57 c ≡ true) ⊎ (is_between 97 102 c ≡ true) → 48 ≤ c
    go (inl a) = from 48 57 c a
    go (inr a) = omega (arith, from 97 102 c a)
above_47 true c h = go (or_cases (is_between 48 57 c) (is_between 65 70 c) h)
  where
    go : (is_between 48 57 c ≡ true) ⊎ (is_between 65 70 c ≡ true) → 48 ≤ c
    go (inl a) = from 48 57 c a
    go (inr a) = omega (arith, from 65 70 c a)

hex_again : (upper : Bool) (ds : List ℕ) → list_all (is_hex upper) ds ≡ true → 0 < length ds → (get_or ds 0 0 ≡ 48 → length ds ≡ 1) → digits_value 16 ds < 2 ^ 32
    → digits 16 upper (digits_value 16 ds) ≡ ds
unfolding digits
hex_again upper [] a s f l = absurd (omega arith)
hex_again upper (c ∷ cs) a s f l =
    let parts = and_parts (is_hex upper c) (list_all (is_hex upper) cs) a in
    let low = above_47 upper c parts.0 in
    let last = last_digit c cs in
    let all = all_push (is_hex upper) last.0 last.1 (ap (list_all (is_hex upper)) (sym last.2) ∙ a) in
    let is : digits_value 16 (c ∷ cs) ≡ digits_value 16 (last.0 ++ last.1 ∷ []) = ap (digits_value 16) last.2 in
    let size = ap length last.2 ∙ length-append last.0 (last.1 ∷ []) in
    let first : 0 < length last.0
    → 48 < get_or last.0 0 0 = λ s. omega (arith, above_from 48 c low (λ z. omega (arith, f z)), get_or_append_left last.0 (last.1 ∷ []) 0 0 s, ap (λ ds. get_or ds 0 0) last.2) in
    ap (digits 16 upper) is ∙ written_onto upper 63 last.0 last.1 [] all.0 all.1 first (omega arith) ∙ sym last.2

hex_parts : (upper : Bool) (n : ℕ) → n < 2 ^ 32 → (list_all (is_hex upper) (digits 16 upper n) ≡ true) × (0 < n → 48 < get_or (digits 16 upper n) 0 0)
unfolding digits
hex_parts upper n l = (onto_digits upper 64 n [] refl, λ s. onto_first upper 64 n [] (omega arith) s)

-- ---- each notation

-- the text of a number: digits of this value, without leading zeros
pub record IsWritten (k : Notation) (n : ℕ) (ds : List ℕ) : Type 0 where
  pub digits : list_all (is_digit k) ds ≡ true
  pub some : 0 < length ds
  pub no_zero : get_or ds 0 0 ≡ 48 → length ds ≡ 1
  pub value : digits_value (radix k) ds ≡ n

hex_written : (upper : Bool) (n : ℕ) → n < 2 ^ 32
    → (0 < length (digits 16 upper n)) × (get_or (digits 16 upper n) 0 0 ≡ 48 → length (digits 16 upper n) ≡ 1) × (digits_value 16 (digits 16 upper n) ≡ n)
hex_written upper n l =
    let is = digits_is_IsNumeral 16 upper (omega arith) (omega arith) n (omega arith) in
    (is.0.0, λ z. alone (cases_eq n 0) z, is.1)
  where
    alone : (n ≡ 0) ⊎ (n ≡ 0 → ⊥) → get_or (digits 16 upper n) 0 0 ≡ 48 → length (digits 16 upper n) ≡ 1
    alone (inl e) z = ap length (hex_one_digit upper n (omega arith))
    alone (inr h) z = absurd (omega (arith, (hex_parts upper n l).1 (above_from 0 n (omega arith) h)))

decimal_digits : (ds : List ℕ) → AllDigits 10 ds → list_all (is_digit Decimal) ds ≡ true
decimal_digits [] a = refl
decimal_digits (c ∷ ds) a =
    let r = digit_from_value c a.0 in
    and_from (is_between 48 57 c) (list_all (is_digit Decimal) ds) (and_from (nat_le 48 c) (nat_le c 57) (le-leb 48 c r.0) (le-leb c 57 r.1)) (decimal_digits ds a.1)

digits_decimal_again : (ds : List ℕ) → list_all (is_digit Decimal) ds ≡ true → AllDigits 10 ds
digits_decimal_again [] h = tt
digits_decimal_again (c ∷ ds) h =
    let parts = and_parts (is_between 48 57 c) (list_all (is_digit Decimal) ds) h in
    (omega (arith, digit_value_digit c (from 48 57 c parts.0, up_to 48 57 c parts.0), up_to 48 57 c parts.0), digits_decimal_again ds parts.1)

-- the numeral of a number has digits of its notation, no leading zeros, and the number as its value
pub is_written : (k : Notation) (n : ℕ) → is_one_case k ≡ true → n < 2 ^ 32 → IsWritten k n (numeral k n)
is_written EitherHexadecimal n o l = absurd (false≢true o)
is_written Decimal n o l =
    let is = digits_is_IsNumeral 10 false (omega arith) (omega arith) n (omega arith) in
    record { digits = decimal_digits (digits 10 false n) is.0.1; some = is.0.0; no_zero = λ z. alone (cases_eq n 0) z; value = is.1 }
  where
    alone : (n ≡ 0) ⊎ (n ≡ 0 → ⊥) → get_or (digits 10 false n) 0 0 ≡ 48 → length (digits 10 false n) ≡ 1
    alone (inl e) z = ap length (decimal_digit n (omega arith))
    alone (inr h) z = absurd (omega (arith, first_decimal n (above_from 0 n (omega arith) h) (omega arith)))
is_written LowerHexadecimal n o l = let w = hex_written false n l in record { digits = (hex_parts false n l).0; some = w.0; no_zero = w.1; value = w.2 }
is_written UpperHexadecimal n o l = let w = hex_written true n l in record { digits = (hex_parts true n l).0; some = w.0; no_zero = w.1; value = w.2 }

-- digits without leading zeros are the numeral of their value
pub written_again : (k : Notation) (ds : List ℕ) → is_one_case k ≡ true → list_all (is_digit k) ds ≡ true → 0 < length ds → (get_or ds 0 0 ≡ 48 → length ds ≡ 1) → digits_value (radix k) ds < 2 ^ 32
    → numeral k (digits_value (radix k) ds) ≡ ds
written_again EitherHexadecimal ds o a s f l = absurd (false≢true o)
written_again Decimal ds o a s f l = decimal-digits_value (numerals_by_value (AllDigits 10) tells_digits) ds (digits_decimal_again ds a) s f (omega arith)
written_again LowerHexadecimal ds o a s f l = hex_again false ds a s f l
written_again UpperHexadecimal ds o a s f l = hex_again true ds a s f l

-- ---- what a word spells

-- the value of digits, if they are digits of the notation and the value is at most the given one
abbrev pub value_up_to : Notation → ℕ → List ℕ → Option ℕ
value_up_to k most word = if list_all (is_digit k) word && nat_le (digits_value (radix k) word) most then Some (digits_value (radix k) word) else None

-- a digit taken from the beginning of the rest
pub digit_taken : (k : Notation) (value digit i : ℕ) (word : List ℕ) → i < length word → Some digit ≡ (if is_digit k (get_or word i 0) then Some (digit_value (get_or word i 0)) else None)
    → list_all (is_digit k) (drop i word) ≡ list_all (is_digit k) word → digits_value_after (radix k) value (drop i word) ≡ digits_value (radix k) word
    → (list_all (is_digit k) (drop (i + 1) word) ≡ list_all (is_digit k) word) × (digits_value_after (radix k) (value * radix k + digit) (drop (i + 1) word) ≡ digits_value (radix k) word)
digit_taken k value digit i word l h a v =
    let is = cond_some (is_digit k (get_or word i 0)) (digit_value (get_or word i 0)) digit (sym h) in
    let one : list_all (is_digit k) (get_or word i 0 ∷ drop (i + 1) word) ≡ list_all (is_digit k) (drop (i + 1) word) = rw is.0 in (
      sym one ∙ sym (at_drop_more (list_all (is_digit k)) word i 0 l) ∙ a,
      ap (λ d. digits_value_after (radix k) (value * radix k + d) (drop (i + 1) word)) (sym is.1) ∙ sym (at_drop_more (digits_value_after (radix k) value) word i 0 l) ∙ v,
    )

-- a value that is too large stays too large
pub too_great : (k : Notation) (most more i : ℕ) (word : List ℕ) → most < more → digits_value_after (radix k) more (drop i word) ≡ digits_value (radix k) word → None ≡ value_up_to k most word
too_great k most more i word l v =
    let e : nat_le (digits_value (radix k) word) most ≡ false = lt-leb (digits_value (radix k) word) most (omega (arith, value_grows k more (drop i word))) in
    let both : (list_all (is_digit k) word && nat_le (digits_value (radix k) word) most) ≡ false = and_right (list_all (is_digit k) word) (nat_le (digits_value (radix k) word) most) e in
    rw both refl

-- a word without leading zeros spells its value, or no number if it has none
pub spelled_by_value : (k : Notation) (most : ℕ) (word : List ℕ) → is_one_case k ≡ true → most < 2 ^ 32 → 0 < length word → (get_or word 0 0 ≡ 48 → length word ≡ 1)
    → IsSpelled (numeral k) most word (value_up_to k most word)
spelled_by_value k most word o m s f = go (list_all (is_digit k) word && nat_le (digits_value (radix k) word) most) refl
  where
    go : (t : Bool) → (list_all (is_digit k) word && nat_le (digits_value (radix k) word) most) ≡ t → IsSpelled (numeral k) most word (cond t (Some (digits_value (radix k) word)) None)
    go true e =
        let parts = and_parts (list_all (is_digit k) word) (nat_le (digits_value (radix k) word) most) e in
        let l = leb-true (digits_value (radix k) word) most parts.1 in
        (l, sym (written_again k word o parts.0 s f (omega arith)))
    go false e = λ n l is.
        let w = subst (IsWritten k n) (sym is) (is_written k n o (omega arith)) in
        let both = and_from (list_all (is_digit k) word) (nat_le (digits_value (radix k) word) most) w.digits (le-leb (digits_value (radix k) word) most (omega (arith, w.value))) in
        false≢true (sym e ∙ both)

-- an empty word spells no number
pub empty_spells_none : (k : Notation) (most : ℕ) (word : List ℕ) → is_one_case k ≡ true → most < 2 ^ 32 → length word ≡ 0 → (n : ℕ) → n ≤ most → word ≡ numeral k n → ⊥
empty_spells_none k most word o m e n l is = let w = subst (IsWritten k n) (sym is) (is_written k n o (omega arith)) in omega (arith, w.some)

-- a word with a zero before other digits spells no number
pub zero_spells_none : (k : Notation) (most : ℕ) (word : List ℕ) → is_one_case k ≡ true → most < 2 ^ 32 → 1 < length word → get_or word 0 0 ≡ 48 → (n : ℕ) → n ≤ most → word ≡ numeral k n → ⊥
zero_spells_none k most word o m s z n l is = let w = subst (IsWritten k n) (sym is) (is_written k n o (omega arith)) in omega (arith, w.no_zero z)
