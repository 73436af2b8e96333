-- The form that a keysym is printed in is read back as that keysym.
use Rattle.std.proofs.Common.{◌≡◌, ◌≤◌, ◌+◌, ◌-◌, ℕ, Bool, true, false, cond, ◌&&◌, List, ◌∷◌, length, Some, None, refl, sym, ap, ◌∙◌, subst, arith, rules, leb-true, le-leb, not, nat_le}
use Rattle.std.proofs.lemmas.Bool.{true≢false, and_parts}
use Rattle.std.proofs.lemmas.Bool.Decides.{nat_tests}
use Rattle.std.proofs.lemmas.Fmt.{digits_is_IsNumeral}
use Rattle.std.specs.Prelude.{Result, Ok, Err, IfOk, string_bytes}
use Rattle.std.specs.declared.string.String.{String}
use Rattle.std.specs.declared.alloc.Global.{Global}
use Rattle.std.specs.Option.{option_or}
use Rattle.std.specs.Fmt.{digits}
use Rattle.std.specs.Str.Parse.{AllDigits}
use Rattle.keysym_core.specs.Keysym.{max_keysym, is_keysym}
use Rattle.compose_text.specs.Numbers.{is_hexadecimal, hexadecimal}
use Rattle.keysym_core.specs.Names.{form_value, character_form, number_form, keysym_of_character, is_surrogate, is_unicode_keysym}
use Rattle.keysym_core.specs.Printed.{form_of, at_least_four, has_character_form}
use Rattle.compose_text.proofs.Digits.{list_all-from_all_digits}
use Rattle.keysym_core.proofs.Digits.{length-digits-le, digits_value-zeros, all_digits-zeros, length-at_least_four}

-- a character above Latin-1 has the keysym of its number and 0x01000000
pub keysym-unicode : (c : ℕ) → 0x100 ≤ c → c ≤ 0x10ffff → is_surrogate c ≡ false → keysym_of_character c ≡ Some (c + 0x01000000)
keysym-unicode c low high scalar = grind (arith, nat_tests)

-- a negation that is true
pub not-true : (b : Bool) → not b ≡ true → b ≡ false
not-true false e = refl
not-true true e = absurd (true≢false (sym e))

-- a number of digits in this range
digits_test : (low high : ℕ) (ds : List ℕ) → low ≤ length ds → length ds ≤ high → AllDigits 16 ds → is_hexadecimal low high ds ≡ true
digits_test low high ds few many all = search (rules, le-leb low (length ds) few, le-leb (length ds) high many, list_all-from_all_digits ds all)

-- the letter U and digits
character_text-reads : (ds : List ℕ) (c : ℕ) → is_hexadecimal 4 6 ds ≡ true → hexadecimal ds ≡ c → character_form (85 ∷ ds) ≡ keysym_of_character c
character_text-reads ds c test number = ap (λ b. cond b (keysym_of_character (hexadecimal ds)) None) test ∙ ap keysym_of_character number

-- `0x` and digits
number_text-reads : (ds : List ℕ) (k : ℕ) → is_hexadecimal 1 8 ds ≡ true → hexadecimal ds ≡ k → k ≤ max_keysym → number_form (48 ∷ 120 ∷ ds) ≡ Some k
number_text-reads ds k test number fits =
    let small : is_keysym (hexadecimal ds) ≡ true = le-leb (hexadecimal ds) max_keysym (subst (λ n. n ≤ max_keysym) (sym number) fits) in
    ap (λ b. cond (b && is_keysym (hexadecimal ds)) (Some (hexadecimal ds)) None) test ∙ ap (λ b. cond b (Some (hexadecimal ds)) None) small ∙ ap Some number

-- a keysym with a character's number
character_form-reads : (k : ℕ) → has_character_form k ≡ true → form_value (85 ∷ at_least_four (digits 16 true (k - 0x01000000))) ≡ Some k
character_form-reads k h =
    let parts = and_parts (is_unicode_keysym k) (not (is_surrogate (k - 0x01000000))) h in
    let range = and_parts (nat_le 0x01000100 k) (nat_le k 0x0110ffff) parts.0 in
    let low = leb-true 0x01000100 k range.0 in
    let high = leb-true k 0x0110ffff range.1 in
    let c = k - 0x01000000 in
    let ds = digits 16 true c in
    let numeral = digits_is_IsNumeral 16 true (omega arith) (omega arith) c (omega arith) in
    let short = length-at_least_four ds 6 (length-digits-le 5 c true (omega arith) (omega arith)) (omega arith) in
    let test = digits_test 4 6 (at_least_four ds) short.0 short.1 (all_digits-zeros (4 - length ds) ds numeral.0.1) in
    let number : hexadecimal (at_least_four ds) ≡ c = digits_value-zeros (4 - length ds) ds ∙ numeral.1 in
    let keysym = keysym-unicode c (omega arith) (omega arith) (not-true (is_surrogate c) parts.1) in
    let same : c + 0x01000000 ≡ k = omega arith in
    ap (λ o. option_or o (number_form (85 ∷ at_least_four ds))) (character_text-reads (at_least_four ds) c test number ∙ keysym ∙ ap Some same)

-- a keysym's own number
number_form-reads : (k : ℕ) → k ≤ max_keysym → form_value (48 ∷ 120 ∷ digits 16 false k) ≡ Some k
number_form-reads k fits =
    let numeral = digits_is_IsNumeral 16 false (omega arith) (omega arith) k (omega arith) in
    let test = digits_test 1 8 (digits 16 false k) (omega (arith, numeral.0.0)) (length-digits-le 7 k false (omega arith) (omega arith)) numeral.0.1 in
    number_text-reads (digits 16 false k) k test numeral.1 fits

-- the form of a keysym writes that keysym
pub form_of-reads : (k : ℕ) → k ≤ max_keysym → form_value (form_of k) ≡ Some k
form_of-reads k fits = by (has_character_form k) refl
  where
    by : (b : Bool) → has_character_form k ≡ b → form_value (cond b (85 ∷ at_least_four (digits 16 true (k - 0x01000000))) (48 ∷ 120 ∷ digits 16 false k)) ≡ Some k
    by true e = character_form-reads k e
    by false e = number_form-reads k fits

-- so a text with the bytes of the form is read back
pub written-reads : {E : Type 0} (written : Result (String Global) E) (k : ℕ) → k ≤ max_keysym → IfOk written (λ text. string_bytes text ≡ form_of k)
    → IfOk written (λ text. form_value (string_bytes text) ≡ Some k)
written-reads (Ok text) k fits same = ap form_value same ∙ form_of-reads k fits
written-reads (Err e) k fits same = tt
