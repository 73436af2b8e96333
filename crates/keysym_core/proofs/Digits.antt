-- Hexadecimal digits and the number that they write.
use Rattle.std.proofs.Common.{◌≡◌, ◌≤◌, ◌<◌, ◌^◌, ◌+◌, ◌-◌, ◌*◌, ◌/◌, ◌%◌, ℕ, zero, suc, Bool, true, false, cond, List, [], ◌∷◌, ◌++◌, length, replicate, nat_eq, refl, ap, ◌∙◌, arith, length-append, append-nil}
use Rattle.std.proofs.Math.Nat.{pow-suc}
use native.Mathlib.Numerals.{unary_clauses}
use Rattle.std.proofs.lemmas.Bool.{eqb-false}
use Rattle.std.proofs.lemmas.List.{length-replicate}
use Rattle.std.specs.Str.Parse.{digits_value, AllDigits}
use Rattle.std.specs.Fmt.{digits, digits_onto, digit_glyph, padded_integral, char_count, format_spec}
use Rattle.keysym_core.specs.Printed.{at_least_four}

-- one branch or the other is no longer than both
shorter : (b : Bool) (xs ys : List ℕ) (n : ℕ) → (b ≡ true → length xs ≤ n) → (b ≡ false → length ys ≤ n) → length (cond b xs ys) ≤ n
shorter true xs ys n h g = h refl
shorter false xs ys n h g = g refl

-- without its last digit, a number is below the next lower power
quotient-lt : (n k : ℕ) → n < 16 ^ (suc k + 1) → n / 16 < 16 ^ (k + 1)
quotient-lt n k small =
    let e : 16 ^ (suc k + 1) ≡ 16 ^ (k + 1) * 16 = ap (λ m. 16 ^ m) (omega arith) ∙ pow-suc 16 (k + 1) in
    omega (arith, small, e)

-- a number below 16 ^ (k + 1) has at most k + 1 digits
short_digits : (k room : ℕ) (upper : Bool) (n : ℕ) (acc : List ℕ) → n < 16 ^ (k + 1) → k < room → length (digits_onto room 16 upper n acc) ≤ k + 1 + length acc
short_digits k zero upper n acc small more = omega arith
short_digits zero (suc room) upper n acc small more =
    shorter (nat_eq (n / 16) 0) (digit_glyph upper (n % 16) ∷ acc) _ _ (λ _. omega arith) (λ e. absurd (eqb-false (n / 16) 0 e (omega arith)))
short_digits (suc k) (suc room) upper n acc small more =
    shorter (nat_eq (n / 16) 0) (digit_glyph upper (n % 16) ∷ acc) _ _ (λ _. omega arith)
    (λ _. let fewer = short_digits k room upper (n / 16) (digit_glyph upper (n % 16) ∷ acc) (quotient-lt n k small) (omega arith) in omega (arith, fewer))

-- a number below 16 to the power of k + 1 has at most k + 1 hexadecimal digits
pub length-digits-le : (k n : ℕ) (upper : Bool) → n < 16 ^ (k + 1) → k < 64 → length (digits 16 upper n) ≤ k + 1
unfolding digits
length-digits-le k n upper small more = omega (arith, short_digits k 64 upper n [] small more)

-- leading zeros do not change the number
pub digits_value-zeros : (count : ℕ) (ds : List ℕ) → digits_value 16 (replicate count 48 ++ ds) ≡ digits_value 16 ds
digits_value-zeros zero ds = refl
digits_value-zeros (suc count) ds = digits_value-zeros count ds

-- and they are digits
pub all_digits-zeros : (count : ℕ) (ds : List ℕ) → AllDigits 16 ds → AllDigits 16 (replicate count 48 ++ ds)
all_digits-zeros zero ds h = h
all_digits-zeros (suc count) ds h = (omega arith, all_digits-zeros count ds h)

-- at most n digits padded to four are from four to n, if n is at least four
pub length-at_least_four : (ds : List ℕ) (n : ℕ) → length ds ≤ n → 4 ≤ n → (4 ≤ length (at_least_four ds)) × (length (at_least_four ds) ≤ n)
length-at_least_four ds n few room =
    let all : length (at_least_four ds) ≡ 4 - length ds + length ds = length-append (replicate (4 - length ds) 48) ds ∙ ap (λ m. m + length ds) (length-replicate (4 - length ds) 48) in
    (omega (arith, all), omega (arith, all))

-- the output of `{:04X}`
pub padded-at_least_four : (ds : List ℕ) → padded_integral (format_spec 32 0 4 4 (2 ^ 64 - 1)) false [] ds ≡ at_least_four ds
unfolding padded_integral char_count
padded-at_least_four ds = rw (append-nil ds) (simp unary_clauses refl)
