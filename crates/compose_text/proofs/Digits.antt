-- Hexadecimal digits and the number that they write.
use Rattle.std.proofs.Common.{◌≡◌, ◌≤◌, ◌<◌, ◌^◌, ℕ, true, List, [], ◌∷◌, length, take, refl, arith, rules}
use Rattle.std.proofs.Math.Nat.{pow-le-pow_right}
use Rattle.std.proofs.lemmas.List.{length-take-le}
use Rattle.std.proofs.lemmas.Int.Digits.{digits_value-lt}
use Rattle.std.specs.List.{list_all}
use Rattle.std.specs.Str.Parse.{digits_value, AllDigits}
use Rattle.compose_text.specs.Numbers.{is_hexadecimal_digit}

-- the test of all digits, from the fact of each
pub list_all-from_all_digits : (ds : List ℕ) → AllDigits 16 ds → list_all is_hexadecimal_digit ds ≡ true
list_all-from_all_digits [] h = refl
list_all-from_all_digits (d ∷ ds) h = search (rules, list_all-from_all_digits ds h.1, h.0)

-- one digit more than at most seven fits 32 bits
pub fewer_than_eight : (ds : List ℕ) (i : ℕ) → length ds ≤ 8 → i < length ds → AllDigits 16 (take i ds) → digits_value 16 (take i ds) < 2 ^ 28
fewer_than_eight ds i few more all =
    let short : length (take i ds) ≤ 7 = rw (length-take-le i ds (omega arith)) (omega arith) in
    let below : 16 ^ length (take i ds) ≤ 16 ^ 7 = pow-le-pow_right (omega arith) short in
    omega (arith, digits_value-lt 16 (take i ds) all, below)
