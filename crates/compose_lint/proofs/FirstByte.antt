-- The first byte that passes a test, by its place.
use Rattle.std.proofs.Common.{◌≡◌, ◌∙◌, ℕ, suc, zero, ◌+◌, ◌<◌, Bool, true, false, not, cond, List, [], ◌∷◌, length, refl, sym, ap, inl, inr, arith}
use Rattle.std.specs.Prelude.{Option, Some, None, nat_lt}
use Rattle.std.specs.List.{position, position_or_len}
use Rattle.std.proofs.lemmas.Bool.{cases_Bool, lt-ltb}
use Rattle.memchr.specs.Find.{IsFirstByte, Nowhere, Passes}

later : (p : ℕ → Bool) (x : ℕ) (xs : List ℕ) → p x ≡ false → position_or_len p (x ∷ xs) ≡ 1 + position_or_len p xs
later p x xs e = ap (λ b. cond (not b) (1 + position_or_len p xs) 0) e

none_passes : (p : ℕ → Bool) (xs : List ℕ) → Nowhere (Passes p xs) 0 (length xs) → position_or_len p xs ≡ length xs
none_passes p [] none = refl
none_passes p (x ∷ xs) none = elim (cases_Bool (p x)) [
  | inl e ↦ absurd (none 0 (omega arith) (omega arith) e)
  | inr e ↦ let rest = none_passes p xs (λ k low high passes. none (suc k) (omega arith) (omega (arith, high)) passes) in
      later p x xs e ∙ (let h : 1 + position_or_len p xs ≡ suc (length xs) = omega (arith, rest) in h)
]

passes_first : (p : ℕ → Bool) (xs : List ℕ) (k : ℕ) → k < length xs → Passes p xs k → Nowhere (Passes p xs) 0 k → position_or_len p xs ≡ k
passes_first p [] k within here none = absurd (omega (arith, within))
passes_first p (x ∷ xs) zero within here none = ap (λ b. cond (not b) (1 + position_or_len p xs) 0) here
passes_first p (x ∷ xs) (suc k) within here none = elim (cases_Bool (p x)) [
  | inl e ↦ absurd (none 0 (omega arith) (omega arith) e)
  | inr e ↦ let rest = passes_first p xs k (omega (arith, within)) here (λ j low high passes. none (suc j) (omega arith) (omega (arith, high)) passes) in
      later p x xs e ∙ (let h : 1 + position_or_len p xs ≡ suc k = omega (arith, rest) in h)
]

pub first_byte : (p : ℕ → Bool) (xs : List ℕ) (r : Option ℕ) → IsFirstByte p xs r → r ≡ position p xs
first_byte p xs None none =
    let at_end = none_passes p xs none in let least : nat_lt (length xs) (length xs) ≡ false = grind arith in
    sym (ap (λ n. cond (nat_lt n (length xs)) (Some n) None) at_end ∙ ap (λ b. cond b (Some (length xs)) None) least)
first_byte p xs (Some k) found =
    sym (ap (λ n. cond (nat_lt n (length xs)) (Some n) None) (passes_first p xs k found.0.high found.1 found.0.before) ∙ ap (λ b. cond b (Some k) None) (lt-ltb k (length xs) found.0.high))
