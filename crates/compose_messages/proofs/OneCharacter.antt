-- Texts of one character.
use Rattle.std.proofs.Common.{◌≡◌, ◌≤◌, ℕ, List, [], ◌∷◌, ◌++◌, refl, ap, length, arith}
use Rattle.std.specs.Prelude.{encode_utf8}
use Rattle.std.specs.Char.{len_utf8}
use Rattle.std.proofs.lemmas.Str.{length-encode, len_utf8_bounds}

-- a character has a byte
pub never_silent : (c : ℕ) → [] ≡ encode_utf8 c → ⊥
never_silent c e =
    let n : 0 ≡ length (encode_utf8 c) = ap length e in
    let m : length (encode_utf8 c) ≡ len_utf8 c = length-encode c in
    let b : 1 ≤ len_utf8 c = (len_utf8_bounds c).0 in
    absurd (omega arith)

-- what begins with a text that is not empty is not empty
pub never_prefix : (xs ys : List ℕ) → ([] ≡ xs → ⊥) → [] ≡ xs ++ ys → ⊥
never_prefix [] ys n e = n refl
never_prefix (x ∷ xs) ys n e = cc
