-- The first byte of a slice, as `first` returns it.
use Rattle.std.proofs.Common.{◌≡◌, ℕ, ◌<◌, List, [], ◌∷◌, length, get_or, ap, ◌∙◌, arith}
use Rattle.std.specs.Prelude.{Some, slice_get}
use Rattle.std.specs.Str.{IsUtf8, IsCharBoundary}
use Rattle.std.proofs.lemmas.Str.{IsCharBoundary-after_ascii}

-- a list that has a first byte is not empty, and that byte has the index 0
pub first_is : (xs : List ℕ) (b : ℕ) → Some b ≡ slice_get xs 0 → (0 < length xs) × (get_or xs 0 0 ≡ b)
first_is [] b e = cc
first_is (x ∷ xs) b e = (omega arith, cc)

-- a text may be cut after a first byte that is ASCII
pub cut_first : (text items : List ℕ) (b : ℕ) → IsUtf8 text → items ≡ text → Some b ≡ slice_get items 0 → b < 128 → IsCharBoundary text 1
cut_first text items b u same e l =
    let first = first_is text b (e ∙ ap (λ xs. slice_get xs 0) same) in
    IsCharBoundary-after_ascii text 0 u first.0 (omega (arith, first.1))
