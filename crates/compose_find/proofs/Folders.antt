-- The folder of a path, by the index of its last slash.
use Rattle.std.proofs.Common.{◌≡◌, ℕ, zero, suc, ◌+◌, ◌<◌, ◌≤◌, List, [], ◌∷◌, length, take, get_or, Bool, true, false, refl, ◌∙◌, ap, arith}
use Rattle.std.specs.Prelude.{◌==◌, ◌||◌}
use Rattle.std.specs.List.{list_any}
use Rattle.std.proofs.lemmas.List.Folds.{list_any_at}
use Rattle.compose_find.specs.Expand.{folder_of}

abbrev slash : ℕ → Bool
slash b = b == 47

no_slash : (path : List ℕ) → ((i : ℕ) → i < length path → slash (get_or path i 0) ≡ true → ⊥) → list_any slash path ≡ false
no_slash [] h = refl
no_slash (b ∷ rest) h = go (slash b) refl (no_slash rest (λ i less. h (suc i) (omega arith)))
  where
    go : (t : Bool) → slash b ≡ t → list_any slash rest ≡ false → t || list_any slash rest ≡ false
    go true e more = absurd (h 0 (omega arith) e)
    go false e more = more

-- the folder of a path without a slash is empty
pub folder_none : (path : List ℕ) → ((i : ℕ) → i < length path → slash (get_or path i 0) ≡ true → ⊥) → folder_of path ≡ []
folder_none [] h = refl
folder_none (b ∷ rest) h = rw (no_slash (b ∷ rest) h) refl

-- the folder of a path is the path up to its last slash
pub folder_some : (path : List ℕ) (at : ℕ) → at < length path → slash (get_or path at 0) ≡ true → ((i : ℕ) → at + 1 ≤ i → i < length path → slash (get_or path i 0) ≡ true → ⊥)
    → folder_of path ≡ take (at + 1) path
folder_some [] at less is h = absurd (omega arith)
folder_some (b ∷ rest) zero less is h = rw (list_any_at slash (b ∷ rest) 0 0 less is) (ap (λ t. b ∷ t) (folder_none rest (λ i within. h (suc i) (omega arith) (omega arith))))
folder_some (b ∷ rest) (suc at) less is h =
    let next : suc (at + 1) ≡ suc at + 1 = omega arith in
    rw (list_any_at slash (b ∷ rest) (suc at) 0 less is)
    (ap (λ t. b ∷ t) (folder_some rest at (omega arith) is (λ i low within. h (suc i) (omega arith) (omega arith))) ∙ ap (λ n. take n (b ∷ rest)) next)
