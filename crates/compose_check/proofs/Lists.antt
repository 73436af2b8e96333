-- The rest of a list at an index.
use Rattle.std.proofs.Common.{◌≡◌, ℕ, zero, suc, ◌+◌, ◌<◌, List, [], ◌∷◌, Bool, true, false, ◌&&◌, length, get_or, drop, refl, sym, ◌∙◌, ap, arith}
use Rattle.std.specs.Prelude.{slice_get, Some}
use Rattle.std.specs.List.{list_any, list_all}
use Rattle.std.proofs.lemmas.Bool.{and_parts, and_left, or_left, or_right}
use Rattle.compose_fresh.proofs.Unmet.{drop_at}

-- the test of the whole rest, if the element at the index fails or passes
pub all_fail : {X : Type 0} (p : X → Bool) (xs : List X) (i : ℕ) (x : X) → slice_get xs i ≡ Some x → p x ≡ false → list_all p (drop i xs) ≡ false
all_fail p xs i x e h = ap (list_all p) (drop_at xs i x e) ∙ and_left (p x) (list_all p (drop (i + 1) xs)) h

pub all_go_on : {X : Type 0} (p : X → Bool) (xs : List X) (i : ℕ) (x : X) → slice_get xs i ≡ Some x → p x ≡ true → list_all p (drop (i + 1) xs) ≡ list_all p (drop i xs)
all_go_on p xs i x e h = sym (ap (list_all p) (drop_at xs i x e) ∙ ap (λ b. b && list_all p (drop (i + 1) xs)) h)

-- if the element at an index passes, one of the list passes
pub one_passes : {X : Type 0} (q : X → Bool) (d : X) (xs : List X) (k : ℕ) → k < length xs → q (get_or xs k d) ≡ true → list_any q xs ≡ true
one_passes q d [] k h e = absurd (omega arith)
one_passes q d (x ∷ xs) zero h e = or_left (q x) (list_any q xs) e
one_passes q d (x ∷ xs) (suc k) h e = or_right (q x) (list_any q xs) (one_passes q d xs k (omega arith) e)

-- if all elements pass, the one at an index passes
pub all_at : {X : Type 0} (p : X → Bool) (xs : List X) (i : ℕ) (x : X) → list_all p xs ≡ true → slice_get xs i ≡ Some x → p x ≡ true
all_at p [] i x h e = cc
all_at p (y ∷ xs) zero x h e = (let same : y ≡ x = cc in ap p (sym same) ∙ (and_parts (p y) (list_all p xs) h).0)
all_at p (y ∷ xs) (suc i) x h e = all_at p xs i x (and_parts (p y) (list_all p xs) h).1 e
