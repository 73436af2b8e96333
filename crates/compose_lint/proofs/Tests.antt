-- Whether all elements of a list, or some element, pass a test.
use Rattle.std.proofs.Common.{◌≡◌, ◌∙◌, Bool, true, false, not, ◌&&◌, ◌||◌, List, [], ◌∷◌, ◌++◌, refl, sym, ap, ap₂, inl, inr}
use Rattle.std.specs.List.{list_any, list_all}
use Rattle.std.proofs.lemmas.Bool.{and_parts, and_from, or_cases, or_parts, or_from, or_left, or_right}
use Rattle.std.proofs.lemmas.List.Folds.{list_any-append, list_all-append}

module _ {X : Type 0} where
  -- another element
  pub any_more : (p : X → Bool) (xs : List X) (x : X) → list_any p (xs ++ x ∷ []) ≡ (list_any p xs || p x)
  any_more p xs x = list_any-append p xs (x ∷ []) ∙ ap (λ b. list_any p xs || b) (by (p x))
    where
      by : (b : Bool) → (b || false) ≡ b
      by true = refl
      by false = refl

  pub all_more : (p : X → Bool) (xs : List X) (x : X) → list_all p (xs ++ x ∷ []) ≡ (list_all p xs && p x)
  all_more p xs x = list_all-append p xs (x ∷ []) ∙ ap (λ b. list_all p xs && b) (by (p x))
    where
      by : (b : Bool) → (b && true) ≡ b
      by true = refl
      by false = refl

  -- if all pass one test and one passes another, one passes both
  pub one_of_all : (p q : X → Bool) (xs : List X) → list_all p xs ≡ true → list_any q xs ≡ true → (x : X) × (p x ≡ true) × (q x ≡ true)
  one_of_all p q [] all any = absurd (let t : true ≡ false = sym any in cc)
  one_of_all p q (x ∷ xs) all any = elim (or_cases (q x) (list_any q xs) any) [
    | inl e ↦ (x, (and_parts (p x) (list_all p xs) all).0, e)
    | inr e ↦ one_of_all p q xs (and_parts (p x) (list_all p xs) all).1 e
  ]

  -- a test that follows from another
  pub all_from : (p r : X → Bool) (xs : List X) → ((x : X) → p x ≡ true → r x ≡ true) → list_all p xs ≡ true → list_all r xs ≡ true
  all_from p r [] h all = refl
  all_from p r (x ∷ xs) h all = and_from (r x) (list_all r xs) (h x (and_parts (p x) (list_all p xs) all).0) (all_from p r xs h (and_parts (p x) (list_all p xs) all).1)

  pub none_from : (p r : X → Bool) (xs : List X) → ((x : X) → p x ≡ true → r x ≡ false) → list_all p xs ≡ true → list_any r xs ≡ false
  none_from p r [] h all = refl
  none_from p r (x ∷ xs) h all = or_from (r x) (list_any r xs) (h x (and_parts (p x) (list_all p xs) all).0) (none_from p r xs h (and_parts (p x) (list_all p xs) all).1)

  pub all_none : (p : X → Bool) (xs : List X) → list_any p xs ≡ false → list_all (λ x. not (p x)) xs ≡ true
  all_none p [] none = refl
  all_none p (x ∷ xs) none = and_from (not (p x)) (list_all (λ x. not (p x)) xs) (ap not (or_parts (p x) (list_any p xs) none).0) (all_none p xs (or_parts (p x) (list_any p xs) none).1)

  pub all_both : (p q : X → Bool) (xs : List X) → list_all p xs ≡ true → list_all q xs ≡ true → list_all (λ x. p x && q x) xs ≡ true
  all_both p q [] one other = refl
  all_both p q (x ∷ xs) one other =
      let h = and_parts (p x) (list_all p xs) one in let k = and_parts (q x) (list_all q xs) other in
      and_from (p x && q x) (list_all (λ x. p x && q x) xs) (and_from (p x) (q x) h.0 k.0) (all_both p q xs h.1 k.1)

  pub any_from : (p q r : X → Bool) (xs : List X) → ((x : X) → p x ≡ true → q x ≡ true → r x ≡ true) → list_all p xs ≡ true → list_any q xs ≡ true → list_any r xs ≡ true
  any_from p q r [] h all any = absurd (let t : true ≡ false = sym any in cc)
  any_from p q r (x ∷ xs) h all any = elim (or_cases (q x) (list_any q xs) any) [
    | inl e ↦ or_left (r x) (list_any r xs) (h x (and_parts (p x) (list_all p xs) all).0 e)
    | inr e ↦ or_right (r x) (list_any r xs) (any_from p q r xs h (and_parts (p x) (list_all p xs) all).1 e)
  ]

  -- the same test
  pub any_same : (p q : X → Bool) (xs : List X) → ((x : X) → p x ≡ q x) → list_any p xs ≡ list_any q xs
  any_same p q [] each = refl
  any_same p q (x ∷ xs) each = ap₂ (λ a b. a || b) (each x) (any_same p q xs each)
