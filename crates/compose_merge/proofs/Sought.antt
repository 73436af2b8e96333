-- A binary search among texts in order finds a text exactly if it is one of them.
use Rattle.std.proofs.Common.{◌≡◌, ◌⊎◌, ℕ, ◌+◌, ◌<◌, ◌≤◌, List, [], ◌∷◌, Bool, true, false, length, get_or, map, refl, sym, ◌∙◌, ap, subst, arith, inl, inr, Ordering, Less, Equal, Greater, nat_cmp}
use Rattle.std.specs.Prelude.{is_ok, nat_eq, Result, Ok, Err}
use Rattle.std.specs.List.{list_any}
use Rattle.std.specs.Ordering.{on, ordering_index, ordering_reverse, is_lt, is_eq}
use Rattle.std.specs.Cmp.{IsTotalOrder}
use Rattle.std.specs.Cmp.Lexicographic.{slice_cmp, pointwise, texts_ties, same_text}
use Rattle.std.specs.List.Sorted.{IsBinarySearchResult, IsNonDecreasingBy, IsSearchInRange, IsSorted}
use Rattle.std.proofs.lemmas.Bool.{cases_lt, false_from_ne_true}
use Rattle.std.proofs.lemmas.Cmp.{nat_list_cmp_total, tied_itself}
use Rattle.std.proofs.lemmas.List.Elements.{All-from_get_or}
use Rattle.std.proofs.lemmas.List.Folds.{list_any_at, list_any_none}
use Rattle.std.proofs.lemmas.List.Sorted.{IsNonDecreasingBy-from_all_adjacent}
use Rattle.compose_model.specs.Table.{same}
use Rattle.compose_model.proofs.NodeLemmas.{same_is, same_from}
use Rattle.compose_model.proofs.Tests.{list_any-map}

-- how two texts compare
abbrev order : List ℕ → List ℕ → Ordering
order = slice_cmp nat_cmp

highest : (o : Ordering) → ordering_index o ≤ 2
highest Less = omega arith
highest Equal = omega arith
highest Greater = omega arith

-- of two texts in order, the second compares with x as the first does, or higher
no_less : (x a b : List ℕ) → is_lt (order b a) ≡ false → ordering_index (order a x) ≤ ordering_index (order b x)
no_less x a b h = by_pair (order a b) refl
  where
    first_less : order a b ≡ Less → (o : Ordering) → order b x ≡ o → ordering_index (order a x) ≤ ordering_index (order b x)
    first_less e Less f = let z : ordering_index (order a x) ≡ 0 = ap ordering_index (nat_list_cmp_total.trans a b x e f) in omega arith
    first_less e Equal f =
        let back : order x b ≡ Equal = nat_list_cmp_total.antisymm x b ∙ ap ordering_reverse f in
        let turned : order b a ≡ order x a = sym (nat_list_cmp_total.congr x b a back) in
        let less : order a x ≡ Less = nat_list_cmp_total.antisymm a x ∙ ap ordering_reverse (sym turned) ∙ sym (nat_list_cmp_total.antisymm a b) ∙ e in
        let z : ordering_index (order a x) ≡ 0 = ap ordering_index less in omega arith
    first_less e Greater f = let z : ordering_index (order b x) ≡ 2 = ap ordering_index f in let n = highest (order a x) in omega arith

    by_pair : (o : Ordering) → order a b ≡ o → ordering_index (order a x) ≤ ordering_index (order b x)
    by_pair Less e = first_less e (order b x) refl
    by_pair Equal e = let same_index : ordering_index (order a x) ≡ ordering_index (order b x) = ap ordering_index (nat_list_cmp_total.congr a b x e) in omega arith
    by_pair Greater e =
        let less : order b a ≡ Less = nat_list_cmp_total.antisymm b a ∙ ap ordering_reverse e in
        absurd (let n : true ≡ false = sym (ap is_lt less) ∙ h in cc)

module _ {X : Type 0} (text : X → List ℕ) (xs : List X) (x : List ℕ) where
  -- the comparisons with x rise
  rising : IsSorted (on text order) xs → IsNonDecreasingBy (λ y. ordering_index (order (text y) x)) xs
  rising up = IsNonDecreasingBy-from_all_adjacent (λ y. ordering_index (order (text y) x)) xs (λ k d lt. no_less x (text (get_or xs k d)) (text (get_or xs (k + 1) d)) (up k d (omega arith) lt))

  equal_is : (y : X) → order (text y) x ≡ Equal → same x (text y) ≡ true
  equal_is y e = same_from x (text y) (sym (same_text (text y) x (sym (texts_ties (text y) x ∙ ap is_eq e))))

  other_is : (y : X) → (order (text y) x ≡ Less) ⊎ (order (text y) x ≡ Greater) → same x (text y) ≡ false
  other_is y h = false_from_ne_true (same x (text y)) (λ s.
      let itself : order (text y) x ≡ Equal = ap (λ t. order t x) (sym (same_is x (text y) s)) ∙ tied_itself nat_list_cmp_total x in
      elim h [
        | inl l ↦ (let clash : Equal ≡ Less = sym itself ∙ l in cc)
        | inr g ↦ (let clash : Equal ≡ Greater = sym itself ∙ g in cc)
      ])

  found : (d : X) (r : Result ℕ ℕ) → IsSorted (on text order) xs → IsSearchInRange r (length xs) → IsBinarySearchResult (λ y. order (text y) x) xs r → is_ok r ≡ list_any (λ y. same x (text y)) xs
  found d (Ok i) up range at = sym (list_any_at (λ y. same x (text y)) xs i d range (equal_is (get_or xs i d) (at d)))
  found d (Err i) up range at =
      let parts = at (rising up) in
      sym (list_any_none (λ y. same x (text y)) xs (All-from_get_or (λ y. same x (text y) ≡ false) xs d (λ k h. other_is (get_or xs k d) (elim (cases_lt k i) [
        | inl low ↦ inl (parts.0 k d (omega arith) low)
        | inr high ↦ inr (parts.1 k d high h)
      ]))))

  pub sought : (d : X) (r : Result ℕ ℕ) → IsSorted (on text order) xs → IsSearchInRange r (length xs) → IsBinarySearchResult (λ y. order (text y) x) xs r → is_ok r ≡ list_any (same x) (map text xs)
  sought d r up range at = found d r up range at ∙ sym (list_any-map (same x) text xs)
