-- Elements that are sorted by their texts, and kept once for each text, have the texts of all in
-- rising order, each once.
use Rattle.std.proofs.Common.{◌≡◌, ℕ, List, [], ◌∷◌, Bool, true, false, map, refl, sym, ◌∙◌, nat_cmp, Less}
use Rattle.std.specs.Prelude.{nat_eq}
use Rattle.std.specs.List.{dedup, list_any, AllByRecursion}
use Rattle.std.specs.List.Sorted.{IsPermutation, IsSorted, IsStrictlySortedBy}
use Rattle.std.specs.Ordering.{on}
use Rattle.std.specs.Cmp.Lexicographic.{slice_cmp, pointwise, on_texts, texts_ties, on_texts_equal}
use Rattle.std.proofs.lemmas.Cmp.{nat_list_cmp_total}
use Rattle.std.proofs.lemmas.List.Folds.{Any-from_list_any, list_any-from_Any}
use Rattle.std.proofs.lemmas.List.Kept.{IsStrictlySortedBy-dedup, Any-dedup, Contains-from_dedup}
use Rattle.std.proofs.lemmas.List.Sorted.{list_any-IsPermutation}
use Rattle.std.proofs.lemmas.Map.Lookups.{exact_bytes}
use Rattle.compose_model.specs.Table.{same}
use Rattle.compose_model.specs.Nodes.{rising_lists}
use Rattle.compose_model.proofs.NodeLemmas.{same_is, same_from}
use Rattle.compose_model.proofs.SameTable.{one_rising}
use Rattle.compose_model.proofs.Sorted.{rising_sorted}
use Rattle.compose_model.proofs.Tests.{list_any-map, list_any-rising}

-- both hold, or neither
both_ways : (a b : Bool) → (a ≡ true → b ≡ true) → (b ≡ true → a ≡ true) → a ≡ b
both_ways true b f g = sym (f refl)
both_ways false true f g = g refl
both_ways false false f g = refl

module _ {X : Type 0} (text : X → List ℕ) where
  -- two elements have the same text
  abbrev tied : X → X → Bool
  tied x y = pointwise nat_eq (text x) (text y)

  -- elements that strictly rise by their texts have texts that strictly rise
  texts_rise : (xs : List X) → IsStrictlySortedBy (on text (slice_cmp nat_cmp)) xs → IsStrictlySortedBy (slice_cmp nat_cmp) (map text xs)
  unfolding IsStrictlySortedBy
  texts_rise [] s = tt
  texts_rise (x ∷ xs) s = (below xs s.0, texts_rise xs s.1)
    where
      below : (ys : List X) → AllByRecursion (λ y. slice_cmp nat_cmp (text x) (text y) ≡ Less) ys → AllByRecursion (λ t. slice_cmp nat_cmp (text x) t ≡ Less) (map text ys)
      below [] a = tt
      below (y ∷ ys) a = (a.0, below ys a.1)

  -- an element with this text is in the list
  abbrev is_text : List ℕ → List X → Bool
  is_text q xs = list_any (λ x. same q (text x)) xs

  -- each text is kept
  kept_text : (q : List ℕ) (xs : List X) → is_text q xs ≡ true → is_text q (dedup tied xs) ≡ true
  kept_text q xs h =
      let at = Any-from_list_any (λ x. same q (text x)) xs h in
      let kept = Any-dedup (on_texts_equal text) xs at.1 (at.0, at.2, at.3) in
      list_any-from_Any (λ x. same q (text x)) (dedup tied xs)
      (kept.0, kept.1, kept.2, kept.3, same_from q (text kept.1) (same_is q (text at.1) at.4 ∙ same_is (text at.1) (text kept.1) kept.4))

  -- and none is added
  old_text : (q : List ℕ) (xs : List X) → is_text q (dedup tied xs) ≡ true → is_text q xs ≡ true
  old_text q xs h =
      let at = Any-from_list_any (λ x. same q (text x)) (dedup tied xs) h in
      let was = Contains-from_dedup tied xs at.1 (at.0, at.2, at.3) in
      list_any-from_Any (λ x. same q (text x)) xs (was.0, at.1, was.1, was.2, at.4)

  pub distinct_texts : (items sorted : List X) → IsPermutation items sorted → IsSorted (on text (slice_cmp nat_cmp)) sorted → map text (dedup tied sorted) ≡ rising_lists (map text items)
  distinct_texts items sorted moved in_order =
      one_rising (map text (dedup tied sorted)) (rising_lists (map text items))
      (texts_rise (dedup tied sorted) (IsStrictlySortedBy-dedup (on_texts text) (λ x y. texts_ties (text x) (text y)) sorted in_order))
      (rising_sorted nat_list_cmp_total (map text items))
      (λ q.
      list_any-map (same q) text (dedup tied sorted)
      ∙ both_ways (is_text q (dedup tied sorted)) (is_text q sorted) (old_text q sorted) (kept_text q sorted)
      ∙ sym (list_any-IsPermutation (λ x. same q (text x)) items sorted moved)
      ∙ sym (list_any-map (same q) text items)
      ∙ sym (list_any-rising (slice_cmp nat_cmp) exact_bytes (same q) (map text items)))
