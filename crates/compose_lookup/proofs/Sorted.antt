-- Elements in the order of their texts: a stable sort keeps those of each text in order, and they
-- are adjacent.
use Rattle.std.proofs.Common.{◌≡◌, ℕ, ◌+◌, ◌<◌, ◌≤◌, List, [], ◌∷◌, ◌++◌, Bool, true, false, not, ◌&&◌, ◌||◌, length, get_or, take, drop, refl, sym, ◌∙◌, ap, ap₂, subst, inl, inr, arith}
use Rattle.std.specs.Prelude.{filter}
use Rattle.std.specs.List.{All, AllWithin, list_any}
use Rattle.std.specs.List.Sorted.{IsSortedByKey, IsStableBy, IsPermutation, IsPartitionedBy, IsPartitionPoint, ties}
use Rattle.std.specs.Cmp.{IsStrictWeakOrder}
use Rattle.std.specs.Cmp.Lexicographic.{slice_cmp}
use Rattle.std.specs.declared.cmp.Ordering.{Ordering}
use Rattle.std.specs.declared.cmp.Ordering.TheVariants.{Less, Equal, Greater}
use Rattle.std.specs.Ordering.{nat_cmp, is_lt, is_le, is_eq, ordering_reverse}
use Rattle.std.proofs.lemmas.Bool.{cases_Bool}
use Rattle.std.proofs.lemmas.Cmp.{nat_list_cmp_total}
use Rattle.std.proofs.lemmas.Map.Text.{is_eq-slice_cmp}
use Rattle.std.proofs.lemmas.List.{get_or-take, get_or-drop, take-append-drop, length-take, length-drop}
use Rattle.std.proofs.lemmas.List.Elements.{filter-append, filter_agree, All-head, All-tail}
use Rattle.std.proofs.lemmas.List.Sorted.{sorted_far, ranks_by, list_any-IsPermutation}
use Rattle.compose_model.specs.Table.{same}
use Rattle.compose_model.proofs.NodeLemmas.{same_is}

-- a text comes before another one
abbrev pub is_less : List ℕ → List ℕ → Bool
is_less s t = is_lt (slice_cmp nat_cmp s t)

less_order : IsStrictWeakOrder is_less
less_order = ranks_by nat_list_cmp_total (λ (s : List ℕ). s)

by_order : (o : Ordering) → is_eq o ≡ not (is_lt o) && not (is_lt (ordering_reverse o))
by_order Less = refl
by_order Equal = refl
by_order Greater = refl

no_greater : (o : Ordering) → is_le o ≡ not (is_lt (ordering_reverse o))
no_greater Less = refl
no_greater Equal = refl
no_greater Greater = refl

-- two texts are the same if neither comes before the other
same_tied : (s t : List ℕ) → same s t ≡ not (is_less s t) && not (is_less t s)
same_tied s t =
    sym (is_eq-slice_cmp s t) ∙ by_order (slice_cmp nat_cmp s t)
    ∙ ap (λ o. not (is_less s t) && not (is_lt o)) (sym (nat_list_cmp_total.antisymm t s))

-- a text is no greater than another one if that doesn't come before it
pub at_most : (s t : List ℕ) → is_le (slice_cmp nat_cmp s t) ≡ not (is_less t s)
at_most s t = no_greater (slice_cmp nat_cmp s t) ∙ ap (λ o. not (is_lt o)) (sym (nat_list_cmp_total.antisymm t s))

-- ---- filters

none_kept : {X : Type 0} (p : X → Bool) (xs : List X) → All (λ x. p x ≡ false) xs → filter p xs ≡ []
none_kept p [] h = refl
none_kept p (x ∷ xs) h = rw (All-head (λ x. p x ≡ false) x xs h) (none_kept p xs (All-tail (λ x. p x ≡ false) x xs h))

all_kept : {X : Type 0} (p : X → Bool) (xs : List X) → All (λ x. p x ≡ true) xs → filter p xs ≡ xs
all_kept p [] h = refl
all_kept p (x ∷ xs) h = rw (All-head (λ x. p x ≡ true) x xs h) (ap (λ t. x ∷ t) (all_kept p xs (All-tail (λ x. p x ≡ true) x xs h)))

none_passes : {X : Type 0} (p : X → Bool) (xs : List X) → list_any p xs ≡ false → filter p xs ≡ []
none_passes p [] h = refl
none_passes p (x ∷ xs) h = elim (cases_Bool (p x)) [
  | inl e ↦ absurd (let clash : true ≡ false = sym (ap (λ b. b || list_any p xs) e) ∙ h in cc)
  | inr e ↦ rw e (none_passes p xs (sym (ap (λ b. b || list_any p xs) e) ∙ h))
]

one_passes : {X : Type 0} (p : X → Bool) (xs : List X) → list_any p xs ≡ true → (x : X) × (p x ≡ true)
one_passes p [] h = absurd (let clash : false ≡ true = h in cc)
one_passes p (x ∷ xs) h = elim (cases_Bool (p x)) [
  | inl e ↦ (x, e)
  | inr e ↦ one_passes p xs (sym (ap (λ b. b || list_any p xs) e) ∙ h)
]

of_front : {X : Type 0} (P : X → Type 0) (xs : List X) (i : ℕ) → AllWithin P xs 0 i → All P (take i xs)
of_front P xs i h k d below =
    let short = length-take i xs in
    let inside : k < i = omega arith in
    subst P (sym (get_or-take i xs k d inside)) (h k d (omega arith) inside)

of_rest : {X : Type 0} (P : X → Type 0) (xs : List X) (i : ℕ) → AllWithin P xs i (length xs) → All P (drop i xs)
of_rest P xs i h k d below =
    let short = length-drop i xs in
    subst P (sym (get_or-drop i xs k d)) (h (i + k) d (omega arith) (omega arith))

-- what comes before the first failing element comes before it in the rest of the list too
pub rest_partitioned : {X : Type 0} (p : X → Bool) (xs : List X) (n : ℕ) → IsPartitionedBy p xs → IsPartitionedBy p (drop n xs)
rest_partitioned p xs n h i j d upto below passes =
    let short = length-drop n xs in
    subst (λ y. p y ≡ true) (sym (get_or-drop n xs i d)) (h (n + i) (n + j) d (omega arith) (omega arith) (subst (λ y. p y ≡ true) (get_or-drop n xs j d) passes))

module _ {X : Type 0} (key : X → List ℕ) where
  -- an element with this text
  abbrev pub has_key : List ℕ → X → Bool
  has_key text x = same text (key x)

  -- ---- sorting

  -- a stable sort by texts keeps those of each text in their order
  pub stable_texts : (xs ys : List X) → IsPermutation xs ys → IsStableBy (λ x y. is_less (key x) (key y)) xs ys → (text : List ℕ) → filter (has_key text) ys ≡ filter (has_key text) xs
  stable_texts xs ys moved stable text = elim (cases_Bool (list_any (has_key text) xs)) [
    | inl h ↦ (
        let one = one_passes (has_key text) xs h in
        let tied : (y : X) → has_key text y ≡ ties (λ a b. is_less (key a) (key b)) one.0 y = (λ y.
        ap (λ s. same s (key y)) (same_is text (key one.0) one.1) ∙ same_tied (key one.0) (key y)) in
        filter_agree (has_key text) (ties (λ a b. is_less (key a) (key b)) one.0) tied ys ∙ stable one.0
        ∙ sym (filter_agree (has_key text) (ties (λ a b. is_less (key a) (key b)) one.0) tied xs))
    | inr h ↦ none_passes (has_key text) ys (sym (list_any-IsPermutation (has_key text) xs ys moved) ∙ h) ∙ sym (none_passes (has_key text) xs h)
  ]

  -- ---- searching

  module _ (xs : List X) (rise : IsSortedByKey key (slice_cmp nat_cmp) xs) (text : List ℕ) where
    no_later : (i j : ℕ) (d : X) → i ≤ j → j < length xs → is_less (key (get_or xs j d)) (key (get_or xs i d)) ≡ false
    no_later i j d h below = sorted_far (λ x y. is_less (key x) (key y)) (ranks_by nat_list_cmp_total key) xs rise i j d h below

    -- those before the text come first
    pub before_first : IsPartitionedBy (λ x. is_less (key x) text) xs
    before_first i j d h below less = elim (cases_Bool (is_less (key (get_or xs i d)) text)) [
      | inl e ↦ e
      | inr e ↦ absurd (
          let clash : true ≡ false = sym less ∙ less_order.chain (key (get_or xs j d)) (key (get_or xs i d)) text (no_later i j d h below) e in cc)
    ]

    -- and those that the text doesn't come before
    pub upto_first : IsPartitionedBy (λ x. not (is_less text (key x))) xs
    upto_first i j d h below upto =
        ap not (less_order.chain text (key (get_or xs j d)) (key (get_or xs i d)) (not_true (is_less text (key (get_or xs j d))) upto) (no_later i j d h below))
      where
        not_true : (b : Bool) → not b ≡ true → b ≡ false
        not_true true h = absurd (let clash : false ≡ true = h in cc)
        not_true false h = refl

  -- those with the text are between those before it and those after it
  pub between : (xs : List X) (text : List ℕ) (i j : ℕ)
      → IsPartitionPoint (λ x. is_less (key x) text ≡ true) (λ x. is_less (key x) text ≡ false) xs i
      → IsPartitionPoint (λ x. not (is_less text (key x)) ≡ true) (λ x. not (is_less text (key x)) ≡ false) (drop i xs) j
      → take j (drop i xs) ≡ filter (has_key text) xs
  between xs text i j first second = sym (
      ap (filter (has_key text)) (sym (take-append-drop i xs)) ∙ filter-append (has_key text) (take i xs) (drop i xs)
      ∙ ap (λ zs. zs ++ filter (has_key text) (drop i xs)) (none_kept (has_key text) (take i xs) no_front)
      ∙ ap (filter (has_key text)) (sym (take-append-drop j (drop i xs))) ∙ filter-append (has_key text) (take j (drop i xs)) (drop j (drop i xs))
      ∙ ap₂ (λ us vs. us ++ vs) (all_kept (has_key text) (take j (drop i xs)) all_middle) (none_kept (has_key text) (drop j (drop i xs)) no_end)
      ∙ end (take j (drop i xs)))
    where
      end : (zs : List X) → zs ++ [] ≡ zs
      end [] = refl
      end (z ∷ zs) = ap (λ t. z ∷ t) (end zs)

      tested : (x : X) (a b : Bool) → not (is_less text (key x)) ≡ a → is_less (key x) text ≡ b → has_key text x ≡ a && not b
      tested x a b e f = same_tied text (key x) ∙ ap₂ (λ s t. s && not t) e f

      no_front : All (λ x. has_key text x ≡ false) (take i xs)
      no_front k d h =
          let x = get_or (take i xs) k d in
          tested x (not (is_less text (key x))) true refl (of_front (λ y. is_less (key y) text ≡ true) xs i first.0 k d h) ∙ and_false (not (is_less text (key x)))
        where
          and_false : (b : Bool) → b && false ≡ false
          and_false true = refl
          and_false false = refl

      rest_not_less : All (λ x. is_less (key x) text ≡ false) (drop i xs)
      rest_not_less = of_rest (λ y. is_less (key y) text ≡ false) xs i first.1

      all_middle : All (λ x. has_key text x ≡ true) (take j (drop i xs))
      all_middle k d h =
          let short = length-take j (drop i xs) in
          let inside : k < j = omega arith in
          let there : k < length (drop i xs) = omega arith in
          tested (get_or (take j (drop i xs)) k d) true false
          (of_front (λ y. not (is_less text (key y)) ≡ true) (drop i xs) j second.0 k d h)
          (subst (λ y. is_less (key y) text ≡ false) (sym (get_or-take j (drop i xs) k d inside)) (rest_not_less k d there))

      no_end : All (λ x. has_key text x ≡ false) (drop j (drop i xs))
      no_end k d h =
          let x = get_or (drop j (drop i xs)) k d in
          tested x false (is_less (key x) text) (of_rest (λ y. not (is_less text (key y)) ≡ false) (drop i xs) j second.1 k d h) refl
