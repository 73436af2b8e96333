-- The number of sequences that go on from a node, counted by its edges.
use Rattle.std.proofs.Common.{◌≡◌, ℕ, zero, suc, ◌+◌, ◌<◌, ◌≤◌, List, [], ◌∷◌, ◌++◌, Bool, true, false, cond, ◌||◌, length, get_or, take, refl, sym, ◌∙◌, ap, ap₂, subst, inl, inr, arith, eqb-true, Less, Equal, nat_cmp}
use Rattle.std.specs.Prelude.{◌==◌, slice_get, Some, filter}
use Rattle.std.specs.List.{list_any, All, AllByRecursion}
use Rattle.std.specs.List.Sorted.{IsStrictlySortedBy}
use Rattle.std.specs.Cmp.Lexicographic.{slice_cmp}
use Rattle.std.proofs.lemmas.Bool.{or_cases, cases_Bool, and_parts}
use Rattle.std.proofs.lemmas.Cmp.{nat_cmp_total, tied_itself}
use Rattle.std.proofs.lemmas.List.{take_all}
use Rattle.std.proofs.lemmas.List.Elements.{All-head, All-tail, All-from_get_or}
use Rattle.std.proofs.lemmas.List.Sums.{count_by-le-length, length-filter}
use Rattle.std.proofs.lemmas.Option.{slice_get_within, get_or_from_slice_get}
use Rattle.compose_model.specs.Table.{Definition, same, is_proper_prefix, is_sequence, is_extended}
use Rattle.compose_model.specs.Nodes.{leaves, edges}
use Rattle.compose_model.proofs.NodeLemmas.{same_is, same_from}
use Rattle.compose_model.proofs.Tests.{list_any-weaker}
use Rattle.compose_model.proofs.Lift.{not_extended}
use Rattle.compose_read.specs.Settle.{IsSettled}
use Rattle.compose_tree.proofs.OneMore.{edges_sorted, leaves_sorted}
use Rattle.compose_tree.proofs.Steps.{leaf_means}
use Rattle.compose_fresh.proofs.Positions.{any_more}
use Rattle.compose_walk.proofs.NodeNumbers.{any_at, later_other}
use Rattle.compose_walk.proofs.Onward.{begins}
use Rattle.compose_compare.proofs.Written.{is_through, all_through}
use Rattle.compose_lookup.specs.Lookup.{count_after}

-- ---- counts

abbrev pub count : {X : Type 0} → (X → Bool) → List X → ℕ
count f xs = length (filter f xs)

-- with one element more
counted : {X : Type 0} (f : X → Bool) (x : X) (xs : List X) (b : Bool) → f x ≡ b → count f (x ∷ xs) ≡ cond b 1 0 + count f xs
counted f x xs true e = let same : suc (count f xs) ≡ 1 + count f xs = omega arith in rw e same
counted f x xs false e = let same : count f xs ≡ 0 + count f xs = omega arith in rw e same

counted_no : {X : Type 0} (f : X → Bool) (x : X) (xs : List X) → f x ≡ false → count f (x ∷ xs) ≡ count f xs
counted_no f x xs e = rw e refl

-- tests that agree on all elements pass as many
same_count : {X : Type 0} (f g : X → Bool) (xs : List X) → All (λ x. f x ≡ g x) xs → count f xs ≡ count g xs
same_count f g [] h = refl
same_count f g (x ∷ xs) h =
    counted f x xs (g x) (All-head (λ x. f x ≡ g x) x xs h) ∙ ap (λ n. cond (g x) 1 0 + n) (same_count f g xs (All-tail (λ x. f x ≡ g x) x xs h)) ∙ sym (counted g x xs (g x) refl)

-- elements that pass one of two tests, if none passes both
either_count : {X : Type 0} (f g : X → Bool) → ((x : X) → f x ≡ true → g x ≡ true → ⊥) → (xs : List X) → count (λ x. f x || g x) xs ≡ count f xs + count g xs
either_count f g apart [] = refl
either_count f g apart (x ∷ xs) = go (f x) (g x) refl refl (either_count f g apart xs)
  where
    go : (a b : Bool) → f x ≡ a → g x ≡ b → count (λ x. f x || g x) xs ≡ count f xs + count g xs → count (λ x. f x || g x) (x ∷ xs) ≡ count f (x ∷ xs) + count g (x ∷ xs)
    go true true d e s = absurd (apart x d e)
    go true false d e s =
        counted (λ x. f x || g x) x xs true (ap₂ (λ c d. c || d) d e)
        ∙ (let p = counted f x xs true d in let q = counted_no g x xs e in omega arith)
    go false true d e s =
        counted (λ x. f x || g x) x xs true (ap₂ (λ c d. c || d) d e)
        ∙ (let p = counted_no f x xs d in let q = counted g x xs true e in omega arith)
    go false false d e s =
        counted_no (λ x. f x || g x) x xs (ap₂ (λ c d. c || d) d e)
        ∙ (let p = counted_no f x xs d in let q = counted_no g x xs e in omega arith)

-- nothing passes a test that no element passes
no_count : {X : Type 0} (f : X → Bool) (xs : List X) → AllByRecursion (λ x. f x ≡ false) xs → count f xs ≡ 0
no_count f [] h = refl
no_count f (x ∷ xs) h = counted_no f x xs h.0 ∙ no_count f xs h.1

others : (s : List ℕ) (xs : List (List ℕ)) → AllByRecursion (λ y. slice_cmp nat_cmp s y ≡ Less) xs → AllByRecursion (λ y. same s y ≡ false) xs
others s [] h = tt
others s (x ∷ xs) h = (other s x (later_other s x h.0), others s xs h.1)
  where
    other : (s t : List ℕ) → same t s ≡ false → same s t ≡ false
    other s t e = elim (cases_Bool (same s t)) [
      | inl f ↦ absurd (let clash : true ≡ false = sym (same_from t s (sym (same_is s t f))) ∙ e in cc)
      | inr f ↦ f
    ]

-- each list occurs once in a strictly rising one
pub one_count : (s : List ℕ) (xs : List (List ℕ)) → IsStrictlySortedBy (slice_cmp nat_cmp) xs → list_any (same s) xs ≡ true → count (same s) xs ≡ 1
unfolding IsStrictlySortedBy
one_count s [] rise h = cc
one_count s (x ∷ xs) rise h = elim (cases_Bool (same s x)) [
  | inl e ↦ counted (same s) x xs true e ∙ ap (λ n. 1 + n) (no_count (same s) xs (others s xs (subst (λ t. AllByRecursion (λ y. slice_cmp nat_cmp t y ≡ Less) xs) (sym (same_is s x e)) rise.0)))
  | inr e ↦ counted_no (same s) x xs e ∙ one_count s xs rise.1 (sym (ap (λ b. b || list_any (same s) xs) e) ∙ h)
]

-- ---- edges

-- what begins with p and a key, and with p and another one
one_key : (p s : List ℕ) (j k : ℕ) → begins (p ++ j ∷ []) s ≡ true → begins (p ++ k ∷ []) s ≡ true → j ≡ k
one_key [] [] j k g h = cc
one_key [] (x ∷ s) j k g h = first j g ∙ sym (first k h)
  where
    first : (j : ℕ) → begins (j ∷ []) (x ∷ s) ≡ true → j ≡ x
    first j g = elim (or_cases (same (j ∷ []) (x ∷ s)) (is_proper_prefix (j ∷ []) (x ∷ s)) g) [
      | inl e ↦ eqb-true j x (and_parts (j == x) (same [] s) e).0
      | inr e ↦ eqb-true j x (and_parts (j == x) (is_proper_prefix [] s) e).0
    ]
one_key (i ∷ p) [] j k g h = cc
one_key (i ∷ p) (x ∷ s) j k g h = one_key p s j k (behind j g) (behind k h)
  where
    behind : (j : ℕ) → begins (i ∷ p ++ j ∷ []) (x ∷ s) ≡ true → begins (p ++ j ∷ []) s ≡ true
    behind j g = elim (or_cases (same (i ∷ p ++ j ∷ []) (x ∷ s)) (is_proper_prefix (i ∷ p ++ j ∷ []) (x ∷ s)) g) [
      | inl e ↦ ap (λ b. b || is_proper_prefix (p ++ j ∷ []) s) (and_parts (i == x) (same (p ++ j ∷ []) s) e).1
      | inr e ↦ either (same (p ++ j ∷ []) s) (is_proper_prefix (p ++ j ∷ []) s) (and_parts (i == x) (is_proper_prefix (p ++ j ∷ []) s) e).1
    ]
      where
        either : (a b : Bool) → b ≡ true → a || b ≡ true
        either true b e = refl
        either false b e = e

below_at : (x : ℕ) (xs : List ℕ) (i : ℕ) → AllByRecursion (λ y. nat_cmp x y ≡ Less) xs → i < length xs → nat_cmp x (get_or xs i 0) ≡ Less
below_at x [] i h below = absurd (omega arith)
below_at x (y ∷ ys) zero h below = h.0
below_at x (y ∷ ys) (suc i) h below = below_at x ys i h.1 (omega arith)

-- no earlier element of a strictly rising list is the one at an index
not_earlier : (f : ℕ → Bool) (xs : List ℕ) (i : ℕ) → IsStrictlySortedBy nat_cmp xs → i < length xs → ((x : ℕ) → f x ≡ true → x ≡ get_or xs i 0) → list_any f (take i xs) ≡ true → ⊥
unfolding IsStrictlySortedBy
not_earlier f [] i rise below one h = absurd (omega arith)
not_earlier f (x ∷ xs) zero rise below one h = let clash : false ≡ true = h in cc
not_earlier f (x ∷ xs) (suc i) rise below one h = elim (or_cases (f x) (list_any f (take i xs)) h) [
  | inl e ↦ (
      let less : nat_cmp x (get_or xs i 0) ≡ Less = below_at x xs i rise.0 (omega arith) in
      let clash : Equal ≡ Less = sym (tied_itself nat_cmp_total x) ∙ ap (nat_cmp x) (one x e) ∙ less in cc)
  | inr e ↦ not_earlier f xs i rise.1 (omega arith) one e
]

-- the number of sequences that go on from p by some keys
abbrev pub count_through : List Definition → List ℕ → List ℕ → ℕ
count_through table p ks = count (is_through p ks) (leaves table)

-- nothing goes on by no key
pub none_counted : (p : List ℕ) (xs : List (List ℕ)) → 0 ≡ count (is_through p []) xs
none_counted p [] = refl
none_counted p (x ∷ xs) = none_counted p xs

module _ (table : List Definition) (settled : IsSettled table) (p : List ℕ) where
  is_listed : (i : ℕ) → i < length (leaves table) → is_sequence table (get_or (leaves table) i []) ≡ true
  is_listed i h = sym (leaf_means table (get_or (leaves table) i [])) ∙ any_at (leaves table) i h

  module _ (i k : ℕ) (at : slice_get (edges table p) i ≡ Some k) where
    -- with those that go on by one edge more
    more : count_through table p (take (i + 1) (edges table p)) ≡ count_through table p (take i (edges table p)) + count (begins (p ++ k ∷ [])) (leaves table)
    more =
        ap (λ (f : List ℕ → Bool). count f (leaves table)) (λ j s. through_more s j)
        ∙ either_count (is_through p (take i (edges table p))) (begins (p ++ k ∷ []))
        (λ s g h. not_earlier (λ j. begins (p ++ j ∷ []) s) (edges table p) i (edges_sorted table p) (slice_get_within (edges table p) i k at)
        (λ j e. one_key p s j k e h ∙ sym (get_or_from_slice_get (edges table p) i k 0 at)) g) (leaves table)
      where
        through_more : (s : List ℕ) → is_through p (take (i + 1) (edges table p)) s ≡ is_through p (take i (edges table p)) s || begins (p ++ k ∷ []) s
        through_more s =
            any_more (λ j. begins (p ++ j ∷ []) s) (edges table p) i 0 (slice_get_within (edges table p) i k at)
            ∙ ap (λ j. is_through p (take i (edges table p)) s || begins (p ++ j ∷ []) s) (get_or_from_slice_get (edges table p) i k 0 at)

    -- if the key leads to a node
    pub node_counted : is_extended table (p ++ k ∷ []) ≡ true → count_through table p (take (i + 1) (edges table p)) ≡ count_through table p (take i (edges table p)) + count_after table (p ++ k ∷ [])
    node_counted x =
        more ∙ ap (λ n. count_through table p (take i (edges table p)) + n)
        (same_count (begins (p ++ k ∷ [])) (is_proper_prefix (p ++ k ∷ [])) (leaves table)
        (All-from_get_or (λ s. begins (p ++ k ∷ []) s ≡ is_proper_prefix (p ++ k ∷ []) s) (leaves table) [] (λ n h. longer (get_or (leaves table) n []) (is_listed n h))))
      where
        longer : (s : List ℕ) → is_sequence table s ≡ true → begins (p ++ k ∷ []) s ≡ is_proper_prefix (p ++ k ∷ []) s
        longer s h = elim (cases_Bool (same (p ++ k ∷ []) s)) [
          | inl e ↦ absurd (let clash : true ≡ false = sym x ∙ ap (is_extended table) (same_is (p ++ k ∷ []) s e) ∙ not_extended table s settled.prefix_free h in cc)
          | inr e ↦ ap (λ b. b || is_proper_prefix (p ++ k ∷ []) s) e
        ]

    -- if it completes a sequence
    pub leaf_counted : is_sequence table (p ++ k ∷ []) ≡ true → is_extended table (p ++ k ∷ []) ≡ false
        → count_through table p (take (i + 1) (edges table p)) ≡ count_through table p (take i (edges table p)) + 1
    leaf_counted x e =
        more ∙ ap (λ n. count_through table p (take i (edges table p)) + n)
        (same_count (begins (p ++ k ∷ [])) (same (p ++ k ∷ [])) (leaves table)
        (All-from_get_or (λ s. begins (p ++ k ∷ []) s ≡ same (p ++ k ∷ []) s) (leaves table) [] (λ n h. no_longer (get_or (leaves table) n []) (is_listed n h)))
        ∙ one_count (p ++ k ∷ []) (leaves table) (leaves_sorted table) (leaf_means table (p ++ k ∷ []) ∙ x))
      where
        by : (a b : Bool) → b ≡ false → a || b ≡ a
        by true b e = refl
        by false b e = e

        no_longer : (s : List ℕ) → is_sequence table s ≡ true → begins (p ++ k ∷ []) s ≡ same (p ++ k ∷ []) s
        no_longer s h = by (same (p ++ k ∷ []) s) (is_proper_prefix (p ++ k ∷ []) s) (elim (cases_Bool (is_proper_prefix (p ++ k ∷ []) s)) [
          | inl f ↦ absurd (extends s h f)
          | inr f ↦ f
        ])
          where
            extends : (s : List ℕ) → is_sequence table s ≡ true → is_proper_prefix (p ++ k ∷ []) s ≡ true → ⊥
            extends s h f =
                let longer : is_extended table (p ++ k ∷ []) ≡ true = list_any-weaker (λ (d : Definition). same s d.sequence) (λ d. is_proper_prefix (p ++ k ∷ []) d.sequence)
                (λ d g. ap (is_proper_prefix (p ++ k ∷ [])) (sym (same_is s d.sequence g)) ∙ f) table h in
                let clash : true ≡ false = sym longer ∙ e in cc

  -- by all edges every sequence is counted that goes on
  pub all_counted : (i n : ℕ) → length (edges table p) ≤ i → n ≡ count_through table p (take i (edges table p)) → n ≡ count_after table p
  all_counted i n h e =
      e ∙ ap (count_through table p) (take_all i (edges table p) h)
      ∙ same_count (is_through p (edges table p)) (is_proper_prefix p) (leaves table)
      (All-from_get_or (λ s. is_through p (edges table p) s ≡ is_proper_prefix p s) (leaves table) [] (λ n h. all_through 0 length table settled p (get_or (leaves table) n []) (is_listed n h)))

-- no count is above the number of the leaves
pub few_counted : (table : List Definition) (f : List ℕ → Bool) → count f (leaves table) ≤ length (leaves table)
few_counted table f = let most = count_by-le-length f (leaves table) in omega (arith, length-filter f (leaves table))
