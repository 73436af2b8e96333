-- The first of the shortest sequences that pass a test: no other one is shorter, and none of its
-- length comes before it.
use Rattle.std.proofs.Common.{◌≡◌, ℕ, zero, suc, ◌+◌, ◌<◌, ◌≤◌, List, [], ◌∷◌, ◌++◌, Bool, true, false, cond, ◌&&◌, length, map, flat_map, refl, sym, ◌∙◌, ap, ◌⊎◌, inl, inr, Less, Equal, Greater, nat_cmp, arith}
use Rattle.std.specs.declared.cmp.Ordering.{Ordering}
use Rattle.std.specs.Ordering.{is_lt}
use Rattle.std.specs.Prelude.{Option, Some, None, nat_eq, nat_lt, filter, slice_get}
use Rattle.std.specs.List.{find, list_any, range_with_len, AllByRecursion}
use Rattle.std.specs.List.Sorted.{IsStrictlySortedBy}
use Rattle.std.specs.Cmp.Lexicographic.{slice_cmp}
use Rattle.std.proofs.lemmas.Bool.{and_parts, and_from, or_left, or_right, or_cases, eq-eqb, eqb-true, ltb-true, ltb-false}
use Rattle.std.proofs.lemmas.Cmp.{nat_list_cmp_total}
use Rattle.std.proofs.lemmas.Option.{same_Some}
use Rattle.compose_model.specs.Table.{Definition, same, comes_before, is_sequence, is_definition, is_table}
use Rattle.compose_model.specs.Nodes.{leaves}
use Rattle.compose_model.proofs.Definitions.{sequence_some, sequence_few}
use Rattle.compose_model.proofs.NodeLemmas.{same_is, same_from}
use Rattle.compose_model.proofs.Sorted.{rising_sorted}
use Rattle.compose_model.proofs.Tests.{both_at}
use Rattle.compose_read.proofs.Order.{Before, not_both, not_itself}
use Rattle.compose_tree.proofs.Steps.{leaf_means}
use Rattle.compose_lookup.specs.Lookup.{shortest_first, key_counts}

-- ---- what is found first in a rising list is the least

module _ (p : List ℕ → Bool) where
  found_passes : (xs : List (List ℕ)) (x : List ℕ) → find p xs ≡ Some x → p x ≡ true
  found_passes [] x h = cc
  found_passes (y ∷ xs) x h = go (p y) refl h (found_passes xs x)
    where
      go : (b : Bool) → p y ≡ b → cond b (Some y) (find p xs) ≡ Some x → (find p xs ≡ Some x → p x ≡ true) → p x ≡ true
      go true e h f = ap p (sym (same_Some y x h)) ∙ e
      go false e h f = f h

  -- what is found is there
  found_there : (xs : List (List ℕ)) (x : List ℕ) → find p xs ≡ Some x → list_any (same x) xs ≡ true
  found_there [] x h = cc
  found_there (y ∷ xs) x h = go (p y) h (found_there xs x)
    where
      go : (b : Bool) → cond b (Some y) (find p xs) ≡ Some x → (find p xs ≡ Some x → list_any (same x) xs ≡ true) → list_any (same x) (y ∷ xs) ≡ true
      go true h f = or_left (same x y) (list_any (same x) xs) (same_from x y (sym (same_Some y x h)))
      go false h f = or_right (same x y) (list_any (same x) xs) (f h)

  none_passes : (xs : List (List ℕ)) (x : List ℕ) → find p xs ≡ None → list_any (same x) xs ≡ true → p x ≡ true → ⊥
  none_passes [] x h i e = let clash : false ≡ true = i in cc
  none_passes (y ∷ xs) x h i e = go (p y) refl h (or_cases (same x y) (list_any (same x) xs) i) (λ g m. none_passes xs x g m e)
    where
      go : (b : Bool) → p y ≡ b → cond b (Some y) (find p xs) ≡ None → (same x y ≡ true) ⊎ (list_any (same x) xs ≡ true)
          → (find p xs ≡ None → list_any (same x) xs ≡ true → ⊥) → ⊥
      go true c g w f = cc
      go false c g (inl m) f = let clash : true ≡ false = sym e ∙ ap p (same_is x y m) ∙ c in cc
      go false c g (inr m) f = f g m

  found_least : (xs : List (List ℕ)) (x y : List ℕ) → IsStrictlySortedBy (slice_cmp nat_cmp) xs → find p xs ≡ Some x → list_any (same y) xs ≡ true → p y ≡ true → comes_before y x ≡ false
  unfolding IsStrictlySortedBy
  found_least [] x y s h i e = cc
  found_least (z ∷ xs) x y s h i e = elim (or_cases (same y z) (list_any (same y) xs) i) [
    | inl m ↦ (let is : y ≡ z = same_is y z m in
        let first : Some z ≡ Some x = sym (ap (λ b. cond b (Some z) (find p xs)) (sym (ap p is) ∙ e)) ∙ h in
        ap (λ t. comes_before y t) (sym (same_Some z x first) ∙ sym is) ∙ not_itself y)
    | inr m ↦ go (p z) h (λ f. found_least xs x y s.1 f m e) (not_later z y (below_of xs s.0 m))
  ]
    where
      not_later : (a b : List ℕ) → Before a b → comes_before b a ≡ false
      not_later a b h = by (slice_cmp nat_cmp b a) refl
        where
          by : (o : Ordering) → slice_cmp nat_cmp b a ≡ o → is_lt o ≡ false
          by Less e = absurd (not_both a b h e)
          by Equal e = refl
          by Greater e = refl

      below_of : (ys : List (List ℕ)) → AllByRecursion (λ t. slice_cmp nat_cmp z t ≡ Less) ys → list_any (same y) ys ≡ true → Before z y
      below_of [] a m = cc
      below_of (t ∷ ys) a m = elim (or_cases (same y t) (list_any (same y) ys) m) [
        | inl k ↦ ap (slice_cmp nat_cmp z) (same_is y t k) ∙ a.0
        | inr k ↦ below_of ys a.1 k
      ]

      go : (b : Bool) → cond b (Some z) (find p xs) ≡ Some x → (find p xs ≡ Some x → comes_before y x ≡ false) → comes_before y z ≡ false → comes_before y x ≡ false
      go true h f l = ap (comes_before y) (sym (same_Some z x h)) ∙ l
      go false h f l = f h

-- the first of those that pass both tests
first_of_both : (p q : List ℕ → Bool) (xs : List (List ℕ)) → slice_get (filter p (filter q xs)) 0 ≡ find (λ x. q x && p x) xs
first_of_both p q [] = refl
first_of_both p q (x ∷ xs) = by_q (q x) (first_of_both p q xs)
  where
    rest : List (List ℕ)
    rest = filter q xs

    by_p : (b : Bool) → slice_get (filter p rest) 0 ≡ find (λ y. q y && p y) xs → slice_get (cond b (x ∷ filter p rest) (filter p rest)) 0 ≡ cond b (Some x) (find (λ y. q y && p y) xs)
    by_p true others = refl
    by_p false others = others

    by_q : (b : Bool) → slice_get (filter p rest) 0 ≡ find (λ y. q y && p y) xs → slice_get (filter p (cond b (x ∷ rest) rest)) 0 ≡ cond (b && p x) (Some x) (find (λ y. q y && p y) xs)
    by_q true others = by_p (p x) others
    by_q false others = others

-- ---- the first part that is not empty

module _ (part : ℕ → List (List ℕ)) where
  record FirstPart (a c : ℕ) (s : List ℕ) : Type 0 where
    n : ℕ
    from : a ≤ n
    first : slice_get (part n) 0 ≡ Some s
    before : (m : ℕ) → a ≤ m → m < n → slice_get (part m) 0 ≡ None

  first_part : (c a : ℕ) (s : List ℕ) → slice_get (flat_map part (range_with_len a c)) 0 ≡ Some s → FirstPart a c s
  first_part zero a s h = cc
  first_part (suc c) a s h = go (part a) refl h (first_part c (a + 1) s)
    where
      go : (xs : List (List ℕ)) → part a ≡ xs → slice_get (xs ++ flat_map part (range_with_len (a + 1) c)) 0 ≡ Some s
          → (slice_get (flat_map part (range_with_len (a + 1) c)) 0 ≡ Some s → FirstPart (a + 1) c s) → FirstPart a (suc c) s
      go [] e g f = let later = f g in record {
        n = later.n;
        from = omega (arith, later.from);
        first = later.first;
        before = λ m low below. at m low later below (nat_lt a m) refl;
      }
        where
          at : (m : ℕ) → a ≤ m → (later : FirstPart (a + 1) c s) → m < later.n → (b : Bool) → nat_lt a m ≡ b → slice_get (part m) 0 ≡ None
          at m low later below false t = let is : m ≡ a = omega (arith, low, ltb-false a m t) in ap (λ k. slice_get (part k) 0) is ∙ ap (λ xs. slice_get xs 0) e
          at m low later below true t = later.before m (omega (arith, ltb-true a m t)) below
      go (x ∷ xs) e g f = record {
        n = a;
        from = omega arith;
        first = ap (λ ys. slice_get ys 0) e ∙ g;
        before = λ m low below. absurd (omega (arith, low, below));
      }

  no_part : (c a : ℕ) → slice_get (flat_map part (range_with_len a c)) 0 ≡ None → (m : ℕ) → a ≤ m → m < a + c → slice_get (part m) 0 ≡ None
  no_part zero a h m low below = absurd (omega (arith, low, below))
  no_part (suc c) a h m low below = go (part a) refl h (λ g. no_part c (a + 1) g m)
    where
      go : (xs : List (List ℕ)) → part a ≡ xs → slice_get (xs ++ flat_map part (range_with_len (a + 1) c)) 0 ≡ None
          → (slice_get (flat_map part (range_with_len (a + 1) c)) 0 ≡ None → a + 1 ≤ m → m < a + 1 + c → slice_get (part m) 0 ≡ None) → slice_get (part m) 0 ≡ None
      go [] e g f = by (nat_lt a m) refl
        where
          by : (b : Bool) → nat_lt a m ≡ b → slice_get (part m) 0 ≡ None
          by false t = let is : m ≡ a = omega (arith, low, ltb-false a m t) in ap (λ k. slice_get (part k) 0) is ∙ ap (λ xs. slice_get xs 0) e
          by true t = f g (omega (arith, ltb-true a m t)) (omega (arith, below))
      go (x ∷ xs) e g f = cc

-- ---- the first of the shortest

module _ (table : List Definition) (t_table : is_table table ≡ true) (p : List ℕ → Bool) where
  abbrev pub first_one : Option (List ℕ)
  first_one = slice_get (shortest_first (filter p (leaves table))) 0

  -- a sequence passes, no shorter one does, and none of its length that comes before it
  pub record IsFirst (s : List ℕ) : Type 0 where
    pub there : is_sequence table s ≡ true
    pub passes : p s ≡ true
    pub shortest : (t : List ℕ) → is_sequence table t ≡ true → p t ≡ true → length s ≤ length t
    pub first : (t : List ℕ) → is_sequence table t ≡ true → p t ≡ true → length t ≡ length s → comes_before t s ≡ false

  abbrev part : ℕ → List (List ℕ)
  part n = filter (λ s. nat_eq (length s) n) (filter p (leaves table))

  -- it passes, and has this number of keys
  abbrev fits : ℕ → List ℕ → Bool
  fits n s = p s && nat_eq (length s) n

  part_first : (n : ℕ) → slice_get (part n) 0 ≡ find (fits n) (leaves table)
  part_first n = first_of_both (λ s. nat_eq (length s) n) p (leaves table)

  rise : IsStrictlySortedBy (slice_cmp nat_cmp) (leaves table)
  rise = rising_sorted nat_list_cmp_total (map (λ (d : Definition). d.sequence) table)

  counted : (t : List ℕ) → is_sequence table t ≡ true → (1 ≤ length t) × (length t < 33)
  counted t h =
      let d = both_at is_definition (λ (d : Definition). same t d.sequence) table t_table h in
      let is : t ≡ d.0.sequence = same_is t d.0.sequence d.2 in
      let some = sequence_some d.0 d.1 in
      let few = sequence_few d.0 d.1 in
      (omega (arith, some, ap (λ s. length s) is), omega (arith, few, ap (λ s. length s) is))

  at_leaf : (t : List ℕ) → is_sequence table t ≡ true → list_any (same t) (leaves table) ≡ true
  at_leaf t h = leaf_means table t ∙ h

  fits_own : (t : List ℕ) → p t ≡ true → fits (length t) t ≡ true
  fits_own t h = and_from (p t) (nat_eq (length t) (length t)) h (eq-eqb (length t) (length t) refl)

  pub first_is_least : (s : List ℕ) → first_one ≡ Some s → IsFirst s
  unfolding key_counts
  first_is_least s h =
      let found = first_part part 32 1 s h in
      let at : find (fits found.n) (leaves table) ≡ Some s = sym (part_first found.n) ∙ found.first in
      let both = and_parts (p s) (nat_eq (length s) found.n) (found_passes (fits found.n) (leaves table) s at) in
      let count : length s ≡ found.n = eqb-true (length s) found.n both.1 in record {
        there = sym (leaf_means table s) ∙ found_there (fits found.n) (leaves table) s at;
        passes = both.0;
        shortest = λ t is g. at_most found count t is g (nat_less (length t) found.n);
        first = λ t is g as_long.
            found_least (fits found.n) (leaves table) s t rise at (at_leaf t is) (and_from (p t) (nat_eq (length t) found.n) g (eq-eqb (length t) found.n (as_long ∙ count)));
      }
    where
      nat_less : (m n : ℕ) → (m < n) ⊎ (n ≤ m)
      nat_less m n = by (nat_lt m n) refl
        where
          by : (b : Bool) → nat_lt m n ≡ b → (m < n) ⊎ (n ≤ m)
          by true t = inl (ltb-true m n t)
          by false t = inr (omega (arith, ltb-false m n t))

      at_most : (found : FirstPart part 1 32 s) → length s ≡ found.n → (t : List ℕ) → is_sequence table t ≡ true → p t ≡ true → (length t < found.n) ⊎ (found.n ≤ length t) → length s ≤ length t
      at_most found count t is g (inl less) =
          absurd (none_passes (fits (length t)) (leaves table) t (sym (part_first (length t)) ∙ found.before (length t) (counted t is).0 less) (at_leaf t is) (fits_own t g))
      at_most found count t is g (inr more) = omega (arith, count, more)

  pub none_first : first_one ≡ None → (t : List ℕ) → is_sequence table t ≡ true → p t ≡ true → ⊥
  unfolding key_counts
  none_first h t is g =
      let n = counted t is in none_passes (fits (length t)) (leaves table) t (sym (part_first (length t)) ∙ no_part part 32 1 h (length t) n.0 (omega (arith, n.1))) (at_leaf t is) (fits_own t g)
