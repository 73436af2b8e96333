-- The leaf of the shortest sequence that goes on from a node, edge by edge.
use Rattle.std.proofs.Common.{◌≡◌, ℕ, zero, suc, ◌+◌, ◌<◌, ◌≤◌, List, [], ◌∷◌, ◌++◌, Bool, true, false, cond, ◌||◌, ◌&&◌, length, get_or, take, map, refl, sym, ◌∙◌, ap, subst, inl, inr, arith, nat_cmp, Less}
use Rattle.std.specs.Prelude.{nat_eq, nat_lt, Option, Some, None, slice_get}
use Rattle.std.specs.Option.{option_map}
use Rattle.std.specs.Ordering.{is_lt}
use Rattle.std.specs.List.{AllByRecursion}
use Rattle.std.specs.List.Sorted.{IsStrictlySortedBy}
use Rattle.std.specs.Cmp.Lexicographic.{slice_cmp}
use Rattle.std.proofs.lemmas.Bool.{or_cases, or_left, and_parts, cases_Bool, cases_lt, ltb-true, ltb-false, eq-eqb, eqb-true}
use Rattle.std.proofs.lemmas.Cmp.{nat_list_cmp_total}
use Rattle.std.proofs.lemmas.List.{take_all}
use Rattle.std.proofs.lemmas.Option.{slice_get_within, get_or_from_slice_get}
use Rattle.compose_model.specs.Table.{Definition, same, comes_before, is_proper_prefix, is_sequence, is_extended}
use Rattle.compose_model.specs.Nodes.{leaves, edges}
use Rattle.compose_model.proofs.Lift.{not_extended}
use Rattle.compose_model.proofs.NodeLemmas.{same_is, same_from, found_at}
use Rattle.compose_model.proofs.Sorted.{rising_sorted}
use Rattle.compose_model.proofs.Tests.{list_any-weaker}
use Rattle.compose_read.specs.Settle.{IsSettled}
use Rattle.compose_tree.specs.Targets.{leaf_number}
use Rattle.compose_tree.proofs.Steps.{leaf_means, leaf_below}
use Rattle.compose_fresh.proofs.Positions.{any_more}
use Rattle.compose_walk.proofs.Onward.{begins}
use Rattle.compose_compare.proofs.Written.{is_through, all_through}
use Rattle.compose_lookup.specs.Longer.{first_longer, is_sooner, sooner, IsShortest, FindsShortest}
use Rattle.compose_lookup.specs.TextIndex.{sequence_at}
use Rattle.compose_lookup.specs.declared.longer.FoundLeaf.{FoundLeaf}
use Rattle.compose_lookup.proofs.FirstOne.{first_is_least, none_first}

-- of two elements of a rising list the one with the lower index comes first
leaves_at : (xs : List (List ℕ)) (i j : ℕ) → IsStrictlySortedBy (slice_cmp nat_cmp) xs → i < j → j < length xs → slice_cmp nat_cmp (get_or xs i []) (get_or xs j []) ≡ Less
unfolding IsStrictlySortedBy
leaves_at [] i j s h below = absurd (omega arith)
leaves_at (x ∷ xs) i zero s h below = absurd (omega arith)
leaves_at (x ∷ xs) zero (suc j) s h below = at xs j s.0 (omega arith)
  where
    at : (ys : List (List ℕ)) (i : ℕ) → AllByRecursion (λ y. slice_cmp nat_cmp x y ≡ Less) ys → i < length ys → slice_cmp nat_cmp x (get_or ys i []) ≡ Less
    at [] i a h = absurd (omega arith)
    at (y ∷ ys) zero a h = a.0
    at (y ∷ ys) (suc i) a h = at ys i a.1 (omega arith)
leaves_at (x ∷ xs) (suc i) (suc j) s h below = leaves_at xs i j s.1 (omega arith) (omega arith)

module _ (table : List Definition) where
  -- the leaves that are reached, by another test
  pub same_reached : (p q : List ℕ → Bool) → ((s : List ℕ) → is_sequence table s ≡ true → p s ≡ q s) → (found : Option FoundLeaf) → FindsShortest table p found → FindsShortest table q found
  same_reached p q same None f = λ t is h. f t is (same t is ∙ h)
  same_reached p q same (Some found) f = record {
    sequence = f.sequence;
    there = f.there;
    passes = sym (same f.sequence f.there) ∙ f.passes;
    number = f.number;
    keys = f.keys;
    shortest = λ t is h. f.shortest t is (same t is ∙ h);
    first = λ t is h as_long. f.first t is (same t is ∙ h) as_long;
  }

  -- two leaves, the first of which is no later
  abbrev NoLater : FoundLeaf → FoundLeaf → Type 0
  NoLater one other = (one.keys ≤ other.keys) × (one.keys ≡ other.keys → one.leaf.0 ≤ other.leaf.0)

  is_no_later : (one other : FoundLeaf) → is_sooner one other ≡ true → NoLater one other
  is_no_later one other h = elim (or_cases (nat_lt one.keys other.keys) (nat_eq one.keys other.keys && nat_lt one.leaf.0 other.leaf.0) h) [
    | inl e ↦ (let less = ltb-true one.keys other.keys e in (omega arith, (λ same. absurd (omega (arith, less, same)))))
    | inr e ↦ (let both = and_parts (nat_eq one.keys other.keys) (nat_lt one.leaf.0 other.leaf.0) e in
        let same = eqb-true one.keys other.keys both.0 in let less = ltb-true one.leaf.0 other.leaf.0 both.1 in (omega (arith, same), (λ _. omega (arith, less))))
  ]

  is_later : (one other : FoundLeaf) → is_sooner one other ≡ false → NoLater other one
  is_later one other h =
      let parts = or_parts_false (nat_lt one.keys other.keys) (nat_eq one.keys other.keys && nat_lt one.leaf.0 other.leaf.0) h in
      let longer = ltb-false one.keys other.keys parts.0 in (
        omega (arith, longer),
        (λ same.
            (let not_less = second (nat_eq one.keys other.keys) (nat_lt one.leaf.0 other.leaf.0) parts.1 (eq-eqb one.keys other.keys (sym same)) in
            let later = ltb-false one.leaf.0 other.leaf.0 not_less in omega (arith, later))),
      )
    where
      or_parts_false : (a b : Bool) → a || b ≡ false → (a ≡ false) × (b ≡ false)
      or_parts_false true b e = cc
      or_parts_false false b e = (refl, e)

      second : (a b : Bool) → a && b ≡ false → a ≡ true → b ≡ false
      second true b e f = e
      second false b e f = cc

  -- of two leaves that are the shortest, each by a test, the one that is no later is the shortest
  -- by either
  winner : (p q : List ℕ → Bool) (one other : FoundLeaf) → IsShortest table p one → IsShortest table q other → NoLater one other → IsShortest table (λ s. p s || q s) one
  winner p q one other f g order = record {
    sequence = f.sequence;
    there = f.there;
    passes = or_left (p f.sequence) (q f.sequence) f.passes;
    number = f.number;
    keys = f.keys;
    shortest = λ t is h. elim (or_cases (p t) (q t) h) [ inl e ↦ f.shortest t is e | inr e ↦ (let long = g.shortest t is e in omega (arith, long, order.0)) ];
    first = λ t is h as_long. elim (or_cases (p t) (q t) h) [
      | inl e ↦ f.first t is e as_long
      | inr e ↦ (let long = g.shortest t is e in
          let same : one.keys ≡ other.keys = omega (arith, long, order.0, as_long) in
          let later = g.first t is e (as_long ∙ same) in let sooner = order.1 same in omega (arith, later, sooner))
    ];
  }

  or_swap : (a b : Bool) → a || b ≡ b || a
  or_swap true true = refl
  or_swap true false = refl
  or_swap false true = refl
  or_swap false false = refl

  or_none : (a : Bool) → a ≡ a || false
  or_none true = refl
  or_none false = refl

  -- of two that are found, each by a test, the sooner one is found by either
  pub both_found : (p q : List ℕ → Bool) (one other : Option FoundLeaf) → FindsShortest table p one → FindsShortest table q other → FindsShortest table (λ s. p s || q s) (sooner one other)
  both_found p q None None f g = λ t is h. elim (or_cases (p t) (q t) h) [ inl e ↦ f t is e | inr e ↦ g t is e ]
  both_found p q None (Some other) f g = same_reached q (λ s. p s || q s) (λ s is. sym (ap (λ b. b || q s) (unreached s is))) (Some other) g
    where
      unreached : (s : List ℕ) → is_sequence table s ≡ true → p s ≡ false
      unreached s is = elim (cases_Bool (p s)) [ inl e ↦ absurd (f s is e) | inr e ↦ e ]
  both_found p q (Some one) None f g = same_reached p (λ s. p s || q s) (λ s is. or_none (p s) ∙ sym (ap (λ b. p s || b) (unreached s is))) (Some one) f
    where
      unreached : (s : List ℕ) → is_sequence table s ≡ true → q s ≡ false
      unreached s is = elim (cases_Bool (q s)) [ inl e ↦ absurd (g s is e) | inr e ↦ e ]
  both_found p q (Some one) (Some other) f g = by (is_sooner other one) refl
    where
      by : (b : Bool) → is_sooner other one ≡ b → IsShortest table (λ s. p s || q s) (cond b other one)
      by true e = same_reached (λ s. q s || p s) (λ s. p s || q s) (λ s is. or_swap (q s) (p s)) (Some other) (winner q p other one g f (is_no_later other one e))
      by false e = winner p q one other f g (is_later other one e)

module _ (table : List Definition) (settled : IsSettled table) (p : List ℕ) where
  -- by no edge nothing is found
  pub by_none : FindsShortest table (is_through p []) None
  by_none t is h = cc

  module _ (es : List ℕ) (i k : ℕ) (at : slice_get es i ≡ Some k) where
    -- one edge more
    pub one_edge : (best found : Option FoundLeaf) → FindsShortest table (is_through p (take i es)) best → FindsShortest table (begins (p ++ k ∷ [])) found
        → FindsShortest table (is_through p (take (i + 1) es)) (sooner best found)
    one_edge best found f g =
        same_reached table (λ s. is_through p (take i es) s || begins (p ++ k ∷ []) s) (is_through p (take (i + 1) es)) (λ s is. sym (more s)) (sooner best found)
        (both_found table (is_through p (take i es)) (begins (p ++ k ∷ [])) best found f g)
      where
        more : (s : List ℕ) → is_through p (take (i + 1) es) s ≡ is_through p (take i es) s || begins (p ++ k ∷ []) s
        more s =
            any_more (λ j. begins (p ++ j ∷ []) s) es i 0 (slice_get_within es i k at)
            ∙ ap (λ j. is_through p (take i es) s || begins (p ++ j ∷ []) s) (get_or_from_slice_get es i k 0 at)

  -- what begins with a node goes on from it
  pub by_node : (q : List ℕ) → is_extended table q ≡ true → (found : Option FoundLeaf) → FindsShortest table (is_proper_prefix q) found → FindsShortest table (begins q) found
  by_node q x found f = same_reached table (is_proper_prefix q) (begins q) longer found f
    where
      longer : (s : List ℕ) → is_sequence table s ≡ true → is_proper_prefix q s ≡ begins q s
      longer s h = elim (cases_Bool (same q s)) [
        | inl e ↦ absurd (
            let clash : true ≡ false = sym x ∙ ap (is_extended table) (same_is q s e) ∙ not_extended table s settled.prefix_free h in cc)
        | inr e ↦ sym (ap (λ b. b || is_proper_prefix q s) e)
      ]

  -- what begins with a sequence is that sequence
  pub by_leaf : (q : List ℕ) → is_sequence table q ≡ true → (found : FoundLeaf) → leaf_number table q ≡ found.leaf.0 → length q ≡ found.keys → FindsShortest table (begins q) (Some found)
  by_leaf q x found number keys = record {
    sequence = q;
    there = x;
    passes = or_left (same q q) (is_proper_prefix q q) (same_from q q refl);
    number = number;
    keys = keys;
    shortest = λ t is h. (let long = ap (λ s. length s) (only t is h) in omega (arith, keys, long));
    first = λ t is h as_long. (let same_one = ap (leaf_number table) (only t is h) in omega (arith, number, same_one));
  }
    where
      only : (t : List ℕ) → is_sequence table t ≡ true → begins q t ≡ true → q ≡ t
      only t is h = elim (or_cases (same q t) (is_proper_prefix q t) h) [
        | inl e ↦ same_is q t e
        | inr e ↦ absurd (
            let longer : is_extended table q ≡ true = list_any-weaker (λ (d : Definition). same t d.sequence) (λ d. is_proper_prefix q d.sequence)
            (λ d f. ap (is_proper_prefix q) (sym (same_is t d.sequence f)) ∙ e) table is in
            let clash : true ≡ false = sym longer ∙ not_extended table q settled.prefix_free x in cc)
      ]

  -- by all edges what goes on from p is found
  pub by_all : (i : ℕ) → length (edges table p) ≤ i → (found : Option FoundLeaf) → FindsShortest table (is_through p (take i (edges table p))) found → FindsShortest table (is_proper_prefix p) found
  by_all i n found f =
      same_reached table (is_through p (take i (edges table p))) (is_proper_prefix p)
      (λ s is. ap (λ ks. is_through p ks s) (take_all i (edges table p) n) ∙ all_through 0 length table settled p s is) found f

  -- ---- the first of the shortest

  leaf_is : (s : List ℕ) → is_sequence table s ≡ true → get_or (leaves table) (leaf_number table s) [] ≡ s
  leaf_is s h = found_at s (leaves table) (leaf_means table s ∙ h)

  -- the one that is found
  pub first_is : (found : Option FoundLeaf) → FindsShortest table (is_proper_prefix p) found → option_map (λ (f : FoundLeaf). sequence_at table f.leaf) found ≡ first_longer table p
  first_is None f = by (first_longer table p) refl
    where
      by : (o : Option (List ℕ)) → first_longer table p ≡ o → (let none : Option (List ℕ) = None in none) ≡ first_longer table p
      by None e = sym e
      by (Some s) e = let it = first_is_least table settled.definitions (is_proper_prefix p) s e in absurd (f s it.there it.passes)
  first_is (Some found) f = by (first_longer table p) refl
    where
      by : (o : Option (List ℕ)) → first_longer table p ≡ o → Some (sequence_at table found.leaf) ≡ first_longer table p
      by None e = absurd (none_first table settled.definitions (is_proper_prefix p) e f.sequence f.there f.passes)
      by (Some s) e =
          let it = first_is_least table settled.definitions (is_proper_prefix p) s e in
          let long = f.shortest s it.there it.passes in
          let short = it.shortest f.sequence f.there f.passes in
          let keys = f.keys in
          let as_long : length s ≡ found.keys = omega (arith, long, short, keys) in
          let low = f.first s it.there it.passes as_long in
          let high = not_less f.sequence s f.there it.there (it.first f.sequence f.there f.passes (keys ∙ sym as_long)) in
          let number = f.number in
          let same_leaf : found.leaf.0 ≡ leaf_number table s = omega (arith, low, high, number) in
          ap (λ n. Some (get_or (leaves table) n [])) same_leaf ∙ ap Some (leaf_is s it.there) ∙ sym e
        where
          not_less : (a b : List ℕ) → is_sequence table a ≡ true → is_sequence table b ≡ true → comes_before a b ≡ false → leaf_number table b ≤ leaf_number table a
          not_less a b there_a there_b h = elim (cases_lt (leaf_number table a) (leaf_number table b)) [
            | inl low ↦ absurd (
                let before = leaves_at (leaves table) (leaf_number table a) (leaf_number table b) (rising_sorted nat_list_cmp_total (map (λ (d : Definition). d.sequence) table)) low (leaf_below table b there_b) in
                let is : slice_cmp nat_cmp a b ≡ Less = ap (λ x. slice_cmp nat_cmp x b) (sym (leaf_is a there_a)) ∙ ap (slice_cmp nat_cmp (get_or (leaves table) (leaf_number table a) [])) (sym (leaf_is b there_b)) ∙ before in
                let clash : true ≡ false = sym (ap is_lt is) ∙ h in cc)
            | inr high ↦ high
          ]

  -- and its leaf is one of the table's
  pub leaf_within : (found : FoundLeaf) → IsShortest table (is_proper_prefix p) found → found.leaf.0 < length (leaves table)
  leaf_within found f = subst (λ n. n < length (leaves table)) f.number (leaf_below table f.sequence f.there)
