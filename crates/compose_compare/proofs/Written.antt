-- What a pass wrote at the leaves that go on from a node by some of its edges.
use Rattle.std.proofs.Common.{◌≡◌, ◌≢◌, ℕ, zero, suc, ◌+◌, ◌<◌, ◌≤◌, List, [], ◌∷◌, ◌++◌, Bool, true, false, cond, ◌||◌, length, get_or, set, map, take, refl, sym, ◌∙◌, ap, ap₂, inl, inr, arith, eqb-true}
use Rattle.std.specs.Prelude.{◌==◌, slice_get, Some}
use Rattle.std.specs.List.{list_any}
use Rattle.std.proofs.lemmas.Bool.{or_cases, or_left, or_right, cases_Bool}
use Rattle.std.proofs.lemmas.List.{take_all, length-map, get_or-map, get_or-set_same, get_or-set_other}
use Rattle.std.proofs.lemmas.Option.{slice_get_within, get_or_from_slice_get}
use Rattle.std.proofs.lemmas.Cmp.{nat_list_cmp_total}
use Rattle.compose_model.specs.Table.{Definition, same, is_proper_prefix, is_sequence, is_extended}
use Rattle.compose_model.specs.Nodes.{leaves, has_edge, edges}
use Rattle.compose_model.proofs.Tests.{list_any-weaker}
use Rattle.compose_model.proofs.NodeLemmas.{same_is, same_from, edge_extends, edge_listed, found_at}
use Rattle.compose_model.proofs.Sorted.{rising_sorted}
use Rattle.compose_model.proofs.Lift.{not_extended}
use Rattle.compose_read.specs.Settle.{IsSettled}
use Rattle.compose_tree.specs.Targets.{leaf_number}
use Rattle.compose_tree.proofs.Steps.{leaf_means}
use Rattle.compose_fresh.proofs.Positions.{any_more}
use Rattle.compose_fresh.proofs.Used.{same_test}
use Rattle.compose_walk.proofs.NodeNumbers.{index_is, any_at}
use Rattle.compose_walk.proofs.Onward.{begins, first_key, goes_after}
use Rattle.compose_compare.specs.Passes.{IsWritten}
use Rattle.compose_compare.proofs.OneKind.{no_empty}

-- s goes on from p by one of these keys
abbrev pub is_through : List ℕ → List ℕ → List ℕ → Bool
is_through p ks s = list_any (λ k. begins (p ++ k ∷ []) s) ks

module _ {X : Type 0} (d : X) (value : List ℕ → X) (table : List Definition) (settled : IsSettled table) where
  -- the number of a leaf determines its sequence
  leaf_is : (s : List ℕ) → is_sequence table s ≡ true → get_or (leaves table) (leaf_number table s) [] ≡ s
  leaf_is s h = found_at s (leaves table) (leaf_means table s ∙ h)

  join : (a b : Bool) (x y : X) → cond b x (cond a x y) ≡ cond (a || b) x y
  join true true x y = refl
  join true false x y = refl
  join false true x y = refl
  join false false x y = refl

  module _ (p es : List ℕ) (i k : ℕ) (before middle after : List X) (at : slice_get es i ≡ Some k) (so_far : IsWritten d value table (is_through p (take i es)) before middle) where
    through_more : (s : List ℕ) → is_through p (take (i + 1) es) s ≡ is_through p (take i es) s || begins (p ++ k ∷ []) s
    through_more s =
        any_more (λ j. begins (p ++ j ∷ []) s) es i 0 (slice_get_within es i k at)
        ∙ ap (λ j. is_through p (take i es) s || begins (p ++ j ∷ []) s) (get_or_from_slice_get es i k 0 at)

    -- with what goes on from p by the key k
    more : ((s : List ℕ) → is_sequence table s ≡ true → get_or after (leaf_number table s) d ≡ cond (begins (p ++ k ∷ []) s) (value s) (get_or middle (leaf_number table s) d))
        → IsWritten d value table (is_through p (take (i + 1) es)) before after
    more next s h =
        next s h ∙ ap (cond (begins (p ++ k ∷ []) s) (value s)) (so_far s h)
        ∙ join (is_through p (take i es) s) (begins (p ++ k ∷ []) s) (value s) (get_or before (leaf_number table s) d)
        ∙ ap (λ b. cond b (value s) (get_or before (leaf_number table s) d)) (sym (through_more s))

    -- if the key leads to a node, its leaves are written
    pub node_written : is_extended table (p ++ k ∷ []) ≡ true → IsWritten d value table (is_proper_prefix (p ++ k ∷ [])) middle after
        → IsWritten d value table (is_through p (take (i + 1) es)) before after
    node_written x w = more (λ s h. w s h ∙ ap (λ b. cond b (value s) (get_or middle (leaf_number table s) d)) (sym (begins_longer s h)))
      where
        begins_longer : (s : List ℕ) → is_sequence table s ≡ true → begins (p ++ k ∷ []) s ≡ is_proper_prefix (p ++ k ∷ []) s
        begins_longer s h = elim (cases_Bool (same (p ++ k ∷ []) s)) [
          | inl e ↦ absurd (
              let clash : true ≡ false = sym x ∙ ap (is_extended table) (same_is (p ++ k ∷ []) s e) ∙ not_extended table s settled.prefix_free h in cc)
          | inr e ↦ ap (λ b. b || is_proper_prefix (p ++ k ∷ []) s) e
        ]

    -- if it leads to a leaf, that is written
    pub leaf_written : is_sequence table (p ++ k ∷ []) ≡ true → leaf_number table (p ++ k ∷ []) < length middle → after ≡ set middle (leaf_number table (p ++ k ∷ [])) (value (p ++ k ∷ []))
        → IsWritten d value table (is_through p (take (i + 1) es)) before after
    leaf_written x below w = more (λ s h. ap (λ xs. get_or xs (leaf_number table s) d) w ∙ here s h (same (p ++ k ∷ []) s) refl)
      where
        no_more : (s : List ℕ) → is_sequence table s ≡ true → is_proper_prefix (p ++ k ∷ []) s ≡ true → ⊥
        no_more s h e =
            let longer : is_extended table (p ++ k ∷ []) ≡ true = list_any-weaker (λ (e : Definition). same s e.sequence) (λ e. is_proper_prefix (p ++ k ∷ []) e.sequence)
            (λ x f. ap (is_proper_prefix (p ++ k ∷ [])) (sym (same_is s x.sequence f)) ∙ e) table h in
            let clash : true ≡ false = sym longer ∙ not_extended table (p ++ k ∷ []) settled.prefix_free x in cc

        here : (s : List ℕ) → is_sequence table s ≡ true → (b : Bool) → same (p ++ k ∷ []) s ≡ b
            → get_or (set middle (leaf_number table (p ++ k ∷ [])) (value (p ++ k ∷ []))) (leaf_number table s) d ≡ cond (begins (p ++ k ∷ []) s) (value s) (get_or middle (leaf_number table s) d)
        here s h true e =
            let is : p ++ k ∷ [] ≡ s = same_is (p ++ k ∷ []) s e in
            ap (λ q. get_or (set middle (leaf_number table (p ++ k ∷ [])) (value (p ++ k ∷ []))) (leaf_number table q) d) (sym is)
            ∙ get_or-set_same middle (leaf_number table (p ++ k ∷ [])) (value (p ++ k ∷ [])) d below ∙ ap value is
            ∙ ap (λ b. cond (b || is_proper_prefix (p ++ k ∷ []) s) (value s) (get_or middle (leaf_number table s) d)) (sym e)
        here s h false e =
            let apart : leaf_number table s ≢ leaf_number table (p ++ k ∷ []) = (λ n.
            (let is : s ≡ p ++ k ∷ [] = sym (leaf_is s h) ∙ ap (λ m. get_or (leaves table) m []) n ∙ leaf_is (p ++ k ∷ []) x in
            let clash : true ≡ false = sym (same_from (p ++ k ∷ []) s (sym is)) ∙ e in cc)) in
            get_or-set_other middle (leaf_number table (p ++ k ∷ [])) (leaf_number table s) (value (p ++ k ∷ [])) d apart
            ∙ elim (cases_Bool (is_proper_prefix (p ++ k ∷ []) s)) [
              | inl f ↦ absurd (no_more s h f)
              | inr f ↦ ap₂ (λ a b. cond (a || b) (value s) (get_or middle (leaf_number table s) d)) (sym e) (sym f)
            ]

  -- by all edges of p all that goes on from p is reached
  pub all_through : (p s : List ℕ) → is_sequence table s ≡ true → is_through p (edges table p) s ≡ is_proper_prefix p s
  all_through p s q = same_test (is_through p (edges table p) s) (is_proper_prefix p s) (some_by (edges table p))
      (λ h. (let k = first_key p s h in
      list_any-weaker (λ j. k.0 == j) (λ j. begins (p ++ j ∷ []) s) (λ j e. ap (λ i. begins (p ++ i ∷ []) s) (sym (eqb-true k.0 j e)) ∙ k.1) (edges table p)
      (edge_listed table p k.0 (edge_by k.0 k.1))))
    where
      some_by : (ks : List ℕ) → is_through p ks s ≡ true → is_proper_prefix p s ≡ true
      some_by [] h = cc
      some_by (k ∷ ks) h = elim (or_cases (begins (p ++ k ∷ []) s) (is_through p ks s) h) [ inl e ↦ goes_after p k s e | inr e ↦ some_by ks e ]

      edge_by : (k : ℕ) → begins (p ++ k ∷ []) s ≡ true → has_edge table p k ≡ true
      edge_by k h = edge_extends table p k ∙ elim (or_cases (same (p ++ k ∷ []) s) (is_proper_prefix (p ++ k ∷ []) s) h) [
        | inl e ↦ or_right (is_extended table (p ++ k ∷ [])) (is_sequence table (p ++ k ∷ [])) (ap (is_sequence table) (same_is (p ++ k ∷ []) s e) ∙ q)
        | inr e ↦ or_left (is_extended table (p ++ k ∷ [])) (is_sequence table (p ++ k ∷ [])) (list_any-weaker (λ (e : Definition). same s e.sequence) (λ e. is_proper_prefix (p ++ k ∷ []) e.sequence)
            (λ x f. ap (is_proper_prefix (p ++ k ∷ [])) (sym (same_is s x.sequence f)) ∙ e) table q)
      ]

  -- once each edge of a node was followed, every leaf whose sequence goes on from the node is
  -- written
  pub all_written : (p : List ℕ) (i : ℕ) (before after : List X) → length (edges table p) ≤ i → IsWritten d value table (is_through p (take i (edges table p))) before after
      → IsWritten d value table (is_proper_prefix p) before after
  all_written p i before after n w s h =
      w s h ∙ ap (λ ks. cond (is_through p ks s) (value s) (get_or before (leaf_number table s) d)) (take_all i (edges table p) n)
      ∙ ap (λ b. cond b (value s) (get_or before (leaf_number table s) d)) (all_through p s h)

  same_lists : (xs ys : List X) → length xs ≡ length ys → ((i : ℕ) → i < length xs → get_or xs i d ≡ get_or ys i d) → xs ≡ ys
  same_lists [] [] n f = refl
  same_lists [] (y ∷ ys) n f = absurd (omega arith)
  same_lists (x ∷ xs) [] n f = absurd (omega arith)
  same_lists (x ∷ xs) (y ∷ ys) n f = ap₂ (λ z zs. z ∷ zs) (f 0 (omega arith)) (same_lists xs ys (omega arith) (λ i h. f (suc i) (omega arith)))

  -- from the root on every leaf is written
  pub whole_table : (before after : List X) → length after ≡ length (leaves table) → IsWritten d value table (is_proper_prefix []) before after → after ≡ map value (leaves table)
  whole_table before after n w = same_lists after (map value (leaves table)) (n ∙ sym (length-map (leaves table) value)) each
    where
      each : (i : ℕ) → i < length after → get_or after i d ≡ get_or (map value (leaves table)) i d
      each i h = at (get_or (leaves table) i []) refl
        where
          below : i < length (leaves table)
          below = omega arith

          at : (s : List ℕ) → get_or (leaves table) i [] ≡ s → get_or after i d ≡ get_or (map value (leaves table)) i d
          at [] e = absurd (no_empty table settled.definitions (sym (leaf_means table []) ∙ ap (λ q. list_any (same q) (leaves table)) (sym e) ∙ any_at (leaves table) i below))
          at (k ∷ s) e =
              let number : leaf_number table (k ∷ s) ≡ i =
              ap (leaf_number table) (sym e) ∙ index_is (leaves table) i (rising_sorted nat_list_cmp_total (map (λ (e : Definition). e.sequence) table)) below in
              let sequence : is_sequence table (k ∷ s) ≡ true = sym (leaf_means table (k ∷ s)) ∙ ap (λ q. list_any (same q) (leaves table)) (sym e) ∙ any_at (leaves table) i below in
              ap (λ j. get_or after j d) (sym number) ∙ w (k ∷ s) sequence ∙ ap value (sym e) ∙ sym (get_or-map value (leaves table) i [] d below)
