-- The rows of a settled table spell its sequences.
use Rattle.std.proofs.Common.{◌≡◌, ℕ, zero, suc, ◌+◌, ◌≤◌, List, [], ◌∷◌, ◌++◌, Bool, true, false, not, ◌&&◌, ◌||◌, ◌⊎◌, length, map, refl, sym, ◌∙◌, ap, subst, arith, inl, inr, eqb-true, Less, nat_cmp, append_assoc, length-append}
use Rattle.std.specs.Prelude.{◌==◌}
use Rattle.std.specs.List.{list_any, flat_map, AllByRecursion}
use Rattle.std.specs.List.Sorted.{IsStrictlySortedBy}
use Rattle.std.specs.Cmp.Lexicographic.{slice_cmp}
use Rattle.std.specs.Ordering.{ordering_then}
use Rattle.std.proofs.lemmas.Bool.{or_from, cases_Bool}
use Rattle.std.proofs.lemmas.List.{get_or-map, append-nil}
use Rattle.compose_model.specs.Table.{Definition, same, is_sequence, is_extended, is_definition}
use Rattle.compose_model.specs.Nodes.{nodes, leaves, is_node, number_of, edges}
use Rattle.compose_model.proofs.Tests.{both_at, list_any-map, list_any-flat_map, list_any-same, list_any-and}
use Rattle.compose_model.proofs.NodeLemmas.{same_is, node_means, root_is_node, root_number, number_below, node_at_number, extended_is_node}
use Rattle.compose_model.proofs.Lift.{not_extended}
use Rattle.compose_model.proofs.SameTable.{one_rising, extended_from}
use Rattle.compose_read.specs.Settle.{IsSettled}
use Rattle.compose_tree.specs.declared.edge.Edge.{Edge}
use Rattle.compose_tree.specs.Rows.{NodeRow, where_to, edge_of, row_of, rows_of}
use Rattle.compose_tree.specs.Packed.{spelled, spelled_after}
use Rattle.compose_tree.proofs.Prefixes.{after_sorted, joined_sorted, prefix_of_longer}
use Rattle.compose_tree.proofs.OneMore.{edges_sorted, edge_is_listed, is_leaf, leaves_sorted, at_node, at_leaf, not_root}
use Rattle.compose_model.proofs.Definitions.{sequence_some}
use Rattle.compose_tree.proofs.Lookups.{node_few}
use Rattle.compose_tree.proofs.Adding.{leaves_are}

flat_map_of_map : {X Y Z : Type 0} (g : Y → List Z) (h : X → Y) (xs : List X) → flat_map g (map h xs) ≡ flat_map (λ x. g (h x)) xs
flat_map_of_map g h [] = refl
flat_map_of_map g h (x ∷ xs) = ap (λ zs. g (h x) ++ zs) (flat_map_of_map g h xs)

none_empty : (k : ℕ) (xs : List (List ℕ)) → list_any (same []) (map (λ w. k ∷ w) xs) ≡ false
none_empty k [] = refl
none_empty k (x ∷ xs) = none_empty k xs

no_group_empty : (g : ℕ → List (List ℕ)) (ks : List ℕ) → list_any (λ k. list_any (same []) (map (λ w. k ∷ w) (g k))) ks ≡ false
no_group_empty g [] = refl
no_group_empty g (k ∷ ks) = or_from (list_any (same []) (map (λ w. k ∷ w) (g k))) (list_any (λ k. list_any (same []) (map (λ w. k ∷ w) (g k))) ks) (none_empty k (g k)) (no_group_empty g ks)

-- a test of one keysym only
any_at : (k : ℕ) (g : ℕ → Bool) (ks : List ℕ) → list_any (λ j. k == j && g j) ks ≡ list_any (λ j. k == j) ks && g k
any_at k g [] = refl
any_at k g (j ∷ ks) = go (k == j) refl (any_at k g ks)
  where
    also : (b : Bool) (c : Bool) → b || (c && b) ≡ b
    also true c = refl
    also false true = refl
    also false false = refl

    go : (b : Bool) → (k == j) ≡ b → list_any (λ i. k == i && g i) ks ≡ list_any (λ i. k == i) ks && g k → (b && g j) || list_any (λ i. k == i && g i) ks ≡ (b || list_any (λ i. k == i) ks) && g k
    go true e later = ap (λ i. g i || list_any (λ i. k == i && g i) ks) (sym (eqb-true k j e)) ∙ ap (λ b. g k || b) later ∙ also (g k) (list_any (λ i. k == i) ks)
    go false e later = later

-- the lists that begin with k, grouped by it
in_group : (k : ℕ) (w : List ℕ) (g : ℕ → List (List ℕ)) (ks : List ℕ) → list_any (same (k ∷ w)) (flat_map (λ j. map (λ v. j ∷ v) (g j)) ks) ≡ list_any (λ j. k == j) ks && list_any (same w) (g k)
in_group k w g ks =
    list_any-flat_map (same (k ∷ w)) (λ j. map (λ v. j ∷ v) (g j)) ks
    ∙ list_any-same (λ j. list_any (same (k ∷ w)) (map (λ v. j ∷ v) (g j))) (λ j. k == j && list_any (same w) (g j))
    (λ j. list_any-map (same (k ∷ w)) (λ v. j ∷ v) (g j) ∙ list_any-and (k == j) (same w) (g j)) ks
    ∙ any_at k (λ j. list_any (same w) (g j)) ks

all_append : {X : Type 0} (P : X → Type 0) (xs ys : List X) → AllByRecursion P xs → AllByRecursion P ys → AllByRecursion P (xs ++ ys)
all_append P [] ys a b = b
all_append P (x ∷ xs) ys a b = (a.0, all_append P xs ys a.1 b)

all_after_key : (x : List ℕ) (k j : ℕ) (vs : List (List ℕ)) → nat_cmp k j ≡ Less → AllByRecursion (λ y. slice_cmp nat_cmp (k ∷ x) y ≡ Less) (map (λ v. j ∷ v) vs)
all_after_key x k j [] h = tt
all_after_key x k j (v ∷ vs) h = (ap (λ o. ordering_then o (slice_cmp nat_cmp x v)) h, all_after_key x k j vs h)

all_after_keys : (x : List ℕ) (k : ℕ) (g : ℕ → List (List ℕ)) (ks : List ℕ) → AllByRecursion (λ j. nat_cmp k j ≡ Less) ks
    → AllByRecursion (λ y. slice_cmp nat_cmp (k ∷ x) y ≡ Less) (flat_map (λ j. map (λ v. j ∷ v) (g j)) ks)
all_after_keys x k g [] a = tt
all_after_keys x k g (j ∷ ks) a =
    all_append (λ y. slice_cmp nat_cmp (k ∷ x) y ≡ Less) (map (λ v. j ∷ v) (g j)) (flat_map (λ j. map (λ v. j ∷ v) (g j)) ks) (all_after_key x k j (g j) a.0) (all_after_keys x k g ks a.1)

each_behind : (k : ℕ) (g : ℕ → List (List ℕ)) (ks : List ℕ) (xs : List (List ℕ)) → AllByRecursion (λ j. nat_cmp k j ≡ Less) ks
    → AllByRecursion (λ x. AllByRecursion (λ y. slice_cmp nat_cmp x y ≡ Less) (flat_map (λ j. map (λ v. j ∷ v) (g j)) ks)) (map (λ v. k ∷ v) xs)
each_behind k g ks [] a = tt
each_behind k g ks (x ∷ xs) a = (all_after_keys x k g ks a, each_behind k g ks xs a)

-- sorted groups after increasing keysyms are sorted
groups_sorted : (g : ℕ → List (List ℕ)) (ks : List ℕ) → IsStrictlySortedBy nat_cmp ks → ((k : ℕ) → IsStrictlySortedBy (slice_cmp nat_cmp) (g k))
    → IsStrictlySortedBy (slice_cmp nat_cmp) (flat_map (λ j. map (λ v. j ∷ v) (g j)) ks)
unfolding IsStrictlySortedBy
groups_sorted g [] s h = tt
groups_sorted g (k ∷ ks) s h =
    joined_sorted (slice_cmp nat_cmp) (map (λ v. k ∷ v) (g k)) (flat_map (λ j. map (λ v. j ∷ v) (g j)) ks) (after_sorted (k ∷ []) (g k) (h k)) (groups_sorted g ks s.1 h)
    (each_behind k g ks (g k) s.0)

nothing_sorted : IsStrictlySortedBy (slice_cmp nat_cmp) []
unfolding IsStrictlySortedBy
nothing_sorted = tt

one_list_sorted : (x : List ℕ) → IsStrictlySortedBy (slice_cmp nat_cmp) (x ∷ [])
unfolding IsStrictlySortedBy
one_list_sorted x = (tt, tt)

module _ (table : List Definition) (s : IsSettled table) where
  -- the lists that continue after the keysym k of a node
  pub behind : ℕ → List ℕ → ℕ → List (List ℕ)
  behind f p k = spelled_after (where_to table (p ++ k ∷ [])) (λ n. spelled (rows_of table) f n)

  -- the lists spelled from a node, edge by edge
  pub spelled_at : (f : ℕ) (p : List ℕ) → is_node table p ≡ true → spelled (rows_of table) (suc f) (number_of table p) ≡ flat_map (λ k. map (λ w. k ∷ w) (behind f p k)) (edges table p)
  unfolding behind
  spelled_at f p h =
      let g : Edge → List (List ℕ) = λ e. map (λ w. e.keysym ∷ w) (spelled_after e.target (λ n. spelled (rows_of table) f n)) in
      ap (λ (r : NodeRow). flat_map g r.edges)
      (get_or-map (row_of table) (nodes table) (number_of table p) [] (record { depth = 0; edges = [] }) (number_below table p h) ∙ ap (row_of table) (node_at_number table p h))
      ∙ flat_map_of_map g (edge_of table p) (edges table p)

  node_no_sequence : (q : List ℕ) → is_extended table q ≡ true → is_sequence table q ≡ false
  node_no_sequence q h = elim (cases_Bool (is_sequence table q)) [
    | inl e ↦ (let f : true ≡ false = sym h ∙ not_extended table q s.prefix_free e in cc)
    | inr e ↦ e
  ]

  pub node_after : (f : ℕ) (p : List ℕ) (k : ℕ) → is_node table (p ++ k ∷ []) ≡ true → behind f p k ≡ spelled (rows_of table) f (number_of table (p ++ k ∷ []))
  unfolding behind
  node_after f p k h = ap (λ t. spelled_after t (λ n. spelled (rows_of table) f n)) (at_node table (p ++ k ∷ []) h)

  pub leaf_after : (f : ℕ) (p : List ℕ) (k : ℕ) → is_node table (p ++ k ∷ []) ≡ false → behind f p k ≡ [] ∷ []
  unfolding behind
  leaf_after f p k h = ap (λ t. spelled_after t (λ n. spelled (rows_of table) f n)) (at_leaf table (p ++ k ∷ []) h)

  key_extends : (p : List ℕ) (k : ℕ) → is_node table (p ++ k ∷ []) ≡ true → is_extended table (p ++ k ∷ []) ≡ true
  key_extends p k h = ap (λ b. b || is_extended table (p ++ k ∷ [])) (sym (not_root p k)) ∙ sym (node_means table (p ++ k ∷ [])) ∙ h

  -- after a node, the spelled lists continue to a sequence
  along_node : (q w : List ℕ) (b : Bool) → is_extended table q ≡ true → b ≡ (not (same w []) && is_sequence table (q ++ w)) → b ≡ is_sequence table (q ++ w)
  along_node q [] b h e = e ∙ sym (ap (is_sequence table) (append-nil q) ∙ node_no_sequence q h)
  along_node q (i ∷ w) b h e = e

  -- after a leaf nothing more is spelled
  along_leaf : (q w : List ℕ) → is_node table q ≡ false → is_sequence table q && (same w [] || false) ≡ is_sequence table (q ++ w)
  along_leaf q [] h = and_true (is_sequence table q) ∙ ap (is_sequence table) (sym (append-nil q))
    where
      and_true : (b : Bool) → b && true ≡ b
      and_true true = refl
      and_true false = refl
  along_leaf q (i ∷ w) h = and_false (is_sequence table q) ∙ sym (none (cases_Bool (is_sequence table (q ++ i ∷ w))))
    where
      and_false : (b : Bool) → b && false ≡ false
      and_false true = refl
      and_false false = refl

      none : (is_sequence table (q ++ i ∷ w) ≡ true) ⊎ (is_sequence table (q ++ i ∷ w) ≡ false) → is_sequence table (q ++ i ∷ w) ≡ false
      none (inl e) = let f : true ≡ false = sym (extended_is_node table q (extended_from table q (q ++ i ∷ w) (prefix_of_longer q w i) e)) ∙ h in cc
      none (inr e) = e

  -- the lists that are spelled from p continue to a sequence, and all such lists are spelled
  pub spelled_means : (f : ℕ) (p w : List ℕ) → is_node table p ≡ true → 32 ≤ f + length p
      → list_any (same w) (spelled (rows_of table) f (number_of table p)) ≡ not (same w []) && is_sequence table (p ++ w)
  spelled_means zero p w h few = absurd (let m = node_few table p s.definitions h in omega arith)
  spelled_means (suc f) p [] h few =
      ap (list_any (same [])) (spelled_at f p h) ∙ list_any-flat_map (same []) (λ k. map (λ w. k ∷ w) (behind f p k)) (edges table p) ∙ no_group_empty (behind f p) (edges table p)
  spelled_means (suc f) p (k ∷ w) h few =
      let q = p ++ k ∷ [] in
      ap (list_any (same (k ∷ w))) (spelled_at f p h) ∙ in_group k w (behind f p) (edges table p) ∙ ap (λ b. b && list_any (same w) (behind f p k)) (edge_is_listed table p k)
      ∙ elim (cases_Bool (is_node table q)) [
        | inl e ↦ (let n : length q ≡ length p + 1 = length-append p (k ∷ []) in
            ap (λ b. (b || is_sequence table q) && list_any (same w) (behind f p k)) e ∙ ap (list_any (same w)) (node_after f p k e)
            ∙ along_node q w (list_any (same w) (spelled (rows_of table) f (number_of table q))) (key_extends p k e) (spelled_means f q w e (omega arith)))
        | inr e ↦ ap (λ b. (b || is_sequence table q) && list_any (same w) (behind f p k)) e ∙ ap (λ xs. is_sequence table q && list_any (same w) xs) (leaf_after f p k e) ∙ along_leaf q w e
      ]
      ∙ ap (is_sequence table) (append_assoc p (k ∷ []) w)

  spelled_sorted : (f : ℕ) (p : List ℕ) → is_node table p ≡ true → IsStrictlySortedBy (slice_cmp nat_cmp) (spelled (rows_of table) f (number_of table p))
  spelled_sorted zero p h = nothing_sorted
  spelled_sorted (suc f) p h =
      subst (IsStrictlySortedBy (slice_cmp nat_cmp)) (sym (spelled_at f p h)) (groups_sorted (behind f p) (edges table p) (edges_sorted table p) (λ k. group k (λ q e. spelled_sorted f q e)))
    where
      group : (k : ℕ) → ((q : List ℕ) → is_node table q ≡ true → IsStrictlySortedBy (slice_cmp nat_cmp) (spelled (rows_of table) f (number_of table q)))
          → IsStrictlySortedBy (slice_cmp nat_cmp) (behind f p k)
      group k later = elim (cases_Bool (is_node table (p ++ k ∷ []))) [
        | inl e ↦ subst (IsStrictlySortedBy (slice_cmp nat_cmp)) (sym (node_after f p k e)) (later (p ++ k ∷ []) e)
        | inr e ↦ subst (IsStrictlySortedBy (slice_cmp nat_cmp)) (sym (leaf_after f p k e)) (one_list_sorted [])
      ]

  never_empty : is_sequence table [] ≡ false
  never_empty = elim (cases_Bool (is_sequence table [])) [
    | inl e ↦ (let d = both_at is_definition (λ (d : Definition). same [] d.sequence) table s.definitions e in
        absurd (let n : length d.0.sequence ≡ 0 = ap length (sym (same_is [] d.0.sequence d.2)) in let some = sequence_some d.0 d.1 in omega arith))
    | inr e ↦ e
  ]

  any_sequence : (w : List ℕ) → not (same w []) && is_sequence table w ≡ is_sequence table w
  any_sequence [] = sym never_empty
  any_sequence (k ∷ w) = refl

  -- the lists that are spelled from the root are the sequences
  pub spelled_all : (f : ℕ) → 32 ≤ f → spelled (rows_of table) f 0 ≡ map (λ d. d.sequence) table
  spelled_all f few =
      ap (spelled (rows_of table) f) (sym (root_number table))
      ∙ one_rising (spelled (rows_of table) f (number_of table [])) (leaves table) (spelled_sorted f [] (root_is_node table)) (leaves_sorted table)
      (λ w. spelled_means f [] w (root_is_node table) (omega arith) ∙ any_sequence w ∙ sym (is_leaf table w))
      ∙ leaves_are table s.rise
