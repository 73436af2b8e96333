-- What one more sequence adds to the nodes, leaves and edges of a table whose sequences all come
-- before it.
use Rattle.std.proofs.Common.{◌≡◌, ℕ, ◌+◌, List, [], ◌∷◌, ◌++◌, Bool, true, false, cond, not, ◌&&◌, ◌||◌, ◌⊎◌, length, map, refl, sym, ◌∙◌, ap, arith, inl, inr, eqb-true, eq-eqb, Less, nat_cmp, one-add, append_assoc, add-zero}
use Rattle.std.specs.Prelude.{◌==◌}
use Rattle.std.specs.List.{list_any, flat_map, position_or_len, AllByRecursion}
use Rattle.std.specs.List.Sorted.{IsStrictlySortedBy}
use Rattle.std.specs.Cmp.{both_ways}
use Rattle.std.specs.Cmp.Lexicographic.{slice_cmp}
use Rattle.std.proofs.lemmas.Cmp.{nat_list_cmp_total, nat_cmp_total}
use Rattle.std.proofs.lemmas.Bool.{and_parts, or_cases, or_left, or_right, or_from, cases_Bool}
use Rattle.std.proofs.lemmas.List.Folds.{list_any-append}
use Rattle.std.proofs.lemmas.Map.Lookups.{exact_bytes}
use Rattle.std.proofs.lemmas.List.{append-nil}
use Rattle.std.proofs.lemmas.List.Kept.{IsStrictlySortedBy-filter}
use Rattle.compose_model.specs.Table.{Definition, same, is_proper_prefix, is_sequence, is_extended, is_prefix_free}
use Rattle.compose_model.specs.Nodes.{proper_prefixes, nodes, leaves, is_node, number_of, has_edge, keysyms, edges}
use Rattle.compose_model.proofs.Tests.{list_any-map, list_any-rising}
use Rattle.compose_model.proofs.NodeLemmas.{same_is, same_from, node_means, extended_is_node, edge_extends, edge_listed, listed_edge}
use Rattle.compose_model.proofs.Lift.{not_extended}
use Rattle.compose_model.proofs.Sorted.{nodes_sorted, rising_sorted}
use Rattle.compose_model.proofs.SameTable.{one_rising, extended_by}
use Rattle.compose_tree.proofs.Prefixes.{Before, or_false, before_longer, not_before_prefix, prefix_before, root_before, last_before, prefix_of_joined, prefix_of_longer, begins, begins_at, last_is, after_sorted, prefixes_sorted, joined_sorted, all_found, all_before_longer, all_found_keys, one_rising_keys}
use Rattle.compose_tree.specs.declared.table.Target.{Target}
use Rattle.compose_tree.specs.declared.table.Target.TheVariants.{Node, Leaf}
use Rattle.compose_tree.specs.Targets.{leaf_number}
use Rattle.compose_tree.specs.Rows.{where_to, next_target}

-- the definition d continues with these keysyms after p and k; every sequence of the table comes
-- before p and k, and each proper prefix of these is a node
pub record IsNext (table : List Definition) (d : Definition) (p : List ℕ) (k : ℕ) (rest : List ℕ) : Type 0 where
  pub sequence : d.sequence ≡ (p ++ k ∷ []) ++ rest
  pub below : (t : List ℕ) → is_sequence table t ≡ true → Before t (p ++ k ∷ [])
  pub opened : (x : List ℕ) → is_proper_prefix x (p ++ k ∷ []) ≡ true → is_node table x ≡ true
  pub free : is_prefix_free (table ++ d ∷ []) ≡ true

-- ---- the tests of the longer table

-- with one more definition, a list is extended if it was before, or if it is a proper prefix of the
-- new sequence
pub extended_more : (table : List Definition) (d : Definition) (x : List ℕ) → is_extended (table ++ d ∷ []) x ≡ is_extended table x || is_proper_prefix x d.sequence
extended_more table d x =
    list_any-append (λ (e : Definition). is_proper_prefix x e.sequence) table (d ∷ []) ∙ ap (λ b. is_extended table x || b) (or_false (is_proper_prefix x d.sequence))

-- with one more definition, a list is a sequence if it was before, or if it is the new one
pub sequence_more : (table : List Definition) (d : Definition) (x : List ℕ) → is_sequence (table ++ d ∷ []) x ≡ is_sequence table x || same x d.sequence
sequence_more table d x = list_any-append (λ (e : Definition). same x e.sequence) table (d ∷ []) ∙ ap (λ b. is_sequence table x || b) (or_false (same x d.sequence))

or_pairs : (a b c d : Bool) → (a || b) || (c || d) ≡ (a || c) || (b || d)
or_pairs true b c d = refl
or_pairs false true true d = refl
or_pairs false true false d = refl
or_pairs false false c d = refl

-- the edges of the longer table are those of the table, and those along the new sequence
pub edge_more : (table : List Definition) (d : Definition) (x : List ℕ) (j : ℕ) → has_edge (table ++ d ∷ []) x j ≡ has_edge table x j || begins (x ++ j ∷ []) d.sequence
edge_more table d x j =
    edge_extends (table ++ d ∷ []) x j
    ∙ ap (λ b. b || is_sequence (table ++ d ∷ []) (x ++ j ∷ [])) (extended_more table d (x ++ j ∷ []))
    ∙ ap (λ b. (is_extended table (x ++ j ∷ []) || is_proper_prefix (x ++ j ∷ []) d.sequence) || b) (sequence_more table d (x ++ j ∷ []))
    ∙ or_pairs (is_extended table (x ++ j ∷ [])) (is_proper_prefix (x ++ j ∷ []) d.sequence) (is_sequence table (x ++ j ∷ [])) (same (x ++ j ∷ []) d.sequence)
    ∙ ap (λ b. b || begins (x ++ j ∷ []) d.sequence) (sym (edge_extends table x j))

-- ---- edges as lists

-- an edge is listed exactly if there is one
pub edge_is_listed : (table : List Definition) (x : List ℕ) (j : ℕ) → list_any (λ i. j == i) (edges table x) ≡ has_edge table x j
edge_is_listed table x j = both_ways (list_any (λ i. j == i) (edges table x)) (has_edge table x j) (listed_edge table x j) (edge_listed table x j)

-- the edges of a node are strictly increasing
pub edges_sorted : (table : List Definition) (x : List ℕ) → IsStrictlySortedBy nat_cmp (edges table x)
edges_sorted table x = IsStrictlySortedBy-filter nat_cmp (has_edge table x) (keysyms table) (rising_sorted nat_cmp_total (flat_map (λ (e : Definition). e.sequence) table))

-- an increasing list of the keysyms that have edges is the list of edges
pub edges_are : (table : List Definition) (x ks : List ℕ) → IsStrictlySortedBy nat_cmp ks → ((j : ℕ) → has_edge table x j ≡ list_any (λ i. j == i) ks) → edges table x ≡ ks
edges_are table x ks s f = one_rising_keys (edges table x) ks (edges_sorted table x) s (λ j. edge_is_listed table x j ∙ f j)

-- p followed by a keysym is not empty
pub not_root : (x : List ℕ) (j : ℕ) → same (x ++ j ∷ []) [] ≡ false
not_root [] j = refl
not_root (i ∷ x) j = refl

-- ---- indexes in lists

-- the first index at which a test holds in the first list is that in both in a row
pub index_in_prefix : {X : Type 0} (q : X → Bool) (xs ys : List X) → list_any q xs ≡ true → position_or_len q (xs ++ ys) ≡ position_or_len q xs
index_in_prefix q [] ys h = cc
index_in_prefix q (x ∷ xs) ys h = go (q x) h (index_in_prefix q xs ys)
  where
    go : (b : Bool) → b || list_any q xs ≡ true → (list_any q xs ≡ true → position_or_len q (xs ++ ys) ≡ position_or_len q xs)
        → cond (not b) (1 + position_or_len q (xs ++ ys)) 0 ≡ cond (not b) (1 + position_or_len q xs) 0
    go true h f = refl
    go false h f = ap (λ n. 1 + n) (f h)

-- an index at which a test holds only in the second list comes after the first list
pub index_after : {X : Type 0} (q : X → Bool) (xs ys : List X) → list_any q xs ≡ false → position_or_len q (xs ++ ys) ≡ length xs + position_or_len q ys
index_after q [] ys h = omega arith
index_after q (x ∷ xs) ys h = go (q x) h (index_after q xs ys)
  where
    go : (b : Bool) → b || list_any q xs ≡ false → (list_any q xs ≡ false → position_or_len q (xs ++ ys) ≡ length xs + position_or_len q ys)
        → cond (not b) (1 + position_or_len q (xs ++ ys)) 0 ≡ length (x ∷ xs) + position_or_len q ys
    go true h f = cc
    go false h f = let e : position_or_len q (xs ++ ys) ≡ length xs + position_or_len q ys = f h in omega arith

same_after_prefix : (q x y : List ℕ) → same (q ++ x) (q ++ y) ≡ same x y
same_after_prefix [] x y = refl
same_after_prefix (k ∷ q) x y = rw (eq-eqb k k refl) (same_after_prefix q x y)

-- a common prefix doesn't change indexes
pub index_after_prefix : (q y : List ℕ) (zs : List (List ℕ)) → position_or_len (same (q ++ y)) (map (λ z. q ++ z) zs) ≡ position_or_len (same y) zs
index_after_prefix q y [] = refl
index_after_prefix q y (z ∷ zs) =
    ap (λ b. cond (not b) (1 + position_or_len (same (q ++ y)) (map (λ z. q ++ z) zs)) 0) (same_after_prefix q y z) ∙ ap (λ n. cond (not (same y z)) (1 + n) 0) (index_after_prefix q y zs)

-- the index of a proper prefix is its length
pub index_of_prefix : (y : List ℕ) (j : ℕ) (r : List ℕ) → position_or_len (same y) (proper_prefixes (y ++ j ∷ r)) ≡ length y
index_of_prefix [] j r = refl
index_of_prefix (i ∷ y) j r = ap (λ n. 1 + n) (index_after_prefix (i ∷ []) y (proper_prefixes (y ++ j ∷ r)) ∙ index_of_prefix y j r) ∙ one-add (length y)

-- ---- small facts

found : {X : Type 0} (q : X → Bool) (xs : List X) → list_any q xs ≡ true → (x : X) × (q x ≡ true)
found q [] h = cc
found q (x ∷ xs) h = elim (or_cases (q x) (list_any q xs) h) [ inl e ↦ (x, e) | inr e ↦ found q xs e ]

begins_longer : (q rest : List ℕ) → begins q (q ++ rest) ≡ true
begins_longer [] [] = refl
begins_longer [] (k ∷ rest) = refl
begins_longer (i ∷ q) rest = rw (eq-eqb i i refl) (begins_longer q rest)

one_sorted : (k : ℕ) → IsStrictlySortedBy nat_cmp (k ∷ [])
unfolding IsStrictlySortedBy
one_sorted k = (tt, tt)

list_sorted : (s : List ℕ) → IsStrictlySortedBy (slice_cmp nat_cmp) (s ∷ [])
unfolding IsStrictlySortedBy
list_sorted s = (tt, tt)

never_root : (p : List ℕ) (k : ℕ) (rest : List ℕ) → same ((p ++ k ∷ []) ++ rest) [] ≡ false
never_root [] k rest = refl
never_root (j ∷ p) k rest = refl

-- the leaves are the sequences
pub is_leaf : (table : List Definition) (v : List ℕ) → list_any (same v) (leaves table) ≡ is_sequence table v
is_leaf table v = list_any-rising (slice_cmp nat_cmp) exact_bytes (same v) (map (λ (d : Definition). d.sequence) table) ∙ list_any-map (same v) (λ (d : Definition). d.sequence) table

-- the leaves of a table are strictly increasing
pub leaves_sorted : (table : List Definition) → IsStrictlySortedBy (slice_cmp nat_cmp) (leaves table)
leaves_sorted table = rising_sorted nat_list_cmp_total (map (λ (d : Definition). d.sequence) table)

-- a node is the target with its number
pub at_node : (table : List Definition) (z : List ℕ) → is_node table z ≡ true → where_to table z ≡ Node (record { 0 = number_of table z })
at_node table z h = ap (λ b. cond {A = Target} b (Node (record { 0 = number_of table z })) (Leaf (record { 0 = leaf_number table z }))) h

-- a list that is no node is the target with the number of its leaf
pub at_leaf : (table : List Definition) (z : List ℕ) → is_node table z ≡ false → where_to table z ≡ Leaf (record { 0 = leaf_number table z })
at_leaf table z h = ap (λ b. cond {A = Target} b (Node (record { 0 = number_of table z })) (Leaf (record { 0 = leaf_number table z }))) h

-- ---- one more sequence

module _ (table : List Definition) (d : Definition) (p : List ℕ) (k : ℕ) (rest : List ℕ) (n : IsNext table d p k rest) where
  -- a node comes before the new sequence's first new index
  pub node_before : (x : List ℕ) → is_node table x ≡ true → Before x (p ++ k ∷ [])
  node_before x h = elim (or_cases (same x []) (is_extended table x) (sym (node_means table x) ∙ h)) [
    | inl e ↦ ap (λ y. slice_cmp nat_cmp y (p ++ k ∷ [])) (same_is x [] e) ∙ root_before p k
    | inr e ↦ (let s = extended_by table table x (λ s i. i) e in nat_list_cmp_total.trans x s.0 (p ++ k ∷ []) (prefix_before x s.0 s.1) (n.below s.0 s.2))
  ]

  -- the nodes that the new sequence opens
  abbrev pub new_nodes : List (List ℕ)
  new_nodes = map (λ y. (p ++ k ∷ []) ++ y) (proper_prefixes rest)

  or_known : (a b f c : Bool) → (f ≡ true → a || b ≡ true) → a || (b || (f || c)) ≡ (a || b) || c
  or_known true b f c h = refl
  or_known false true f c h = refl
  or_known false false true c h = let e : false ≡ true = h refl in cc
  or_known false false false c h = refl

  node_more : (x : List ℕ) → is_node (table ++ d ∷ []) x ≡ list_any (same x) (nodes table ++ new_nodes)
  node_more x =
      let q = p ++ k ∷ [] in
      node_means (table ++ d ∷ []) x
      ∙ ap (λ b. same x [] || b) (extended_more table d x ∙ ap (λ b. is_extended table x || b) (ap (is_proper_prefix x) n.sequence ∙ prefix_of_joined x q rest))
      ∙ or_known (same x []) (is_extended table x) (is_proper_prefix x q) (list_any (λ y. same x (q ++ y)) (proper_prefixes rest)) (λ h. sym (node_means table x) ∙ n.opened x h)
      ∙ ap (λ b. b || list_any (λ y. same x (q ++ y)) (proper_prefixes rest)) (sym (node_means table x))
      ∙ ap (λ b. is_node table x || b) (sym (list_any-map (same x) (λ y. q ++ y) (proper_prefixes rest)))
      ∙ sym (list_any-append (same x) (nodes table) new_nodes)

  -- the next sequence puts its new nodes after the others
  pub nodes_more : nodes (table ++ d ∷ []) ≡ nodes table ++ new_nodes
  nodes_more =
      one_rising (nodes (table ++ d ∷ [])) (nodes table ++ new_nodes) (nodes_sorted (table ++ d ∷ []))
      (joined_sorted (slice_cmp nat_cmp) (nodes table) new_nodes (nodes_sorted table) (after_sorted (p ++ k ∷ []) (proper_prefixes rest) (prefixes_sorted rest))
      (all_found (λ x. AllByRecursion (λ y. slice_cmp nat_cmp x y ≡ Less) new_nodes) (nodes table) (λ x h. all_before_longer x (p ++ k ∷ []) (proper_prefixes rest) (node_before x h))))
      node_more

  -- a list that continues the new edge is no node and no sequence of the table
  pub no_node : (y : List ℕ) → is_node table ((p ++ k ∷ []) ++ y) ≡ false
  no_node y = elim (cases_Bool (is_node table ((p ++ k ∷ []) ++ y))) [
    | inl e ↦ absurd (not_before_prefix (p ++ k ∷ []) y (node_before ((p ++ k ∷ []) ++ y) e))
    | inr e ↦ e
  ]

  -- no sequence of the table begins with the new edge after its parent
  pub no_sequence : (y : List ℕ) → is_sequence table ((p ++ k ∷ []) ++ y) ≡ false
  no_sequence y = elim (cases_Bool (is_sequence table ((p ++ k ∷ []) ++ y))) [
    | inl e ↦ absurd (not_before_prefix (p ++ k ∷ []) y (n.below ((p ++ k ∷ []) ++ y) e))
    | inr e ↦ e
  ]

  -- ---- numbers

  -- a node of the table stays a node, with its number
  pub node_stays : (x : List ℕ) → is_node table x ≡ true → is_node (table ++ d ∷ []) x ≡ true
  node_stays x h = node_more x ∙ list_any-append (same x) (nodes table) new_nodes ∙ or_left (is_node table x) (list_any (same x) new_nodes) h

  -- a node keeps its number if the next sequence comes after the others
  pub number_stays : (x : List ℕ) → is_node table x ≡ true → number_of (table ++ d ∷ []) x ≡ number_of table x
  number_stays x h = ap (position_or_len (same x)) nodes_more ∙ index_in_prefix (same x) (nodes table) new_nodes h

  -- a new node is numbered after the others
  pub new_number : (y : List ℕ) (j : ℕ) (r : List ℕ) → rest ≡ y ++ j ∷ r → number_of (table ++ d ∷ []) ((p ++ k ∷ []) ++ y) ≡ length (nodes table) + length y
  new_number y j r e =
      let q = p ++ k ∷ [] in
      ap (position_or_len (same (q ++ y))) nodes_more ∙ index_after (same (q ++ y)) (nodes table) new_nodes (no_node y)
      ∙ ap (λ i. length (nodes table) + i) (index_after_prefix q y (proper_prefixes rest) ∙ ap (λ z. position_or_len (same y) (proper_prefixes z)) e ∙ index_of_prefix y j r)

  -- each prefix from which the next sequence continues is a node
  pub new_node : (y : List ℕ) (j : ℕ) (r : List ℕ) → rest ≡ y ++ j ∷ r → is_node (table ++ d ∷ []) ((p ++ k ∷ []) ++ y) ≡ true
  new_node y j r e =
      let q = p ++ k ∷ [] in
      extended_is_node (table ++ d ∷ []) (q ++ y)
      (extended_more table d (q ++ y) ∙ or_right (is_extended table (q ++ y)) (is_proper_prefix (q ++ y) d.sequence)
      (ap (is_proper_prefix (q ++ y)) (n.sequence ∙ ap (λ z. q ++ z) e ∙ sym (append_assoc q y (j ∷ r))) ∙ prefix_of_longer (q ++ y) r j))

  -- a sequence of the longer table is no node of it
  pub sequence_no_node : (x : List ℕ) (j : ℕ) → is_sequence (table ++ d ∷ []) (x ++ j ∷ []) ≡ true → is_node (table ++ d ∷ []) (x ++ j ∷ []) ≡ false
  sequence_no_node x j h =
      node_means (table ++ d ∷ []) (x ++ j ∷ []) ∙ or_from (same (x ++ j ∷ []) []) (is_extended (table ++ d ∷ []) (x ++ j ∷ [])) (not_root x j) (not_extended (table ++ d ∷ []) (x ++ j ∷ []) n.free h)

  -- ---- edges

  key_before : (j : ℕ) → has_edge table p j ≡ true → nat_cmp j k ≡ Less
  key_before j h = last_before p j k (elim (or_cases (is_node table (p ++ j ∷ [])) (is_sequence table (p ++ j ∷ [])) h) [
    | inl e ↦ node_before (p ++ j ∷ []) e
    | inr e ↦ n.below (p ++ j ∷ []) e
  ])

  -- a list that continues a node of the table along the new sequence is there already, or is p and
  -- k
  edge_along : (x : List ℕ) (j : ℕ) → is_node table x ≡ true → begins (x ++ j ∷ []) d.sequence ≡ true → has_edge table x j || (same x p && j == k) ≡ true
  edge_along x j h e =
      let q = p ++ k ∷ [] in
      elim (or_cases (is_proper_prefix (x ++ j ∷ []) d.sequence) (same (x ++ j ∷ []) d.sequence) e) [
        | inl f ↦ elim
            (or_cases (is_proper_prefix (x ++ j ∷ []) q) (list_any (λ y. same (x ++ j ∷ []) (q ++ y)) (proper_prefixes rest))
            (sym (ap (is_proper_prefix (x ++ j ∷ [])) n.sequence ∙ prefix_of_joined (x ++ j ∷ []) q rest) ∙ f)) [
              | inl g ↦ or_left (has_edge table x j) (same x p && j == k) (or_left (is_node table (x ++ j ∷ [])) (is_sequence table (x ++ j ∷ [])) (n.opened (x ++ j ∷ []) g))
              | inr g ↦ (let y = found (λ y. same (x ++ j ∷ []) (q ++ y)) (proper_prefixes rest) g in
                  or_right (has_edge table x j) (same x p && j == k) (last_is x j p k y.0 (same_is (x ++ j ∷ []) (q ++ y.0) y.1) (node_before x h)))
            ]
        | inr f ↦ or_right (has_edge table x j) (same x p && j == k) (last_is x j p k rest (same_is (x ++ j ∷ []) d.sequence f ∙ n.sequence) (node_before x h))
      ]

  new_edge_begins : (x : List ℕ) (j : ℕ) → same x p && j == k ≡ true → begins (x ++ j ∷ []) d.sequence ≡ true
  new_edge_begins x j h =
      let both = and_parts (same x p) (j == k) h in
      let is : x ++ j ∷ [] ≡ p ++ k ∷ [] = ap (λ y. y ++ j ∷ []) (same_is x p both.0) ∙ ap (λ i. p ++ i ∷ []) (eqb-true j k both.1) in
      ap (λ y. begins y d.sequence) is ∙ ap (begins (p ++ k ∷ [])) n.sequence ∙ begins_longer (p ++ k ∷ []) rest

  -- one more edge at p, and none at the other nodes of the table
  edge_at_node : (x : List ℕ) (j : ℕ) → is_node table x ≡ true → has_edge (table ++ d ∷ []) x j ≡ has_edge table x j || (same x p && j == k)
  edge_at_node x j h = both_ways (has_edge (table ++ d ∷ []) x j) (has_edge table x j || (same x p && j == k))
      (λ e. elim (or_cases (has_edge table x j) (begins (x ++ j ∷ []) d.sequence) (sym (edge_more table d x j) ∙ e)) [
        | inl f ↦ or_left (has_edge table x j) (same x p && j == k) f
        | inr f ↦ edge_along x j h f
      ])
      (λ e. edge_more table d x j ∙ elim (or_cases (has_edge table x j) (same x p && j == k) e) [
        | inl f ↦ or_left (has_edge table x j) (begins (x ++ j ∷ []) d.sequence) f
        | inr f ↦ or_right (has_edge table x j) (begins (x ++ j ∷ []) d.sequence) (new_edge_begins x j f)
      ])

  -- there is a node at which the next sequence leaves the others
  pub parent_is_node : is_node table p ≡ true
  parent_is_node = n.opened p (prefix_of_longer p [] k)

  -- the next sequence puts one edge after the others at the node where it leaves them
  pub edges_at_parent : edges (table ++ d ∷ []) p ≡ edges table p ++ k ∷ []
  edges_at_parent =
      edges_are (table ++ d ∷ []) p (edges table p ++ k ∷ [])
      (joined_sorted nat_cmp (edges table p) (k ∷ []) (edges_sorted table p) (one_sorted k)
      (all_found_keys (λ j. AllByRecursion (λ i. nat_cmp j i ≡ Less) (k ∷ [])) (edges table p) (λ j h. (key_before j (listed_edge table p j h), tt))))
      (λ j. edge_at_node p j parent_is_node ∙ ap (λ b. has_edge table p j || (b && j == k)) (same_from p p refl)
      ∙ ap (λ b. b || j == k) (sym (edge_is_listed table p j)) ∙ ap (λ b. list_any (λ i. j == i) (edges table p) || b) (sym (or_false (j == k)))
      ∙ sym (list_any-append (λ i. j == i) (edges table p) (k ∷ [])))

  -- the next sequence leaves the edges of every other node unchanged
  pub edges_elsewhere : (x : List ℕ) → is_node table x ≡ true → same x p ≡ false → edges (table ++ d ∷ []) x ≡ edges table x
  edges_elsewhere x h other =
      edges_are (table ++ d ∷ []) x (edges table x) (edges_sorted table x)
      (λ j. edge_at_node x j h ∙ ap (λ b. has_edge table x j || (b && j == k)) other ∙ or_false (has_edge table x j) ∙ sym (edge_is_listed table x j))

  no_edge_after : (y : List ℕ) (j : ℕ) → has_edge table ((p ++ k ∷ []) ++ y) j ≡ false
  no_edge_after y j =
      let q = p ++ k ∷ [] in
      or_from (is_node table ((q ++ y) ++ j ∷ [])) (is_sequence table ((q ++ y) ++ j ∷ [])) (ap (is_node table) (append_assoc q y (j ∷ [])) ∙ no_node (y ++ j ∷ []))
      (ap (is_sequence table) (append_assoc q y (j ∷ [])) ∙ no_sequence (y ++ j ∷ []))

  -- a new node has one edge
  pub edges_at_new : (y : List ℕ) (j : ℕ) (r : List ℕ) → rest ≡ y ++ j ∷ r → edges (table ++ d ∷ []) ((p ++ k ∷ []) ++ y) ≡ j ∷ []
  edges_at_new y j r e =
      let q = p ++ k ∷ [] in
      edges_are (table ++ d ∷ []) (q ++ y) (j ∷ []) (one_sorted j)
      (λ i. edge_more table d (q ++ y) i ∙ ap (λ b. b || begins ((q ++ y) ++ i ∷ []) d.sequence) (no_edge_after y i)
      ∙ ap (begins ((q ++ y) ++ i ∷ [])) (n.sequence ∙ ap (λ z. q ++ z) e ∙ sym (append_assoc q y (j ∷ r))) ∙ begins_at (q ++ y) i j r ∙ sym (or_false (i == j)))

  -- ---- leaves

  -- the next sequence is the last leaf
  pub leaves_more : leaves (table ++ d ∷ []) ≡ leaves table ++ d.sequence ∷ []
  leaves_more =
      one_rising (leaves (table ++ d ∷ [])) (leaves table ++ d.sequence ∷ []) (leaves_sorted (table ++ d ∷ []))
      (joined_sorted (slice_cmp nat_cmp) (leaves table) (d.sequence ∷ []) (leaves_sorted table) (list_sorted d.sequence)
      (all_found (λ x. AllByRecursion (λ y. slice_cmp nat_cmp x y ≡ Less) (d.sequence ∷ [])) (leaves table)
      (λ x h. (ap (slice_cmp nat_cmp x) n.sequence ∙ before_longer x (p ++ k ∷ []) rest (n.below x (sym (is_leaf table x) ∙ h)), tt))))
      (λ x. is_leaf (table ++ d ∷ []) x ∙ sequence_more table d x ∙ ap (λ b. b || same x d.sequence) (sym (is_leaf table x))
      ∙ ap (λ b. list_any (same x) (leaves table) || b) (sym (or_false (same x d.sequence))) ∙ sym (list_any-append (same x) (leaves table) (d.sequence ∷ [])))

  -- ---- the targets of edges

  new_sequence : is_sequence (table ++ d ∷ []) d.sequence ≡ true
  new_sequence = sequence_more table d d.sequence ∙ or_right (is_sequence table d.sequence) (same d.sequence d.sequence) (same_from d.sequence d.sequence refl)

  -- an edge of the table keeps its target
  pub lead_stays : (x : List ℕ) (j : ℕ) → has_edge table x j ≡ true → where_to (table ++ d ∷ []) (x ++ j ∷ []) ≡ where_to table (x ++ j ∷ [])
  lead_stays x j h = go (cases_Bool (is_node table (x ++ j ∷ [])))
    where
      go : (is_node table (x ++ j ∷ []) ≡ true) ⊎ (is_node table (x ++ j ∷ []) ≡ false) → where_to (table ++ d ∷ []) (x ++ j ∷ []) ≡ where_to table (x ++ j ∷ [])
      go (inl e) = at_node (table ++ d ∷ []) (x ++ j ∷ []) (node_stays (x ++ j ∷ []) e) ∙ ap (λ i. Node (record { 0 = i })) (number_stays (x ++ j ∷ []) e) ∙ sym (at_node table (x ++ j ∷ []) e)
      go (inr e) =
          let z = x ++ j ∷ [] in
          let s : is_sequence table z ≡ true = ap (λ b. b || is_sequence table z) (sym e) ∙ h in
          at_leaf (table ++ d ∷ []) z (sequence_no_node x j (sequence_more table d z ∙ or_left (is_sequence table z) (same z d.sequence) s))
          ∙ ap (λ i. Leaf (record { 0 = i })) (ap (position_or_len (same z)) leaves_more ∙ index_in_prefix (same z) (leaves table) (d.sequence ∷ []) (is_leaf table z ∙ s)) ∙ sym (at_leaf table z e)

  -- the new sequence leads to the new nodes in turn, and then to the new leaf
  pub new_lead : (y r : List ℕ) → rest ≡ y ++ r → where_to (table ++ d ∷ []) ((p ++ k ∷ []) ++ y) ≡ next_target (length (nodes table) + length y) (length (leaves table)) r
  new_lead y [] e =
      let s : (p ++ k ∷ []) ++ y ≡ d.sequence = sym (n.sequence ∙ ap (λ z. (p ++ k ∷ []) ++ z) (e ∙ append-nil y)) in
      ap (where_to (table ++ d ∷ [])) s
      ∙ at_leaf (table ++ d ∷ []) d.sequence (node_means (table ++ d ∷ []) d.sequence ∙ or_from (same d.sequence []) (is_extended (table ++ d ∷ []) d.sequence)
      (ap (λ z. same z []) n.sequence ∙ never_root p k rest) (not_extended (table ++ d ∷ []) d.sequence n.free new_sequence))
      ∙ ap (λ i. Leaf (record { 0 = i })) (ap (position_or_len (same d.sequence)) leaves_more
      ∙ index_after (same d.sequence) (leaves table) (d.sequence ∷ []) (is_leaf table d.sequence ∙ ap (is_sequence table) n.sequence ∙ no_sequence rest)
      ∙ ap (λ b. length (leaves table) + cond (not b) (1 + 0) 0) (same_from d.sequence d.sequence refl) ∙ add-zero (length (leaves table)))
  new_lead y (j ∷ r) e = at_node (table ++ d ∷ []) ((p ++ k ∷ []) ++ y) (new_node y j r e) ∙ ap (λ i. Node (record { 0 = i })) (new_number y j r e)
