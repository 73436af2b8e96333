-- What one more sequence adds to the rows of a table, and to the path to its last sequence.
use Rattle.std.proofs.Common.{◌≡◌, ℕ, suc, ◌+◌, List, [], ◌∷◌, ◌++◌, Bool, true, false, cond, not, ◌||◌, length, map, set, take, refl, sym, ◌∙◌, ap, arith, inl, inr, Less, nat_cmp, one-add, append_assoc, length-append, add-zero}
use Rattle.std.specs.List.{list_any, position_or_len, AllByRecursion}
use Rattle.std.specs.List.Sorted.{IsStrictlySortedBy}
use Rattle.std.specs.Cmp.Lexicographic.{slice_cmp}
use Rattle.std.proofs.lemmas.Bool.{or_left, or_right, cases_Bool}
use Rattle.std.proofs.lemmas.List.{append-nil, map-append, length-map, get_or-map}
use Rattle.compose_model.specs.Table.{Definition, same}
use Rattle.compose_model.specs.Nodes.{proper_prefixes, nodes, leaves, is_node, number_of, edges}
use Rattle.compose_model.proofs.NodeLemmas.{same_is, same_from, listed_edge, number_below, node_at_number}
use Rattle.compose_model.proofs.Sorted.{nodes_sorted}
use Rattle.compose_tree.specs.declared.edge.Edge.{Edge}
use Rattle.compose_tree.specs.declared.table.Target.{Target}
use Rattle.compose_tree.specs.Rows.{NodeRow, where_to, edge_of, row_of, rows_of, row_at, next_target, new_rows, with_edge, path_of, last_sequence, counted}
use Rattle.compose_tree.proofs.Prefixes.{not_before_itself, all_found, all_found_keys, prefixes_are}
use Rattle.compose_tree.proofs.OneMore.{IsNext, nodes_more, new_nodes, number_stays, new_number, parent_is_node, edges_at_parent, edges_elsewhere, edges_at_new, lead_stays, new_lead}

-- ---- maps

map_on : {X Y : Type 0} (f g : X → Y) (xs : List X) → AllByRecursion (λ x. f x ≡ g x) xs → map f xs ≡ map g xs
map_on f g [] a = refl
map_on f g (x ∷ xs) a = λ i. a.0 i ∷ map_on f g xs a.1 i

-- mapping twice is mapping once by both functions
pub map_of_map : {X Y Z : Type 0} (f : Y → Z) (g : X → Y) (xs : List X) → map f (map g xs) ≡ map (λ x. f (g x)) xs
map_of_map f g [] = refl
map_of_map f g (x ∷ xs) = ap (λ zs. f (g x) ∷ zs) (map_of_map f g xs)

map_same : {X Y : Type 0} (f g : X → Y) → ((x : X) → f x ≡ g x) → (xs : List X) → map f xs ≡ map g xs
map_same f g h [] = refl
map_same f g h (x ∷ xs) = λ i. h x i ∷ map_same f g h xs i

map_itself : {X : Type 0} (f : X → X) → ((x : X) → f x ≡ x) → (xs : List X) → xs ≡ map f xs
map_itself f h [] = refl
map_itself f h (x ∷ xs) = λ i. sym (h x) i ∷ map_itself f h xs i

prefix_count : (s : List ℕ) → length (proper_prefixes s) ≡ length s
prefix_count [] = refl
prefix_count (k ∷ s) = ap suc (length-map (proper_prefixes s) (λ p. k ∷ p) ∙ prefix_count s)

prefixes_joined : (q rest : List ℕ) → proper_prefixes (q ++ rest) ≡ proper_prefixes q ++ map (λ y. q ++ y) (proper_prefixes rest)
prefixes_joined [] rest = map_itself (λ y. y) (λ y. refl) (proper_prefixes rest)
prefixes_joined (k ∷ q) rest =
    ap (λ xs. [] ∷ xs) (ap (map (λ p. k ∷ p)) (prefixes_joined q rest) ∙ map-append (λ p. k ∷ p) (proper_prefixes q) (map (λ y. q ++ y) (proper_prefixes rest))
    ∙ ap (λ xs. map (λ p. k ∷ p) (proper_prefixes q) ++ xs) (map_of_map (λ p. k ∷ p) (λ y. q ++ y) (proper_prefixes rest)))

path_there : (table : List Definition) (d : Definition) → path_of (table ++ d ∷ []) ≡ map (number_of (table ++ d ∷ [])) (proper_prefixes (last_sequence (table ++ d ∷ [])))
path_there [] d = refl
path_there (c ∷ table) d = refl

-- the last sequence of a table with one more definition is that of the definition
pub last_sequence_more : (table : List Definition) (d : Definition) → last_sequence (table ++ d ∷ []) ≡ d.sequence
last_sequence_more [] d = refl
last_sequence_more (c ∷ []) d = refl
last_sequence_more (c ∷ e ∷ table) d = last_sequence_more (e ∷ table) d

-- along a sorted list, maps that agree except at p differ at one index
changed_at : {Y : Type 0} (f g : List ℕ → Y) (p : List ℕ) (xs : List (List ℕ)) → IsStrictlySortedBy (slice_cmp nat_cmp) xs → ((x : List ℕ) → list_any (same x) xs ≡ true → same x p ≡ false → g x ≡ f x)
    → list_any (same p) xs ≡ true → map g xs ≡ set (map f xs) (position_or_len (same p) xs) (g p)
unfolding IsStrictlySortedBy
changed_at f g p [] s h found = cc
changed_at {Y = Y} f g p (x ∷ xs) s h found = go (same p x) refl found (changed_at f g p xs s.1 (λ y m. h y (or_right (same y x) (list_any (same y) xs) m)))
  where
    others : (zs : List (List ℕ)) → AllByRecursion (λ y. slice_cmp nat_cmp x y ≡ Less) zs → ((y : List ℕ) → list_any (same y) zs ≡ true → same y p ≡ false → g y ≡ f y) → x ≡ p → map g zs ≡ map f zs
    others [] a k e = refl
    others (z ∷ zs) a k e =
        ap (λ y. y ∷ map g zs) (k z (or_left (same z z) (list_any (same z) zs) (same_from z z refl)) (apart z a.0 e))
        ∙ ap (λ ys. f z ∷ ys) (others zs a.1 (λ y m. k y (or_right (same y z) (list_any (same y) zs) m)) e)
      where
        apart : (z : List ℕ) → slice_cmp nat_cmp x z ≡ Less → x ≡ p → same z p ≡ false
        apart z a e = elim (cases_Bool (same z p)) [
          | inl d ↦ absurd (not_before_itself x z (e ∙ sym (same_is z p d)) a)
          | inr d ↦ d
        ]

    go : (b : Bool) → same p x ≡ b → b || list_any (same p) xs ≡ true → (list_any (same p) xs ≡ true → map g xs ≡ set (map f xs) (position_or_len (same p) xs) (g p))
        → map g (x ∷ xs) ≡ set (map f (x ∷ xs)) (cond (not b) (1 + position_or_len (same p) xs) 0) (g p)
    go true e m later = ap (λ y. g y ∷ map g xs) (sym (same_is p x e)) ∙ ap (λ ys. g p ∷ ys) (others xs s.0 (λ y m. h y (or_right (same y x) (list_any (same y) xs) m)) (sym (same_is p x e)))
    go false e m later = rw one-add (ap (λ y. y ∷ map g xs) (h x (or_left (same x x) (list_any (same x) xs) (same_from x x refl)) (flipped x e)) ∙ ap (λ ys. f x ∷ ys) (later m))
      where
        flipped : (x : List ℕ) → same p x ≡ false → same x p ≡ false
        flipped x e = elim (cases_Bool (same x p)) [
          | inl d ↦ (let f : true ≡ false = sym (same_from p x (sym (same_is x p d))) ∙ e in cc)
          | inr d ↦ d
        ]

module _ (table : List Definition) (d : Definition) (p : List ℕ) (k : ℕ) (rest : List ℕ) (n : IsNext table d p k rest) where
  -- the edges of the table keep their targets
  leads_stay : (x : List ℕ) → map (edge_of (table ++ d ∷ []) x) (edges table x) ≡ map (edge_of table x) (edges table x)
  leads_stay x = map_on (edge_of (table ++ d ∷ []) x) (edge_of table x) (edges table x)
      (all_found_keys (λ j. edge_of (table ++ d ∷ []) x j ≡ edge_of table x j) (edges table x) (λ j h. with_target j (lead_stays table d p k rest n x j (listed_edge table x j h))))
    where
      with_target : (j : ℕ) {s t : Target} → s ≡ t → ◌≡◌ {A = Edge} (record { keysym = j; target = s }) (record { keysym = j; target = t })
      with_target j e = λ i. record { keysym = j; target = e i }

  with_edges : (m : ℕ) (es fs : List Edge) → es ≡ fs → ◌≡◌ {A = NodeRow} (record { depth = m; edges = es }) (record { depth = m; edges = fs })
  with_edges m es fs e = λ i. record { depth = m; edges = e i }

  row_stays : (x : List ℕ) → is_node table x ≡ true → same x p ≡ false → row_of (table ++ d ∷ []) x ≡ row_of table x
  row_stays x h other = with_edges (length x) (map (edge_of (table ++ d ∷ []) x) (edges (table ++ d ∷ []) x)) (map (edge_of table x) (edges table x))
      (ap (map (edge_of (table ++ d ∷ []) x)) (edges_elsewhere table d p k rest n x h other) ∙ leads_stay x)

  -- the target of the new edge of p
  first_lead : where_to (table ++ d ∷ []) (p ++ k ∷ []) ≡ next_target (length (nodes table)) (length (leaves table)) rest
  first_lead =
      ap (where_to (table ++ d ∷ [])) (sym (append-nil (p ++ k ∷ []))) ∙ new_lead table d p k rest n [] rest refl
      ∙ ap (λ i. next_target i (length (leaves table)) rest) (add-zero (length (nodes table)))

  parent_row : row_of (table ++ d ∷ []) p
      ≡ record { depth = length p; edges = map (edge_of table p) (edges table p) ++ record { keysym = k; target = next_target (length (nodes table)) (length (leaves table)) rest } ∷ [] }
  parent_row =
      with_edges (length p) (map (edge_of (table ++ d ∷ []) p) (edges (table ++ d ∷ []) p))
      (map (edge_of table p) (edges table p) ++ record { keysym = k; target = next_target (length (nodes table)) (length (leaves table)) rest } ∷ [])
      (ap (map (edge_of (table ++ d ∷ []) p)) (edges_at_parent table d p k rest n) ∙ map-append (edge_of (table ++ d ∷ []) p) (edges table p) (k ∷ [])
      ∙ ap (λ es. es ++ edge_of (table ++ d ∷ []) p k ∷ []) (leads_stay p)
      ∙ ap (λ t. map (edge_of table p) (edges table p) ++ record { keysym = k; target = t } ∷ []) first_lead)

  -- the row of a new node, y after p and k
  new_row : (y : List ℕ) (j : ℕ) (r : List ℕ) (i m : ℕ) → rest ≡ y ++ j ∷ r → i ≡ length (nodes table) + length y → m ≡ length (p ++ k ∷ []) + length y
      → row_of (table ++ d ∷ []) ((p ++ k ∷ []) ++ y) ≡ record { depth = m; edges = record { keysym = j; target = next_target (1 + i) (length (leaves table)) r } ∷ [] }
  new_row y j r i m e at deep =
      let q = p ++ k ∷ [] in
      let more : length (y ++ j ∷ []) ≡ length y + 1 = length-append y (j ∷ []) in
      let number : length (nodes table) + length (y ++ j ∷ []) ≡ 1 + i = omega arith in
      let depth : length (q ++ y) ≡ m = length-append q y ∙ sym deep in
      let lead : where_to (table ++ d ∷ []) ((q ++ y) ++ j ∷ []) ≡ next_target (1 + i) (length (leaves table)) r =
      ap (where_to (table ++ d ∷ [])) (append_assoc q y (j ∷ [])) ∙ new_lead table d p k rest n (y ++ j ∷ []) r (e ∙ sym (append_assoc y (j ∷ []) r))
      ∙ ap (λ x. next_target x (length (leaves table)) r) number in
      let one : map (edge_of (table ++ d ∷ []) (q ++ y)) (edges (table ++ d ∷ []) (q ++ y)) ≡ record { keysym = j; target = next_target (1 + i) (length (leaves table)) r } ∷ [] =
      ap (map (edge_of (table ++ d ∷ []) (q ++ y))) (edges_at_new table d p k rest n y j r e) ∙ ap (λ t. record { keysym = j; target = t } ∷ []) lead in
      λ t. record { depth = depth t; edges = one t }

  -- the rows of the nodes that the sequence opens, from y on
  rows_from : (y r : List ℕ) (i m : ℕ) → rest ≡ y ++ r → i ≡ length (nodes table) + length y → m ≡ length (p ++ k ∷ []) + length y
      → map (λ z. row_of (table ++ d ∷ []) ((p ++ k ∷ []) ++ (y ++ z))) (proper_prefixes r) ≡ new_rows i (length (leaves table)) m r
  rows_from y [] i m e at deep = refl
  rows_from y (j ∷ r) i m e at deep =
      let q = p ++ k ∷ [] in
      let more : length (y ++ j ∷ []) ≡ length y + 1 = length-append y (j ∷ []) in
      let head = ap (λ z. row_of (table ++ d ∷ []) (q ++ z)) (append-nil y) ∙ new_row y j r i m e at deep in
      let tail = map_of_map (λ z. row_of (table ++ d ∷ []) (q ++ (y ++ z))) (λ z. j ∷ z) (proper_prefixes r)
      ∙ map_same (λ z. row_of (table ++ d ∷ []) (q ++ (y ++ j ∷ z))) (λ z. row_of (table ++ d ∷ []) (q ++ ((y ++ j ∷ []) ++ z)))
      (λ z. ap (λ x. row_of (table ++ d ∷ []) (q ++ x)) (sym (append_assoc y (j ∷ []) z))) (proper_prefixes r)
      ∙ rows_from (y ++ j ∷ []) r (1 + i) (1 + m) (e ∙ sym (append_assoc y (j ∷ []) r)) (omega arith) (omega arith) in
      ap (λ row. row ∷ map (λ z. row_of (table ++ d ∷ []) (q ++ (y ++ z))) (map (λ z. j ∷ z) (proper_prefixes r))) head
      ∙ ap (λ rows. record { depth = m; edges = record { keysym = j; target = next_target (1 + i) (length (leaves table)) r } ∷ [] } ∷ rows) tail

  parent_row_at : row_at (rows_of table) (number_of table p) ≡ row_of table p
  parent_row_at = get_or-map (row_of table) (nodes table) (number_of table p) [] (record { depth = 0; edges = [] }) (number_below table p (parent_is_node table d p k rest n))
      ∙ ap (row_of table) (node_at_number table p (parent_is_node table d p k rest n))

  -- one more edge at p, and the new nodes after the others
  pub rows_more : rows_of (table ++ d ∷ [])
      ≡ with_edge (rows_of table) (number_of table p) (record { keysym = k; target = next_target (length (nodes table)) (length (leaves table)) rest })
      ++ new_rows (length (nodes table)) (length (leaves table)) (length (p ++ k ∷ [])) rest
  rows_more =
      let row' = row_of (table ++ d ∷ []) in
      let edge : Edge = record { keysym = k; target = next_target (length (nodes table)) (length (leaves table)) rest } in
      ap (map row') (nodes_more table d p k rest n) ∙ map-append row' (nodes table) (new_nodes table d p k rest n)
      ∙ ap (λ rows. rows ++ map row' (new_nodes table d p k rest n))
      (changed_at (row_of table) row' p (nodes table) (nodes_sorted table) row_stays (parent_is_node table d p k rest n)
      ∙ ap (set (rows_of table) (number_of table p)) (parent_row ∙ ap (λ (r : NodeRow). let new : NodeRow = record { depth = r.depth; edges = r.edges ++ edge ∷ [] } in new) (sym parent_row_at)))
      ∙ ap (λ rows. with_edge (rows_of table) (number_of table p) edge ++ rows)
      (map_of_map row' (λ y. (p ++ k ∷ []) ++ y) (proper_prefixes rest)
      ∙ rows_from [] rest (length (nodes table)) (length (p ++ k ∷ [])) refl (sym (add-zero (length (nodes table)))) (sym (add-zero (length (p ++ k ∷ [])))))

  -- the next sequence adds one node for each of its keysyms after the new edge
  pub more_nodes : length (nodes (table ++ d ∷ [])) ≡ length (nodes table) + length rest
  more_nodes =
      ap length (nodes_more table d p k rest n) ∙ length-append (nodes table) (new_nodes table d p k rest n)
      ∙ ap (λ i. length (nodes table) + i) (length-map (proper_prefixes rest) (λ y. (p ++ k ∷ []) ++ y) ∙ prefix_count rest)

  -- ---- the path

  numbers_from : (y r : List ℕ) (i : ℕ) → rest ≡ y ++ r → i ≡ length (nodes table) + length y
      → map (λ z. number_of (table ++ d ∷ []) ((p ++ k ∷ []) ++ (y ++ z))) (proper_prefixes r) ≡ counted i r
  numbers_from y [] i e at = refl
  numbers_from y (j ∷ r) i e at =
      let q = p ++ k ∷ [] in
      let more : length (y ++ j ∷ []) ≡ length y + 1 = length-append y (j ∷ []) in
      let head = ap (λ z. number_of (table ++ d ∷ []) (q ++ z)) (append-nil y) ∙ new_number table d p k rest n y j r e ∙ sym at in
      let tail = map_of_map (λ z. number_of (table ++ d ∷ []) (q ++ (y ++ z))) (λ z. j ∷ z) (proper_prefixes r)
      ∙ map_same (λ z. number_of (table ++ d ∷ []) (q ++ (y ++ j ∷ z))) (λ z. number_of (table ++ d ∷ []) (q ++ ((y ++ j ∷ []) ++ z)))
      (λ z. ap (λ x. number_of (table ++ d ∷ []) (q ++ x)) (sym (append_assoc y (j ∷ []) z))) (proper_prefixes r)
      ∙ numbers_from (y ++ j ∷ []) r (1 + i) (e ∙ sym (append_assoc y (j ∷ []) r)) (omega arith) in
      ap (λ x. x ∷ map (λ z. number_of (table ++ d ∷ []) (q ++ (y ++ z))) (map (λ z. j ∷ z) (proper_prefixes r))) head ∙ ap (λ xs. i ∷ xs) tail

  -- the path to the new sequence is the old path up to p, and the new nodes
  pub path_more : take (suc (length p)) (path_of table) ≡ map (number_of table) (proper_prefixes (p ++ k ∷ []))
      → path_of (table ++ d ∷ []) ≡ take (suc (length p)) (path_of table) ++ counted (length (nodes table)) rest
  path_more way =
      let q = p ++ k ∷ [] in
      path_there table d ∙ ap (λ s. map (number_of (table ++ d ∷ [])) (proper_prefixes s)) (last_sequence_more table d ∙ n.sequence)
      ∙ ap (map (number_of (table ++ d ∷ []))) (prefixes_joined q rest)
      ∙ map-append (number_of (table ++ d ∷ [])) (proper_prefixes q) (map (λ y. q ++ y) (proper_prefixes rest))
      ∙ ap (λ xs. xs ++ map (number_of (table ++ d ∷ [])) (map (λ y. q ++ y) (proper_prefixes rest)))
      (map_on (number_of (table ++ d ∷ [])) (number_of table) (proper_prefixes q)
      (all_found (λ x. number_of (table ++ d ∷ []) x ≡ number_of table x) (proper_prefixes q) (λ x h. number_stays table d p k rest n x (n.opened x (sym (prefixes_are x q) ∙ h)))) ∙ sym way)
      ∙ ap (λ xs. take (suc (length p)) (path_of table) ++ xs)
      (map_of_map (number_of (table ++ d ∷ [])) (λ y. q ++ y) (proper_prefixes rest) ∙ numbers_from [] rest (length (nodes table)) refl (sym (add-zero (length (nodes table)))))
