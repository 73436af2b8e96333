-- The sequences of a settled table that begin with some keysyms, edge by edge.
use Rattle.std.proofs.Common.{◌≡◌, ℕ, suc, ◌+◌, ◌-◌, ◌≤◌, List, [], ◌∷◌, ◌++◌, Bool, true, false, not, ◌&&◌, ◌||◌, length, map, refl, sym, ◌∙◌, ap, arith, inl, inr, eqb-true, append_assoc, length-append}
use Rattle.std.specs.Prelude.{◌==◌}
use Rattle.std.specs.List.{list_any, flat_map}
use Rattle.std.proofs.lemmas.Bool.{and_parts, or_left, cases_Bool}
use Rattle.std.proofs.lemmas.List.{append-nil, length-map, map-append}
use Rattle.compose_model.specs.Table.{Definition, same, is_proper_prefix, is_sequence, is_extended}
use Rattle.compose_model.specs.Nodes.{is_node, number_of, edges}
use Rattle.compose_model.proofs.NodeLemmas.{same_from, node_means, root_is_node, root_number}
use Rattle.compose_read.specs.Settle.{IsSettled}
use Rattle.compose_tree.specs.Rows.{where_to, rows_of}
use Rattle.compose_tree.specs.Packed.{spelled, spelled_after}
use Rattle.compose_tree.proofs.Lookups.{node_few}
use Rattle.compose_tree.proofs.OneMore.{at_node, at_leaf}
use Rattle.compose_tree.proofs.Spelling.{behind, spelled_at, node_after, leaf_after, spelled_means, spelled_all}
use Rattle.compose_c.specs.Arrays.{sequences_from}

-- ---- lists

joined : (q : List ℕ) (k : ℕ) (xs : List (List ℕ)) → map (λ w. q ++ w) (map (λ w. k ∷ w) xs) ≡ map (λ w. (q ++ k ∷ []) ++ w) xs
joined q k [] = refl
joined q k (x ∷ xs) = λ i. sym (append_assoc q (k ∷ []) x) i ∷ joined q k xs i

unchanged : (xs : List (List ℕ)) → map (λ w. [] ++ w) xs ≡ xs
unchanged [] = refl
unchanged (x ∷ xs) = ap (λ ys. x ∷ ys) (unchanged xs)

map_groups : (f : List ℕ → List ℕ) (g : ℕ → List (List ℕ)) (ks : List ℕ) → map f (flat_map g ks) ≡ flat_map (λ k. map f (g k)) ks
map_groups f g [] = refl
map_groups f g (k ∷ ks) = map-append f (g k) (flat_map g ks) ∙ ap (λ xs. map f (g k) ++ xs) (map_groups f g ks)

same_groups : (g h : ℕ → List (List ℕ)) (ks : List ℕ) → ((k : ℕ) → g k ≡ h k) → flat_map g ks ≡ flat_map h ks
same_groups g h [] e = refl
same_groups g h (k ∷ ks) e = λ i. e k i ++ same_groups g h ks e i

some_found : (p : List ℕ → Bool) (xs : List (List ℕ)) → list_any p xs ≡ true → 1 ≤ length xs
some_found p [] h = cc
some_found p (x ∷ xs) h = omega arith

-- ---- a sequence that begins with a node's keysyms

rest_of : (p s : List ℕ) → is_proper_prefix p s ≡ true → (k : ℕ) × (w : List ℕ) × (p ++ k ∷ w ≡ s)
rest_of p [] h = cc
rest_of [] (k ∷ s) h = (k, s, refl)
rest_of (j ∷ p) (k ∷ s) h =
    let both = and_parts (j == k) (is_proper_prefix p s) h in
    let r = rest_of p s both.1 in (r.0, r.1, λ i. eqb-true j k both.0 i ∷ r.2 i)

some_extension : (table : List Definition) (q : List ℕ) → is_extended table q ≡ true → (k : ℕ) × (w : List ℕ) × (is_sequence table (q ++ k ∷ w) ≡ true)
some_extension [] q h = cc
some_extension (d ∷ table) q h = go (is_proper_prefix q d.sequence) refl h (some_extension table q)
  where
    go : (b : Bool) → is_proper_prefix q d.sequence ≡ b → b || is_extended table q ≡ true → (is_extended table q ≡ true → (k : ℕ) × (w : List ℕ) × (is_sequence table (q ++ k ∷ w) ≡ true))
        → (k : ℕ) × (w : List ℕ) × (is_sequence (d ∷ table) (q ++ k ∷ w) ≡ true)
    go true e h later =
        let r = rest_of q d.sequence e in
        (r.0, r.1, ap (λ b. b || is_sequence table (q ++ r.0 ∷ r.1)) (same_from (q ++ r.0 ∷ r.1) d.sequence r.2))
    go false e h later = let r = later h in (r.0, r.1, or_true (same (q ++ r.0 ∷ r.1) d.sequence) (is_sequence table (q ++ r.0 ∷ r.1)) r.2)
      where
        or_true : (a b : Bool) → b ≡ true → a || b ≡ true
        or_true true b h = refl
        or_true false b h = h

module _ (table : List Definition) (s : IsSettled table) where
  -- from a leaf there is its sequence alone
  pub from_leaf : (q : List ℕ) → is_node table q ≡ false → sequences_from table q ≡ q ∷ []
  from_leaf q h =
      ap (λ t. map (λ w. q ++ w) (spelled_after t (λ n. spelled (rows_of table) (32 - length q) n))) (at_leaf table q h)
      ∙ ap (λ x. x ∷ []) (append-nil q)

  after_key : (q : List ℕ) (k f : ℕ) → f ≡ 32 - length (q ++ k ∷ []) → map (λ w. q ++ w) (map (λ w. k ∷ w) (behind table s f q k)) ≡ sequences_from table (q ++ k ∷ [])
  after_key q k f e =
      joined q k (behind table s f q k)
      ∙ ap (map (λ w. (q ++ k ∷ []) ++ w)) (elim (cases_Bool (is_node table (q ++ k ∷ []))) [
        | inl h ↦ node_after table s f q k h ∙ ap (λ t. spelled_after t (λ n. spelled (rows_of table) f n)) (sym (at_node table (q ++ k ∷ []) h))
        | inr h ↦ leaf_after table s f q k h ∙ ap (λ t. spelled_after t (λ n. spelled (rows_of table) f n)) (sym (at_leaf table (q ++ k ∷ []) h))
      ])
      ∙ ap (λ m. map (λ w. (q ++ k ∷ []) ++ w) (spelled_after (where_to table (q ++ k ∷ [])) (λ n. spelled (rows_of table) m n))) e

  -- from a node there are those from each of its edges
  pub from_node : (q : List ℕ) → is_node table q ≡ true → sequences_from table q ≡ flat_map (λ k. sequences_from table (q ++ k ∷ [])) (edges table q)
  from_node q h =
      let few = node_few table q s.definitions h in
      let f : ℕ = 31 - length q in
      let e : 32 - length q ≡ suc f = omega arith in
      ap (λ t. map (λ w. q ++ w) (spelled_after t (λ n. spelled (rows_of table) (32 - length q) n))) (at_node table q h)
      ∙ ap (λ m. map (λ w. q ++ w) (spelled (rows_of table) m (number_of table q))) e
      ∙ ap (map (λ w. q ++ w)) (spelled_at table s f q h)
      ∙ map_groups (λ w. q ++ w) (λ k. map (λ w. k ∷ w) (behind table s f q k)) (edges table q)
      ∙ same_groups (λ k. map (λ w. q ++ w) (map (λ w. k ∷ w) (behind table s f q k))) (λ k. sequences_from table (q ++ k ∷ [])) (edges table q)
      (λ k. after_key q k f (let n = length-append q (k ∷ []) in omega arith))

  -- from the root there are all
  pub from_root : sequences_from table [] ≡ map (λ d. d.sequence) table
  from_root =
      ap (λ t. map (λ w. [] ++ w) (spelled_after t (λ n. spelled (rows_of table) 32 n))) (at_node table [] (root_is_node table))
      ∙ unchanged (spelled (rows_of table) 32 (number_of table []))
      ∙ ap (spelled (rows_of table) 32) (root_number table)
      ∙ spelled_all table s 32 (omega arith)

  -- from each other node there is at least one
  pub from_some : (q : List ℕ) → is_node table q ≡ true → 1 ≤ length q → 1 ≤ length (sequences_from table q)
  from_some [] h some = absurd (omega arith)
  from_some (j ∷ p) h some =
      let q = j ∷ p in
      let x = some_extension table q (sym (node_means table q) ∙ h) in
      let listed : list_any (same (x.0 ∷ x.1)) (spelled (rows_of table) (32 - length q) (number_of table q)) ≡ true =
      spelled_means table s (32 - length q) q (x.0 ∷ x.1) h (let few = node_few table q s.definitions h in omega arith) ∙ x.2 in
      let found = some_found (same (x.0 ∷ x.1)) (spelled (rows_of table) (32 - length q) (number_of table q)) listed in
      let n : length (sequences_from table q) ≡ length (spelled (rows_of table) (32 - length q) (number_of table q)) =
      ap (λ t. length (map (λ w. q ++ w) (spelled_after t (λ n. spelled (rows_of table) (32 - length q) n)))) (at_node table q h)
      ∙ length-map (spelled (rows_of table) (32 - length q) (number_of table q)) (λ w. q ++ w) in
      omega arith
