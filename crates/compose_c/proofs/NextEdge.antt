-- Adding the definitions from one more edge of a node to a draft.
use Rattle.std.proofs.Common.{◌≡◌, ℕ, zero, suc, ◌+◌, ◌<◌, ◌≤◌, List, [], ◌∷◌, ◌++◌, Bool, true, length, map, get_or, take, drop, refl, sym, ◌∙◌, ap, subst, arith, append_assoc}
use Rattle.std.specs.List.{flat_map}
use Rattle.std.proofs.lemmas.List.{get_or_default, drop_all}
use Rattle.compose_model.specs.Table.{Definition}
use Rattle.compose_model.specs.Nodes.{is_node, node, number_of, edges}
use Rattle.compose_model.proofs.NodeLemmas.{node_at_number}
use Rattle.compose_read.specs.Settle.{IsSettled}
use Rattle.compose_tree.specs.Rows.{row_of}
use Rattle.compose_tree.specs.Packed.{packed_edge}
use Rattle.compose_c.specs.Arrays.{edge_of, AreFirst, LeadsTo, sequences_from}
use Rattle.compose_c.specs.declared.loose.LooseEdge.{LooseEdge}
use Rattle.compose_c.proofs.FirstDefinitions.{added_count}
use Rattle.compose_c.proofs.EdgeTargets.{IsEdge, edge_there, loose_count}
use Rattle.compose_c.proofs.SequencesFrom.{from_some}

-- keysyms without the ones after them
pub without_last : (n : ℕ) (xs ys : List ℕ) → n ≡ length xs → take n (xs ++ ys) ≡ xs
without_last zero [] ys e = refl
without_last (suc n) [] ys e = absurd (omega arith)
without_last zero (x ∷ xs) ys e = absurd (omega arith)
without_last (suc n) (x ∷ xs) ys e = ap (λ zs. x ∷ zs) (without_last n xs ys (omega arith))

module _ (table : List Definition) (s : IsSettled table) (q : List ℕ) (h : is_node table q ≡ true) (n : ℕ) (number : n ≡ number_of table q) (es : List LooseEdge)
    (are : map edge_of es ≡ map packed_edge (row_of table (node table n)).edges) where
  own : map edge_of es ≡ map packed_edge (row_of table q).edges
  own = are ∙ ap (λ m. map packed_edge (row_of table (node table m)).edges) number ∙ ap (λ p. map packed_edge (row_of table p).edges) (node_at_number table q h)

  -- the edge at an index is the node's
  pub edge_at : (i : ℕ) (d : LooseEdge) → i < length es → IsEdge table q i (get_or es i d)
  edge_at i d within = edge_there table q i es (get_or es i d) s own within (get_or_default es i d (get_or es i d) within)

  -- the definitions from the edge at an index come next
  pub edge_added : (i : ℕ) (d : LooseEdge) (path : List ℕ) (before after : List Definition) (value : Bool) (others : List (List ℕ)) → i < length es → path ≡ q ++ (get_or es i d).keysym ∷ []
      → ((later : List (List ℕ)) → LeadsTo table path (get_or es i d).target → AreFirst table before (sequences_from table path ++ later) → (value ≡ true) × AreFirst table after later)
      → AreFirst table before (flat_map (λ k. sequences_from table (q ++ k ∷ [])) (drop i (edges table q)) ++ others)
      → (value ≡ true) × AreFirst table after (flat_map (λ k. sequences_from table (q ++ k ∷ [])) (drop (i + 1) (edges table q)) ++ others)
  edge_added i d path before after value others within path_is added first =
      let e = get_or es i d in
      let g : ℕ → List (List ℕ) = λ k. sequences_from table (q ++ k ∷ []) in
      let is = edge_at i d within in
      let later = flat_map g (drop (i + 1) (edges table q)) ++ others in
      let whole : flat_map g (drop i (edges table q)) ++ others ≡ sequences_from table path ++ later =
      ap (λ ks. flat_map g ks ++ others) is.left ∙ append_assoc (g e.keysym) (flat_map g (drop (i + 1) (edges table q))) others ∙ ap (λ p. sequences_from table p ++ later) (sym path_is) in
      added later (subst (λ p. LeadsTo table p e.target) (sym path_is) is.leads) (subst (AreFirst table before) whole first)

  -- after the last edge all are added
  pub edges_added : (i : ℕ) (ds : List Definition) (others : List (List ℕ)) → length es ≤ i
      → AreFirst table ds (flat_map (λ k. sequences_from table (q ++ k ∷ [])) (drop i (edges table q)) ++ others) → AreFirst table ds others
  edges_added i ds others all first =
      let n = loose_count table q es own in
      subst (λ ks. AreFirst table ds (flat_map (λ k. sequences_from table (q ++ k ∷ [])) ks ++ others)) (drop_all i (edges table q) (omega arith)) first

  -- from a node other than the root at least one is added
  pub more_added : (before after : List Definition) (others : List (List ℕ)) → 1 ≤ length q → AreFirst table before (sequences_from table q ++ others) → AreFirst table after others → length before < length after
  more_added before after others some first last =
      let m = from_some table s q h some in let c = added_count table before after (sequences_from table q) others first last in omega arith
