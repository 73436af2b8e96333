-- The targets of a table's edges as numbers.
use Rattle.std.proofs.Common.{◌≡◌, ℕ, suc, ◌+◌, ◌*◌, ◌/◌, ◌%◌, ◌<◌, List, [], ◌∷◌, ◌++◌, true, false, ◌||◌, length, map, get_or, drop, refl, sym, ◌∙◌, ap, arith, inl, inr, add-one, eq-eqb, drop-cons}
use Rattle.std.specs.Prelude.{◌==◌, Some, slice_get}
use Rattle.std.proofs.lemmas.Bool.{cases_Bool}
use Rattle.std.proofs.lemmas.List.{get_or-map, length-map}
use Rattle.std.proofs.lemmas.Map.Keys.{any_passes_from_place}
use Rattle.std.proofs.lemmas.Option.{slice_get-get_or}
use Rattle.compose_model.specs.Table.{Definition, is_sequence}
use Rattle.compose_model.specs.Nodes.{is_node, number_of, edges, has_edge}
use Rattle.compose_model.proofs.NodeLemmas.{root_is_node, root_number}
use Rattle.compose_read.specs.Settle.{IsSettled}
use Rattle.compose_tree.specs.declared.packed.PackedEdge.{PackedEdge}
use Rattle.compose_tree.specs.Rows.{where_to, edge_of}
use Rattle.compose_tree.specs.Targets.{leaf_number}
use Rattle.compose_tree.specs.Packed.{packed_edge, packed_target}
use Rattle.compose_tree.proofs.Lookups.{edge_fits}
use Rattle.compose_tree.proofs.OneMore.{at_node, at_leaf, edge_is_listed}
use Rattle.compose_c.specs.Arrays as words
use Rattle.compose_c.specs.Arrays.{LeadsTo}
use Rattle.compose_c.specs.declared.loose.LooseEdge.{LooseEdge}

-- the target 0 is the root
pub root_leads : (table : List Definition) → LeadsTo table [] 0
root_leads table = record {
  is_there = ap (λ b. b || is_sequence table []) (root_is_node table);
  is_its = sym (ap packed_target (at_node table [] (root_is_node table)) ∙ ap (λ n. n * 2) (root_number table));
}

node_code : (table : List Definition) (q : List ℕ) (t : ℕ) → LeadsTo table q t → is_node table q ≡ true → t ≡ number_of table q * 2
node_code table q t leads h = leads.is_its ∙ ap packed_target (at_node table q h)

leaf_code : (table : List Definition) (q : List ℕ) (t : ℕ) → LeadsTo table q t → is_node table q ≡ false → t ≡ leaf_number table q * 2 + 1
leaf_code table q t leads h = leads.is_its ∙ ap packed_target (at_leaf table q h)

-- an odd target is a leaf
pub odd_leads : (table : List Definition) (q : List ℕ) (t : ℕ) → LeadsTo table q t → t % 2 ≡ 1 → is_node table q ≡ false
odd_leads table q t leads odd = elim (cases_Bool (is_node table q)) [
  | inl h ↦ absurd (let e = node_code table q t leads h in omega arith)
  | inr h ↦ h
]

-- another one is a node
pub even_leads : (table : List Definition) (q : List ℕ) (t : ℕ) → LeadsTo table q t → (t % 2 ≡ 1 → ⊥) → (is_node table q ≡ true) × (t / 2 ≡ number_of table q)
even_leads table q t leads even = elim (cases_Bool (is_node table q)) [
  | inl h ↦ (h, (let e = node_code table q t leads h in omega arith))
  | inr h ↦ absurd (let e = leaf_code table q t leads h in even (omega arith))
]

-- ---- the edges of a node

-- an edge of a node in unchecked numbers
pub record IsEdge (table : List Definition) (q : List ℕ) (i : ℕ) (e : LooseEdge) : Type 0 where
  pub fits : e.keysym < 536870912
  pub leads : LeadsTo table (q ++ e.keysym ∷ []) e.target
  pub left : drop i (edges table q) ≡ e.keysym ∷ drop (i + 1) (edges table q)

-- a node has as many edges in unchecked numbers
pub loose_count : (table : List Definition) (q : List ℕ) (es : List LooseEdge) → map words.edge_of es ≡ map packed_edge (map (edge_of table q) (edges table q)) → length es ≡ length (edges table q)
loose_count table q es e =
    sym (length-map es words.edge_of) ∙ ap length e ∙ length-map (map (edge_of table q) (edges table q)) packed_edge ∙ length-map (edges table q) (edge_of table q)

pub edge_there : (table : List Definition) (q : List ℕ) (i : ℕ) (es : List LooseEdge) (e : LooseEdge) → IsSettled table → map words.edge_of es ≡ map packed_edge (map (edge_of table q) (edges table q))
    → i < length es → e ≡ get_or es i e → IsEdge table q i e
edge_there table q i es e s are h at =
    let ks = edges table q in
    let k = get_or ks i 0 in
    let n : length es ≡ length ks = loose_count table q es are in
    let m : length (map (edge_of table q) ks) ≡ length ks = length-map ks (edge_of table q) in
    let is : words.edge_of e ≡ packed_edge (edge_of table q k) =
    ap words.edge_of at ∙ sym (get_or-map words.edge_of es i e (words.edge_of e) h) ∙ ap (λ x. get_or x i (words.edge_of e)) are
    ∙ get_or-map packed_edge (map (edge_of table q) ks) i (edge_of table q 0) (words.edge_of e) (omega arith)
    ∙ ap packed_edge (get_or-map (edge_of table q) ks i 0 (edge_of table q 0) (omega arith)) in
    let key : e.keysym ≡ k = ap (λ (x : PackedEdge). x.keysym) is in
    let target : e.target ≡ packed_target (where_to table (q ++ k ∷ [])) = ap (λ (x : PackedEdge). x.target) is in
    let got : slice_get ks i ≡ Some k = slice_get-get_or ks i 0 (omega arith) in
    let has : has_edge table q k ≡ true = sym (edge_is_listed table q k) ∙ any_passes_from_place (λ j. k == j) ks i k got (eq-eqb k k refl) in
    let few = edge_fits table q k s.definitions has in
    record {
      fits = omega arith;
      leads = record { is_there = ap (has_edge table q) key ∙ has; is_its = target ∙ ap (λ j. packed_target (where_to table (q ++ j ∷ []))) (sym key) };
      left = drop-cons ks i 0 (omega arith) ∙ (λ j. sym key j ∷ drop (sym (add-one i) j) ks);
    }
