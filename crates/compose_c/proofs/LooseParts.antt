-- The parts of arrays of unchecked numbers that belong to a node or to a leaf.
use Rattle.std.proofs.Common.{◌≡◌, ℕ, zero, suc, ◌+◌, ◌-◌, ◌*◌, ◌<◌, ◌≤◌, List, [], ◌∷◌, length, map, get_or, take, drop, refl, sym, ◌∙◌, ap, subst, arith}
use Rattle.std.specs.Prelude.{Option, Some, None, MatchOption, slice_get}
use Rattle.std.proofs.lemmas.List.{get_or_default, length-map}
use Rattle.std.proofs.lemmas.Option.{slice_get-get_or}
use Rattle.compose_model.specs.Table.{Definition}
use Rattle.compose_model.specs.Nodes.{nodes, node, leaves}
use Rattle.compose_tree.specs.declared.packed.PackedNode.{PackedNode}
use Rattle.compose_tree.specs.Rows.{row_of}
use Rattle.compose_tree.specs.Packed.{packed_edge, texts_of}
use Rattle.compose_tree.proofs.Lookups.{leaves_count}
use Rattle.compose_tree.proofs.PackedLookups.{node_entries, edges_between}
use Rattle.compose_tree.proofs.PackedTexts.{TextPiece, entries_counted, leaf_entry}
use Rattle.compose_c.specs.Arrays.{edge_of, AreOf}
use Rattle.compose_c.specs.declared.loose.LooseArrays.{LooseArrays}
use Rattle.compose_c.specs.declared.loose.LooseEdge.{LooseEdge}

mapped_take : {X Y : Type 0} (f : X → Y) (n : ℕ) (xs : List X) → map f (take n xs) ≡ take n (map f xs)
mapped_take f zero xs = refl
mapped_take f (suc n) [] = refl
mapped_take f (suc n) (x ∷ xs) = ap (λ ys. f x ∷ ys) (mapped_take f n xs)

mapped_drop : {X Y : Type 0} (f : X → Y) (n : ℕ) (xs : List X) → map f (drop n xs) ≡ drop n (map f xs)
mapped_drop f zero xs = refl
mapped_drop f (suc n) [] = refl
mapped_drop f (suc n) (x ∷ xs) = mapped_drop f n xs

module _ (a : LooseArrays) (table : List Definition) (is : AreOf a table) where
  -- there is an entry after that of a node
  pub node_within : (i : ℕ) → i < length (nodes table) → i + 1 < length a.nodes.now
  node_within i h = let q = (node_entries a.nodes.now (map edge_of a.edges.now) a.texts.now a.long_texts.now table is i h).within in omega arith

  -- the edges between the indexes of a node are its own
  pub own_edges : (i : ℕ) (d : PackedNode) → i < length (nodes table)
      → ((get_or a.nodes.now i d).first ≤ (get_or a.nodes.now (i + 1) d).first) × ((get_or a.nodes.now (i + 1) d).first ≤ length a.edges.now)
      × ((own : List LooseEdge) → own ≡ take ((get_or a.nodes.now (i + 1) d).first - (get_or a.nodes.now i d).first) (drop (get_or a.nodes.now i d).first a.edges.now)
      → map edge_of own ≡ map packed_edge (row_of table (node table i)).edges)
  own_edges i d h =
      let within = node_within i h in
      let x = get_or a.nodes.now i d in
      let y = get_or a.nodes.now (i + 1) d in
      let b =
      edges_between a.nodes.now (map edge_of a.edges.now) a.texts.now a.long_texts.now table is i x.first y.first x y h
      (get_or_default a.nodes.now i d x (omega arith)) (get_or_default a.nodes.now (i + 1) d y within) refl refl in
      let n = length-map a.edges.now edge_of in (
        b.0,
        (let m = b.1 in omega arith),
        (λ own e. ap (map edge_of) e ∙ mapped_take edge_of (y.first - x.first) (drop x.first a.edges.now) ∙ ap (take (y.first - x.first)) (mapped_drop edge_of x.first a.edges.now) ∙ b.2),
      )

  -- there are four bytes for each leaf
  pub leaf_within : (i : ℕ) → i < length table → 4 * i + 4 ≤ length a.texts.now
  leaf_within i h =
      let n = entries_counted a.nodes.now (map edge_of a.edges.now) a.texts.now a.long_texts.now table is in
      let m = leaves_count table is.settled in omega arith

  -- they are the entry of its text
  pub own_text : (i : ℕ) → i < length table → TextPiece a.texts.now a.long_texts.now i (get_or (texts_of table) i [])
  own_text i h = leaf_entry a.nodes.now (map edge_of a.edges.now) a.texts.now a.long_texts.now table is i (let m = leaves_count table is.settled in omega arith)

  -- which is the text at its index
  pub text_there : (i : ℕ) → i < length table → slice_get (texts_of table) i ≡ Some (get_or (texts_of table) i [])
  text_there i h = slice_get-get_or (texts_of table) i [] (let n = length-map table (λ (t : Definition). t.text) in omega arith)

-- what is found has another property too
pub on_some : {X : Type 0} (P Q : X → Type 0) (o : Option X) → MatchOption o ⊥ P → ((x : X) → P x → Q x) → MatchOption o ⊥ Q
on_some P Q None h f = h
on_some P Q (Some x) h f = f x h
