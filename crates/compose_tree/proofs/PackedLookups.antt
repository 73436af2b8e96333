-- How the packed arrays are built, step by step, and the results of searches in them.
use Rattle.std.proofs.Common.{◌≡◌, ℕ, zero, suc, ◌+◌, ◌-◌, ◌<◌, ◌≤◌, List, [], ◌∷◌, ◌++◌, true, ◌⊎◌, length, map, get_or, slice_index, take, drop, refl, sym, ◌∙◌, ap, subst, arith, inl, inr, eq-eqb, add-one, add-zero, zero-add, append_assoc, length-append, drop-cons}
use Rattle.std.specs.Prelude.{◌==◌, ◌%◌, Some, None, option_map, replicate, slice_get}
use Rattle.std.specs.List.{list_all}
use Rattle.std.specs.List.Sorted.{IsStrictlyIncreasing}
use Rattle.std.specs.Str.{is_utf8, IsUtf8}
use Rattle.std.proofs.Math.Nat.{eq-or-lt_of_le}
use Rattle.std.proofs.lemmas.Bool.{and_from, cases_lt}
use Rattle.std.proofs.lemmas.List.{get_or-map, length-map, length-replicate}
use Rattle.std.proofs.lemmas.Map.Keys.{below_from_sorted, sorted_from_strictly_increasing, IsStrictlyIncreasing-from_sorted, any_passes_from_place}
use Rattle.std.proofs.lemmas.Option.{slice_get-get_or}
use Rattle.std.proofs.lemmas.Str.{is_utf8-from_IsUtf8}
use Rattle.compose_model.specs.Table.{Definition}
use Rattle.compose_model.specs.Nodes.{nodes, node, edges}
use Rattle.compose_model.proofs.NodeLemmas.{listed_edge}
use Rattle.compose_tree.specs.declared.packed.PackedEdge.{PackedEdge}
use Rattle.compose_tree.specs.declared.packed.PackedNode.{PackedNode}
use Rattle.compose_tree.specs.declared.table.Target.{Target}
use Rattle.compose_tree.specs.Targets.{target_of}
use Rattle.compose_tree.specs.Rows.{NodeRow, row_at, rows_of, row_of, edge_of, where_to}
use Rattle.compose_tree.specs.Packed.{packed_edge, packed_nodes, packed_edges, long_text, texts_of, unpacked_rows, unpacked_target, unpacked, keys_of, with_texts, spelled, unpacked_texts, IsPacked}
use Rattle.compose_tree.proofs.OneMore.{edges_sorted}
use Rattle.compose_tree.proofs.Lookups.{text_read, target_at_edge, leads_nowhere, key_read}
use Rattle.compose_tree.proofs.Unpacking.{piece, unpack_rows, unpack_texts, unpack_target, put_together}
use Rattle.compose_tree.proofs.Spelling.{spelled_all}

-- ---- making the entries of texts

-- the texts from an index on
pub texts_on : (all : List Definition) (i : ℕ) (t : List ℕ) → i < length all → option_map (λ (d : Definition). d.text) (slice_get all i) ≡ Some t
    → texts_of (drop i all) ≡ t ∷ texts_of (drop (i + 1) all)
texts_on all i t h e =
    let d : Definition = record { sequence = []; text = [] } in
    rw add-one (ap texts_of (drop-cons all i d h) ∙ ap (λ x. x ∷ texts_of (drop (suc i) all)) (sym (text_read all i t d h e)))

-- a text takes at most one byte more than it has
pub long_few : (t : List ℕ) → length (long_text t) ≤ length t + 1
long_few [] = omega arith
long_few (a ∷ []) = omega arith
long_few (a ∷ b ∷ []) = omega arith
long_few (a ∷ b ∷ c ∷ []) = omega arith
long_few (a ∷ b ∷ c ∷ d ∷ more) =
    let n = length-append (a ∷ b ∷ c ∷ d ∷ more) (replicate (length more % 2) 0) in
    let m = length-replicate {A = ℕ} (length more % 2) 0 in
    omega (arith, n, m)

-- a text in UTF-8 before others in UTF-8
pub utf8_step : (all : List Definition) (i : ℕ) (t : List ℕ) → texts_of (drop i all) ≡ t ∷ texts_of (drop (i + 1) all) → IsUtf8 t → list_all is_utf8 (texts_of (drop (i + 1) all)) ≡ true
    → list_all is_utf8 (texts_of (drop i all)) ≡ true
utf8_step all i t f u h = ap (list_all is_utf8) f ∙ and_from (is_utf8 t) (list_all is_utf8 (texts_of (drop (i + 1) all))) (is_utf8-from_IsUtf8 t u) h

-- ---- the search among increasing keysyms

-- a list of packed edges and that of their keysyms agree at each index
pub key_there : (edges : List PackedEdge) (m : ℕ) (e : PackedEdge) → m < length edges → e ≡ get_or edges m e → slice_index (keys_of edges) m ≡ e.keysym
key_there edges m e h at = get_or-map (λ (e : PackedEdge). e.keysym) edges m e 0 h ∙ ap (λ (e : PackedEdge). e.keysym) (sym at)

keys_length : (edges : List PackedEdge) → length (keys_of edges) ≡ length edges
keys_length edges = length-map edges (λ (e : PackedEdge). e.keysym)

-- if the keysym at m is not greater, each below m is less
pub less_below : (edges : List PackedEdge) (key m : ℕ) → IsStrictlyIncreasing (keys_of edges) → m < length edges → slice_index (keys_of edges) m ≤ key → (k : ℕ) → k < m
    → slice_index (keys_of edges) k < key
less_below edges key m rise h less k lower =
    let n = keys_length edges in
    let l : slice_index (keys_of edges) k < slice_index (keys_of edges) m = below_from_sorted (keys_of edges) k m 0 (sorted_from_strictly_increasing (keys_of edges) rise) lower (omega arith) in
    omega arith

-- if the keysym at m is greater, each from m on is greater
pub greater_from : (edges : List PackedEdge) (key m : ℕ) → IsStrictlyIncreasing (keys_of edges) → key < slice_index (keys_of edges) m → (k : ℕ) → m ≤ k → k < length edges
    → key < slice_index (keys_of edges) k
greater_from edges key m rise greater k le h = go (eq-or-lt_of_le le)
  where
    go : (m ≡ k) ⊎ (m < k) → key < slice_index (keys_of edges) k
    go (inl same) = let P : ℕ → Type 0 = λ n. key < slice_index (keys_of edges) n in subst P same greater
    go (inr lower) =
        (let n = keys_length edges in let l : slice_index (keys_of edges) m < slice_index (keys_of edges) k = below_from_sorted
        (keys_of edges) m k 0 (sorted_from_strictly_increasing (keys_of edges) rise) lower (omega arith) in omega arith)

-- a keysym less than the first one is nowhere
pub none_below : (edges : List PackedEdge) (key : ℕ) → IsStrictlyIncreasing (keys_of edges) → key < slice_index (keys_of edges) 0 → (k : ℕ) → k < length edges
    → slice_index (keys_of edges) k ≡ key → ⊥
none_below edges key rise less k h same = let g = greater_from edges key 0 rise less k (omega arith) h in omega (arith, g, same)

-- a keysym greater than the last one is nowhere
pub none_above : (edges : List PackedEdge) (key last : ℕ) → IsStrictlyIncreasing (keys_of edges) → last + 1 ≡ length edges → slice_index (keys_of edges) last < key
    → (k : ℕ) → k < length edges → slice_index (keys_of edges) k ≡ key → ⊥
none_above edges key last rise end greater k h same = elim (cases_lt k last) [
  | inl lower ↦ (let l = less_below edges key last rise (omega (arith, end)) (omega (arith, greater)) k lower in omega (arith, l, same))
  | inr from ↦ (let here : k ≡ last = omega (arith, from, end, h) in let there = ap (slice_index (keys_of edges)) here in omega (arith, there, same, greater))
]

-- if the keysym can be at only one index and is not there, it is nowhere
pub nowhere_else : (edges : List PackedEdge) (key first count : ℕ) → count ≤ 1 → ((k : ℕ) → k < first → slice_index (keys_of edges) k < key)
    → ((k : ℕ) → first + count ≤ k → k < length edges → key < slice_index (keys_of edges) k)
    → (count ≡ 1 → slice_index (keys_of edges) first ≡ key → ⊥) → (k : ℕ) → k < length edges → slice_index (keys_of edges) k ≡ key → ⊥
nowhere_else edges key first count few below above not_there k h same = elim (cases_lt k first) [
  | inl lower ↦ (let l = below k lower in omega arith)
  | inr from ↦ elim (cases_lt k (first + count)) [
    | inl upper ↦ (let here : k ≡ first = omega arith in not_there (omega arith) (ap (slice_index (keys_of edges)) (sym here) ∙ same))
    | inr behind ↦ (let g = above k behind h in omega arith)
  ]
]

-- ---- the arrays of a table mean that table

-- ---- a node's entries

-- the entries of node i and of the one after it, counted from an index, and its edges among all
pub record NodePiece (nodes : List PackedNode) (edges : List PackedEdge) (offset i : ℕ) (row : NodeRow) : Type 0 where
  pub prefix : List PackedEdge
  pub back : List PackedEdge
  pub edges_are : edges ≡ prefix ++ (map packed_edge row.edges ++ back)
  pub depth : (d : PackedNode) → (get_or nodes i d).depth ≡ row.depth
  pub first : (d : PackedNode) → (get_or nodes i d).first ≡ offset + length prefix
  pub end : (d : PackedNode) → (get_or nodes (suc i) d).first ≡ offset + length prefix + length row.edges
  pub within : suc i < length nodes

first_offset : (rows : List NodeRow) (offset : ℕ) (d : PackedNode) → (get_or (packed_nodes offset rows) 0 d).first ≡ offset
first_offset [] offset d = refl
first_offset (r ∷ rows) offset d = refl

-- there is one more packed node than rows
pub packed_count : (rows : List NodeRow) (offset : ℕ) → length (packed_nodes offset rows) ≡ length rows + 1
packed_count [] offset = refl
packed_count (r ∷ rows) offset = let e = packed_count rows (offset + length r.edges) in omega arith

node_piece : (rows : List NodeRow) (offset i : ℕ) → i < length rows → NodePiece (packed_nodes offset rows) (packed_edges rows) offset i (row_at rows i)
node_piece [] offset i h = absurd (omega arith)
node_piece (r ∷ rows) offset zero h = record {
  prefix = [];
  back = packed_edges rows;
  edges_are = refl;
  depth = λ d. refl;
  first = λ d. sym (add-zero offset);
  end = λ d. first_offset rows (offset + length r.edges) d ∙ ap (λ n. n + length r.edges) (sym (add-zero offset));
  within = (let n = packed_count rows (offset + length r.edges) in omega arith);
}
node_piece (r ∷ rows) offset (suc i) h =
    let q = node_piece rows (offset + length r.edges) i (omega arith) in
    let es = map packed_edge r.edges in
    let n : length (es ++ q.prefix) ≡ length r.edges + length q.prefix = length-append es q.prefix ∙ ap (λ m. m + length q.prefix) (length-map r.edges packed_edge) in
    record {
      prefix = es ++ q.prefix;
      back = q.back;
      edges_are = ap (λ x. es ++ x) q.edges_are ∙ sym (append_assoc es q.prefix (map packed_edge (row_at rows i).edges ++ q.back));
      depth = q.depth;
      first = λ d. q.first d ∙ placed offset (length r.edges) (length q.prefix) (length (es ++ q.prefix)) n;
      end = λ d. q.end d ∙ ap (λ m. m + length (row_at rows i).edges) (placed offset (length r.edges) (length q.prefix) (length (es ++ q.prefix)) n);
      within = (let m = q.within in omega arith);
    }
  where
    placed : (offset a b c : ℕ) → c ≡ a + b → offset + a + b ≡ offset + c
    placed offset a b c e = omega arith

module _ (nodes' : List PackedNode) (edges' : List PackedEdge) (entries long : List ℕ) (table : List Definition) (p : IsPacked nodes' edges' entries long table) where
  row_at_node : (i : ℕ) → i < length (nodes table) → row_at (rows_of table) i ≡ row_of table (node table i)
  row_at_node i h = get_or-map (row_of table) (nodes table) i [] (record { depth = 0; edges = [] }) h

  -- the entries of a node of the table
  pub node_entries : (i : ℕ) → i < length (nodes table) → NodePiece nodes' edges' 0 i (row_of table (node table i))
  node_entries i h =
      subst (λ (x : List PackedNode). NodePiece x edges' 0 i (row_of table (node table i))) (sym p.nodes_are)
      (subst (λ (x : List PackedEdge). NodePiece (packed_nodes 0 (rows_of table)) x 0 i (row_of table (node table i))) (sym p.edges_are)
      (subst (λ (x : NodeRow). NodePiece (packed_nodes 0 (rows_of table)) (packed_edges (rows_of table)) 0 i x) (row_at_node i h)
      (node_piece (rows_of table) 0 i (let n = length-map (nodes table) (row_of table) in omega arith))))

  -- there is one more packed node than nodes of the table
  pub nodes_count : length nodes' ≡ length (nodes table) + 1
  nodes_count = ap length p.nodes_are ∙ packed_count (rows_of table) 0 ∙ ap (λ n. n + 1) (length-map (nodes table) (row_of table))

  -- the edges between two indexes are the node's
  pub edges_between : (i first end : ℕ) (a b : PackedNode) → i < length (nodes table) → a ≡ get_or nodes' i a → b ≡ get_or nodes' (i + 1) b → first ≡ a.first → end ≡ b.first
      → (first ≤ end) × (end ≤ length edges') × (take (end - first) (drop first edges') ≡ map packed_edge (row_of table (node table i)).edges)
  edges_between i first end a b h at behind f g =
      let q = node_entries i h in
      let es = map packed_edge (row_of table (node table i)).edges in
      let n : length es ≡ length (row_of table (node table i)).edges = length-map (row_of table (node table i)).edges packed_edge in
      let from : first ≡ length q.prefix = f ∙ ap (λ (x : PackedNode). x.first) at ∙ q.first a ∙ zero-add (length q.prefix) in
      let to : end ≡ 0 + length q.prefix + length (row_of table (node table i)).edges = g ∙ ap (λ (x : PackedNode). x.first) (behind ∙ ap (λ j. get_or nodes' j b) (add-one i)) ∙ q.end b in
      let all : length edges' ≡ length q.prefix + (length es + length q.back) =
      ap length q.edges_are ∙ length-append q.prefix (es ++ q.back) ∙ ap (λ m. length q.prefix + m) (length-append es q.back) in
      (omega arith, omega arith, ap (λ x. take (end - first) (drop first x)) q.edges_are ∙ piece first end q.prefix es q.back (sym from) (omega arith))

-- ---- the result of a search of a node's edges

-- the packed edges of some keysyms have these keysyms
pub packed_keys : (table : List Definition) (x ks : List ℕ) → keys_of (map packed_edge (map (edge_of table x) ks)) ≡ ks
packed_keys table x [] = refl
packed_keys table x (k ∷ ks) = ap (λ z. k ∷ z) (packed_keys table x ks)

-- the keysyms of a node's packed edges are strictly increasing
pub keys_rise : (table : List Definition) (x : List ℕ) (es : List PackedEdge) → es ≡ map packed_edge (map (edge_of table x) (edges table x)) → IsStrictlyIncreasing (keys_of es)
keys_rise table x es e = subst IsStrictlyIncreasing (sym (ap keys_of e ∙ packed_keys table x (edges table x))) (IsStrictlyIncreasing-from_sorted (edges table x) (edges_sorted table x))

-- if no edge has the keysym, it leads nowhere
pub step_none : (table : List Definition) (x : List ℕ) (k : ℕ) (es : List PackedEdge) → es ≡ map packed_edge (map (edge_of table x) (edges table x))
    → ((m : ℕ) → m < length es → slice_index (keys_of es) m ≡ k → ⊥) → None ≡ target_of table x k
step_none table x k es e none =
    let n : length (keys_of es) ≡ length es = keys_length es in
    leads_nowhere table x k (keys_of es) (ap keys_of e ∙ packed_keys table x (edges table x)) (λ m h. none m (omega arith))

-- the keysym at an index is that of the node's edge
pub index_read : (table : List Definition) (x : List ℕ) (k i : ℕ) (es : List PackedEdge) → es ≡ map packed_edge (map (edge_of table x) (edges table x)) → i < length es → slice_index (keys_of es) i ≡ k
    → (i < length (edges table x)) × (slice_get (edges table x) i ≡ Some k)
index_read table x k i es e h is =
    let n : length (keys_of es) ≡ length es = keys_length es in
    key_read (edges table x) (keys_of es) k i (ap keys_of e ∙ packed_keys table x (edges table x)) (omega arith) is

-- an edge that is packed is the table's edge of its keysym
packed_edge_is : (table : List Definition) (x : List ℕ) (i : ℕ) (es : List PackedEdge) (e : PackedEdge) → es ≡ map packed_edge (map (edge_of table x) (edges table x)) → i < length es
    → e ≡ get_or es i e → e ≡ packed_edge (edge_of table x (get_or (edges table x) i 0))
packed_edge_is table x i es e es_are h at =
    let n : length es ≡ length (edges table x) = ap length es_are ∙ length-map (map (edge_of table x) (edges table x)) packed_edge ∙ length-map (edges table x) (edge_of table x) in
    let m : length (map (edge_of table x) (edges table x)) ≡ length (edges table x) = length-map (edges table x) (edge_of table x) in
    at ∙ ap (λ y. get_or y i e) es_are ∙ get_or-map packed_edge (map (edge_of table x) (edges table x)) i (edge_of table x 0) e (omega arith)
    ∙ ap packed_edge (get_or-map (edge_of table x) (edges table x) i 0 (edge_of table x 0) (omega arith))

-- a packed edge at an index of a node has the keysym of the edge there, and leads where that leads
pub edge_read : (table : List Definition) (x : List ℕ) (i : ℕ) (es : List PackedEdge) (e : PackedEdge) (t : Target) → es ≡ map packed_edge (map (edge_of table x) (edges table x)) → i < length es
    → e ≡ get_or es i e → t ≡ unpacked_target e.target
    → (slice_get (edges table x) i ≡ Some e.keysym) × (target_of table x e.keysym ≡ Some t)
edge_read table x i es e t es_are h at unpacked_is =
    let k = get_or (edges table x) i 0 in
    let n : length es ≡ length (edges table x) = ap length es_are ∙ length-map (map (edge_of table x) (edges table x)) packed_edge ∙ length-map (edges table x) (edge_of table x) in
    let is : e ≡ packed_edge (edge_of table x k) = packed_edge_is table x i es e es_are h at in
    let key : e.keysym ≡ k = ap (λ (y : PackedEdge). y.keysym) is in
    let got : slice_get (edges table x) i ≡ Some k = slice_get-get_or (edges table x) i 0 (omega arith) in
    let listed = any_passes_from_place (λ j. k == j) (edges table x) i k got (eq-eqb k k refl) in
    let lead : t ≡ where_to table (x ++ k ∷ []) = unpacked_is ∙ ap (λ (y : PackedEdge). unpacked_target y.target) is ∙ unpack_target (where_to table (x ++ k ∷ [])) in
    (got ∙ ap (λ j. Some j) (sym key), ap (target_of table x) key ∙ target_at_edge table x k (listed_edge table x k listed) ∙ ap (λ y. Some y) (sym lead))

-- a node has as many packed edges as edges
pub edges_counted : (table : List Definition) (x : List ℕ) (es : List PackedEdge) → es ≡ map packed_edge (map (edge_of table x) (edges table x)) → length es ≡ length (edges table x)
edges_counted table x es e = ap length e ∙ length-map (map (edge_of table x) (edges table x)) packed_edge ∙ length-map (edges table x) (edge_of table x)

-- arrays that are those of their meaning are those of this table, if it is their meaning
pub packed_as : (nodes' : List PackedNode) (edges' : List PackedEdge) (entries long : List ℕ) (table : List Definition) → IsPacked nodes' edges' entries long (unpacked nodes' edges' entries long)
    → unpacked nodes' edges' entries long ≡ table → IsPacked nodes' edges' entries long table
packed_as nodes' edges' entries long table p e = subst (IsPacked nodes' edges' entries long) e p

-- the arrays of a table mean that table
pub unpack_packed : (nodes' : List PackedNode) (edges' : List PackedEdge) (entries long : List ℕ) (table : List Definition) → IsPacked nodes' edges' entries long table
    → unpacked nodes' edges' entries long ≡ table
unfolding unpacked
unpack_packed nodes' edges' entries long table p =
    ap (λ x. with_texts (spelled (unpacked_rows x edges') 32 0) (unpacked_texts entries long)) p.nodes_are
    ∙ ap (λ x. with_texts (spelled (unpacked_rows (packed_nodes 0 (rows_of table)) x) 32 0) (unpacked_texts entries long)) p.edges_are
    ∙ ap (λ rows. with_texts (spelled rows 32 0) (unpacked_texts entries long)) (unpack_rows (rows_of table))
    ∙ ap (with_texts (spelled (rows_of table) 32 0)) (unpack_texts (texts_of table) entries long p.entries_are)
    ∙ ap (λ ss. with_texts ss (texts_of table)) (spelled_all table p.settled 32 (omega arith)) ∙ put_together table
