-- One definition of a settled table after another: what each adds, by its index.
use Rattle.std.proofs.Common.{◌≡◌, ℕ, true, suc, ◌+◌, ◌-◌, ◌<◌, ◌≤◌, List, [], ◌∷◌, ◌++◌, length, map, get_or, take, drop, refl, sym, ◌∙◌, ap, subst, arith, nat_cmp, add-one, length-append, length-take, length-take-le, length-set}
use Rattle.std.specs.Cmp.Lexicographic.{slice_cmp}
use Rattle.std.proofs.Math.Seq.{take-suc}
use Rattle.std.proofs.lemmas.List.{get_or-take, get_or_default, length-map, take-append-drop}
use Rattle.compose_model.specs.Table.{Definition}
use Rattle.compose_model.specs.Nodes.{put, put_by, proper_prefixes, nodes, leaves, number_of}
use Rattle.compose_model.proofs.NodeLemmas.{number_below}
use Rattle.compose_read.specs.Settle.{sequences_rise, IsSettled}
use Rattle.compose_tree.specs.declared.edge.Edge.{Edge}
use Rattle.compose_tree.specs.declared.table.Target.{Target}
use Rattle.compose_tree.specs.declared.table.Target.TheVariants.{Node}
use Rattle.compose_tree.specs.Rows.{NodeRow, rows_of, row_of, row_at, next_target, new_rows, with_edge, path_of, last_sequence, shared, shared_with_last, sequence_at, counted}
use Rattle.compose_tree.proofs.OneMore.{parent_is_node}
use Rattle.compose_tree.proofs.MoreRows.{map_of_map, rows_more, more_nodes, path_more, last_sequence_more}
use Rattle.compose_tree.proofs.NextIn.{Next, next_of_settled, settled_prefix, nodes_grow, head_before, tail_rises}

-- sequences in increasing order are the leaves
pub leaves_are : (table : List Definition) → sequences_rise table ≡ true → leaves table ≡ map (λ d. d.sequence) table
leaves_are [] h = refl
leaves_are (d ∷ []) h = refl
leaves_are (d ∷ e ∷ table) h =
    let rest = map (λ (c : Definition). c.sequence) table in
    ap (put (slice_cmp nat_cmp) d.sequence) (leaves_are (e ∷ table) (tail_rises d e table h))
    ∙ ap (λ o. put_by o d.sequence e.sequence rest (put (slice_cmp nat_cmp) d.sequence rest)) (head_before d e table h)

-- one more definition
pub take_more : (all : List Definition) (i : ℕ) → i < length all → take (i + 1) all ≡ take i all ++ get_or all i (record { sequence = []; text = [] }) ∷ []
take_more all i h = rw add-one (take-suc all i (record { sequence = []; text = [] }) h)

-- the first definitions of a settled table are a settled table
pub settled_take : (all : List Definition) (i : ℕ) → IsSettled all → IsSettled (take i all)
settled_take all i s = settled_prefix (take i all) (drop i all) (subst IsSettled (sym (take-append-drop i all)) s)

-- the last sequence of a prefix is the one before its end
pub last_of_prefix : (all : List Definition) (i : ℕ) → i < length all → last_sequence (take (i + 1) all) ≡ sequence_at all i
last_of_prefix all i h = ap last_sequence (take_more all i h) ∙ last_sequence_more (take i all) (get_or all i (record { sequence = []; text = [] }))

-- the parts of a list around one keysym
key_at : (p rest : List ℕ) (k : ℕ) → get_or ((p ++ k ∷ []) ++ rest) (length p) 0 ≡ k
key_at [] rest k = refl
key_at (j ∷ p) rest k = key_at p rest k

rest_after : (p rest : List ℕ) (k : ℕ) → drop (suc (length p)) ((p ++ k ∷ []) ++ rest) ≡ rest
rest_after [] rest k = refl
rest_after (j ∷ p) rest k = rest_after p rest k

number_on : (f : List ℕ → ℕ) (p : List ℕ) (k : ℕ) → get_or (map f (proper_prefixes (p ++ k ∷ []))) (length p) 0 ≡ f p
number_on f [] k = refl
number_on f (j ∷ p) k = ap (λ xs. get_or xs (length p) 0) (map_of_map f (λ q. j ∷ q) (proper_prefixes (p ++ k ∷ []))) ∙ number_on (λ q. f (j ∷ q)) p k

way_length : (f : List ℕ → ℕ) (p : List ℕ) (k : ℕ) → length (map f (proper_prefixes (p ++ k ∷ []))) ≡ suc (length p)
way_length f [] k = refl
way_length f (j ∷ p) k = ap (λ xs. suc (length xs)) (map_of_map f (λ q. j ∷ q) (proper_prefixes (p ++ k ∷ []))) ∙ ap suc (way_length (λ q. f (j ∷ q)) p k)

-- what a sequence adds to the rows before it and to the path, along which its first c keysyms lead;
-- i is the number of its leaf
pub record Adds (rows : List NodeRow) (path s : List ℕ) (i c : ℕ) (longer : List Definition) : Type 0 where
  pub within : c < length s
  pub way : c < length path
  pub parent : get_or path c 0 < length rows
  pub nodes_count : length (nodes longer) ≡ length rows + (length s - (c + 1))
  pub more_rows : rows_of longer
      ≡ with_edge rows (get_or path c 0) (record { keysym = get_or s c 0; target = next_target (length rows) i (drop (c + 1) s) }) ++ new_rows (length rows) i (c + 1) (drop (c + 1) s)
  pub more_path : path_of longer ≡ take (c + 1) path ++ counted (length rows) (drop (c + 1) s)

module _ (table : List Definition) (d : Definition) (i : ℕ) (n : Next table d) (leaf : length (leaves table) ≡ i) where
  prefix_length : length (n.prefix ++ n.key ∷ []) ≡ length n.prefix + 1
  prefix_length = length-append n.prefix (n.key ∷ [])

  sequence_length : length d.sequence ≡ length n.prefix + 1 + length n.rest
  sequence_length = ap length n.next.sequence ∙ length-append (n.prefix ++ n.key ∷ []) n.rest ∙ ap (λ x. x + length n.rest) prefix_length

  key_is : n.key ≡ get_or d.sequence (length n.prefix) 0
  key_is = sym (ap (λ s. get_or s (length n.prefix) 0) n.next.sequence ∙ key_at n.prefix n.rest n.key)

  rest_is : n.rest ≡ drop (length n.prefix + 1) d.sequence
  rest_is = sym (rw add-one (ap (drop (suc (length n.prefix))) n.next.sequence ∙ rest_after n.prefix n.rest n.key))

  way_at : take (length n.prefix + 1) (path_of table) ≡ map (number_of table) (proper_prefixes (n.prefix ++ n.key ∷ []))
  way_at = rw add-one n.way

  on_the_way : length n.prefix < length (path_of table)
  on_the_way =
      let e : length (take (length n.prefix + 1) (path_of table)) ≡ suc (length n.prefix) = ap length way_at ∙ way_length (number_of table) n.prefix n.key in
      omega (arith, length-take (length n.prefix + 1) (path_of table))

  parent_is : number_of table n.prefix ≡ get_or (path_of table) (length n.prefix) 0
  parent_is =
      sym (sym (get_or-take (length n.prefix + 1) (path_of table) (length n.prefix) 0 (omega arith)) ∙ ap (λ xs. get_or xs (length n.prefix) 0) way_at ∙ number_on (number_of table) n.prefix n.key)

  rows_count : length (nodes table) ≡ length (rows_of table)
  rows_count = sym (length-map (nodes table) (row_of table))

  shape : (number key node leaf' depth : ℕ) (rest : List ℕ) → List NodeRow
  shape number key node leaf' depth rest = with_edge (rows_of table) number (record { keysym = key; target = next_target node leaf' rest }) ++ new_rows node leaf' depth rest

  next_adds : Adds (rows_of table) (path_of table) d.sequence i (length n.prefix) (table ++ d ∷ [])
  unfolding shape
  next_adds = record {
    within = omega (arith, sequence_length);
    way = on_the_way;
    parent = (let below : number_of table n.prefix < length (nodes table) = number_below table n.prefix (parent_is_node table d n.prefix n.key n.rest n.next) in omega (arith, parent_is, rows_count));
    nodes_count = (let e : length (nodes (table ++ d ∷ [])) ≡ length (nodes table) + length n.rest = more_nodes table d n.prefix n.key n.rest n.next in omega (arith, sequence_length, rows_count));
    more_rows = rows_more table d n.prefix n.key n.rest n.next
        ∙ ap (λ x. shape x n.key (length (nodes table)) (length (leaves table)) (length (n.prefix ++ n.key ∷ [])) n.rest) parent_is
        ∙ ap (λ x. shape (get_or (path_of table) (length n.prefix) 0) x (length (nodes table)) (length (leaves table)) (length (n.prefix ++ n.key ∷ [])) n.rest) key_is
        ∙ ap (λ x. shape (get_or (path_of table) (length n.prefix) 0) (get_or d.sequence (length n.prefix) 0) x (length (leaves table)) (length (n.prefix ++ n.key ∷ [])) n.rest) rows_count
        ∙ ap (λ x. shape (get_or (path_of table) (length n.prefix) 0) (get_or d.sequence (length n.prefix) 0) (length (rows_of table)) x (length (n.prefix ++ n.key ∷ [])) n.rest) leaf
        ∙ ap (λ x. shape (get_or (path_of table) (length n.prefix) 0) (get_or d.sequence (length n.prefix) 0) (length (rows_of table)) i x n.rest) prefix_length
        ∙ ap (λ x. shape (get_or (path_of table) (length n.prefix) 0) (get_or d.sequence (length n.prefix) 0) (length (rows_of table)) i (length n.prefix + 1) x) rest_is;
    more_path = path_more table d n.prefix n.key n.rest n.next n.way
        ∙ ap (λ x. take x (path_of table) ++ counted (length (nodes table)) n.rest) (sym (add-one (length n.prefix)))
        ∙ ap (λ x. take (length n.prefix + 1) (path_of table) ++ counted x n.rest) rows_count
        ∙ ap (λ x. take (length n.prefix + 1) (path_of table) ++ counted (length (rows_of table)) x) rest_is;
  }

-- there are as many leaves as definitions
pub leaf_count : (all : List Definition) (i : ℕ) → IsSettled all → i ≤ length all → length (leaves (take i all)) ≡ i
leaf_count all i s h =
    let t = settled_take all i s in
    ap length (leaves_are (take i all) t.rise) ∙ length-map (take i all) (λ (d : Definition). d.sequence) ∙ length-take-le i all h

-- what the definition at an index of a settled table adds to those before it
pub adds_at : (all : List Definition) (i : ℕ) → IsSettled all → i < length all
    → Adds (rows_of (take i all)) (path_of (take i all)) (sequence_at all i) i (shared_with_last (take i all) (sequence_at all i)) (take (i + 1) all)
adds_at all i s h =
    let d = get_or all i (record { sequence = []; text = [] }) in
    let table = take i all in
    let more = take_more all i h in
    let n = next_of_settled table d (subst IsSettled more (settled_take all (i + 1) s)) in
    subst (λ (longer : List Definition). Adds (rows_of table) (path_of table) d.sequence i (shared_with_last table d.sequence) longer) (sym more)
    (subst (λ (c : ℕ). Adds (rows_of table) (path_of table) d.sequence i c (table ++ d ∷ [])) (sym n.count) (next_adds table d i n (leaf_count all i s (omega arith))))

-- the same for the values in the code at that index
pub adds_here : (all : List Definition) (i : ℕ) (rows : List NodeRow) (path s : List ℕ) (c : ℕ) → IsSettled all → i < length all → rows ≡ rows_of (take i all) → path ≡ path_of (take i all)
    → s ≡ sequence_at all i → c ≡ shared_with_last (take i all) (sequence_at all i) → Adds rows path s i c (take (i + 1) all)
adds_here all i rows path s c settled h rows_are path_is sequence_is shared_is =
    let longer = take (i + 1) all in
    let c' = shared_with_last (take i all) (sequence_at all i) in
    subst (λ (x : List NodeRow). Adds x path s i c longer) (sym rows_are)
    (subst (λ (x : List ℕ). Adds (rows_of (take i all)) x s i c longer) (sym path_is)
    (subst (λ (x : List ℕ). Adds (rows_of (take i all)) (path_of (take i all)) x i c longer) (sym sequence_is)
    (subst (λ (x : ℕ). Adds (rows_of (take i all)) (path_of (take i all)) (sequence_at all i) i x longer) (sym shared_is) (adds_at all i settled h))))

-- a prefix has no more nodes than the whole
pub prefix_nodes : (all : List Definition) (i : ℕ) → IsSettled all → length (nodes (take i all)) ≤ length (nodes all)
prefix_nodes all i s =
    let e = take-append-drop i all in
    let grown = nodes_grow (take i all) (drop i all) (subst IsSettled (sym e) s) in
    let same_count : length (nodes (take i all ++ drop i all)) ≡ length (nodes all) = ap (λ t. length (nodes t)) e in
    omega arith

-- what is shared with the sequence at an index is shared with the last one up to it
pub shared_on : (all : List Definition) (i : ℕ) (t s : List ℕ) → i < length all → t ≡ sequence_at all i → shared t s ≡ shared_with_last (take (i + 1) all) s
shared_on all i t s h is =
    ap (λ x. shared x s) (is ∙ sym (last_of_prefix all i h))

-- nothing is shared with nothing
pub shared_nothing : (s : List ℕ) → shared s [] ≡ 0
shared_nothing [] = refl
shared_nothing (j ∷ s) = refl

-- if keysyms are left, an edge leads to the next node
pub next_is_node : (node leaf : ℕ) (rest : List ℕ) → 0 < length rest → Node (record { 0 = node }) ≡ next_target node leaf rest
next_is_node node leaf [] h = absurd (omega arith)
next_is_node node leaf (k ∷ rest) h = refl

-- the rows and the path after the edge is added and the nodes are opened
module _ (rows : List NodeRow) (path s : List ℕ) (i c : ℕ) (longer : List Definition) (a : Adds rows path s i c longer) where
  edge_put : (key node m : ℕ) (target : Target) (rows' : List NodeRow) → key ≡ get_or s c key → node ≡ get_or path c node → m ≡ length rows → target ≡ next_target m i (drop (c + 1) s)
      → rows' ≡ with_edge rows node (record { keysym = key; target = target })
      → rows' ≡ with_edge rows (get_or path c 0) (record { keysym = get_or s c 0; target = next_target (length rows) i (drop (c + 1) s) })
  edge_put key node m target rows' key_is node_is count_is target_is put_is =
      let key' : key ≡ get_or s c 0 = key_is ∙ get_or_default s c key 0 a.within in
      let node' : node ≡ get_or path c 0 = node_is ∙ get_or_default path c node 0 a.way in
      let target' : target ≡ next_target (length rows) i (drop (c + 1) s) = target_is ∙ ap (λ x. next_target x i (drop (c + 1) s)) count_is in
      put_is ∙ ap (λ x. with_edge rows x (record { keysym = key; target = target })) node' ∙ ap (λ x. with_edge rows (get_or path c 0) (record { keysym = x; target = target })) key'
      ∙ ap (λ x. with_edge rows (get_or path c 0) (record { keysym = get_or s c 0; target = x })) target'

  edge_put_count : (rows' : List NodeRow) (edge : Edge) → rows' ≡ with_edge rows (get_or path c 0) edge → length rows' ≡ length rows
  edge_put_count rows' edge e = ap length e ∙ length-set rows (get_or path c 0) (record { depth = (row_at rows (get_or path c 0)).depth; edges = (row_at rows (get_or path c 0)).edges ++ edge ∷ [] })

  -- with its edge added to the parent and its new nodes opened, the rows are those of the longer
  -- table
  pub rows_after : (key node m : ℕ) (target : Target) (rows' later : List NodeRow) → key ≡ get_or s c key → node ≡ get_or path c node → m ≡ length rows → target ≡ next_target m i (drop (c + 1) s)
      → rows' ≡ with_edge rows node (record { keysym = key; target = target })
      → later ≡ rows' ++ new_rows (length rows') i (c + 1) (drop (c + 1) s) → later ≡ rows_of longer
  rows_after key node m target rows' later key_is node_is count_is target_is put_is opened =
      let edge : Edge = record { keysym = get_or s c 0; target = next_target (length rows) i (drop (c + 1) s) } in
      let put' : rows' ≡ with_edge rows (get_or path c 0) edge = edge_put key node m target rows' key_is node_is count_is target_is put_is in
      opened ∙ ap (λ x. x ++ new_rows (length rows') i (c + 1) (drop (c + 1) s)) put'
      ∙ ap (λ n. with_edge rows (get_or path c 0) edge ++ new_rows n i (c + 1) (drop (c + 1) s)) (edge_put_count rows' edge put') ∙ sym a.more_rows

  -- cut at the parent and continued through the new nodes, the path is that of the longer table
  pub path_after : (node : ℕ) (edge : Edge) (rows' : List NodeRow) (path' onward : List ℕ) → rows' ≡ with_edge rows node edge → path' ≡ take (c + 1) path
      → onward ≡ path' ++ counted (length rows') (drop (c + 1) s) → onward ≡ path_of longer
  path_after node edge rows' path' onward put_is cut opened =
      let n : length rows' ≡ length rows = ap length put_is ∙ length-set rows node (record { depth = (row_at rows node).depth; edges = (row_at rows node).edges ++ edge ∷ [] }) in
      opened ∙ ap (λ x. x ++ counted (length rows') (drop (c + 1) s)) cut ∙ ap (λ x. take (c + 1) path ++ counted x (drop (c + 1) s)) n ∙ sym a.more_path

  -- the longer table has one more row for each keysym of the sequence after the new edge
  pub count_after : (later : List NodeRow) → later ≡ rows_of longer → length later ≡ length rows + (length s - (c + 1))
  count_after later e = ap length e ∙ length-map (nodes longer) (row_of longer) ∙ a.nodes_count
