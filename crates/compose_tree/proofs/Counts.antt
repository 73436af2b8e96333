-- The number of all edges, and bounds on the numbers of their targets.
use Rattle.std.proofs.Common.{◌≡◌, ℕ, zero, suc, ◌+◌, ◌*◌, ◌<◌, ◌≤◌, List, [], ◌∷◌, ◌++◌, Bool, true, false, not, cond, length, map, set, get_or, take, drop, All, refl, sym, ◌∙◌, ap, subst, inl, inr, arith, zero-add, add-zero, add-one, length-append, length-drop}
use Rattle.std.specs.Prelude.{nat_eq, nat_le}
use Rattle.std.specs.List.{filter, position_or_len}
use Rattle.std.proofs.Math.Seq.{take-length}
use Rattle.std.proofs.lemmas.Bool.{cases_Bool, cases_lt, le-leb, lt-leb, eqb-true, eqb-false}
use Rattle.std.proofs.lemmas.List.{length-map, get_or-map}
use Rattle.std.proofs.lemmas.List.Elements.{All-map, All-head, All-tail}
use Rattle.std.proofs.lemmas.List.Sums.{prefix_len-le-length}
use Rattle.compose_model.specs.Table.{Definition, same}
use Rattle.compose_model.specs.Nodes.{nodes, leaves, is_node, edges}
use Rattle.compose_model.proofs.Definitions.{sequence_few, definition_at}
use Rattle.compose_read.specs.Settle.{IsSettled}
use Rattle.compose_tree.specs.declared.edge.Edge.{Edge}
use Rattle.compose_tree.specs.declared.edge.NodeEdge.{NodeEdge}
use Rattle.compose_tree.specs.declared.table.Target.TheVariants.{Node, Leaf}
use Rattle.compose_tree.specs.Rows.{NodeRow, rows_of, row_of, row_at, where_to, edge_of, target_number, next_target, new_rows, with_edge, path_of, sequence_at, edges_at, gathered_rows, AreAtNodes, HaveNumbersBelow}
use Rattle.compose_tree.specs.Packed.{packed_edge, packed_edges}
use Rattle.compose_tree.proofs.Gathering.{own_first, other_first, rows_count}
use Rattle.compose_tree.proofs.Adding.{Adds, adds_at}

-- ---- the edges from a node on

-- the number of edges at nodes from this one on
abbrev pub edges_from : ℕ → List NodeEdge → ℕ
edges_from i es = length (filter (λ (e : NodeEdge). nat_le i e.node) es)

counted_if : ℕ → List NodeEdge → NodeEdge → Bool → ℕ
counted_if i es e b = length (cond b (e ∷ filter (λ (x : NodeEdge). nat_le i x.node) es) (filter (λ (x : NodeEdge). nat_le i x.node) es))

one_from : (i : ℕ) (e : NodeEdge) (es : List NodeEdge) → i ≤ e.node → edges_from i (e ∷ es) ≡ suc (edges_from i es)
unfolding counted_if
one_from i e es h = ap (counted_if i es e) (le-leb i e.node h)

none_from : (i : ℕ) (e : NodeEdge) (es : List NodeEdge) → e.node < i → edges_from i (e ∷ es) ≡ edges_from i es
unfolding counted_if
none_from i e es h = ap (counted_if i es e) (lt-leb i e.node h)

-- the edges of a node, and those of the nodes after it
pub node_and_later : (i : ℕ) (es : List NodeEdge) → length (edges_at i es) + edges_from (i + 1) es ≡ edges_from i es
node_and_later i [] = omega arith
node_and_later i (e ∷ es) =
    let rest = node_and_later i es in
    elim (cases_lt e.node i) [
      | inl below ↦
          (let own = ap length (other_first i e es (λ at. omega (arith, at, below))) in let here = none_from i e es below in
          let behind = none_from (i + 1) e es (omega (arith, below)) in omega (arith, rest, own, here, behind))
      | inr from ↦ elim (cases_lt e.node (i + 1)) [
        | inl at ↦
            (let own = ap length (own_first i e es (omega (arith, from, at))) in let here = one_from i e es from in let behind = none_from (i + 1) e es at in omega (arith, rest, own, here, behind))
        | inr later ↦
            (let own = ap length (other_first i e es (λ at. omega (arith, at, later))) in
            let here = one_from i e es from in let behind = one_from (i + 1) e es later in omega (arith, rest, own, here, behind))
      ]
    ]

-- all edges are at nodes from the first one on
pub all_from : (es : List NodeEdge) → edges_from 0 es ≡ length es
all_from [] = refl
all_from (e ∷ es) = let here = one_from 0 e es (omega arith) in let rest = all_from es in omega arith

-- there are at most as many edges at nodes from one on as there are edges
pub few_from : (i : ℕ) (es : List NodeEdge) → edges_from i es ≤ length es
few_from i [] = omega arith
few_from i (e ∷ es) =
    let rest = few_from i es in
    elim (cases_lt e.node i) [
      | inl below ↦ (let here = none_from i e es below in omega (arith, here, rest))
      | inr from ↦ (let here = one_from i e es from in omega (arith, here, rest))
    ]

nothing_from : (i : ℕ) (es : List NodeEdge) → AreAtNodes i es → edges_from i es ≡ 0
nothing_from i [] below = refl
nothing_from i (e ∷ es) below = let P = λ (x : NodeEdge). x.node < i in none_from i e es (All-head P e es below) ∙ nothing_from i es (All-tail P e es below)

-- ---- the edges of rows

abbrev edge_total : List NodeRow → ℕ
edge_total [] = 0
edge_total (row ∷ rows) = length row.edges + edge_total rows

total_gathered : (i : ℕ) (ds : List ℕ) (es : List NodeEdge) → edge_total (gathered_rows i ds es) + edges_from (i + length ds) es ≡ edges_from i es
total_gathered i [] es = let same = ap (λ n. edges_from n es) (add-zero i) in omega arith
total_gathered i (d ∷ ds) es =
    let first = node_and_later i es in let rest = total_gathered (1 + i) ds es in
    let next = let n : i + 1 ≡ 1 + i = omega arith in ap (λ n. edges_from n es) n in
    let end = let n : i + length (d ∷ ds) ≡ 1 + i + length ds = omega arith in ap (λ n. edges_from n es) n in
    omega (arith, first, rest, next, end)

edges_total : (ds : List ℕ) (es : List NodeEdge) → AreAtNodes (length ds) es → length es ≡ edge_total (gathered_rows 0 ds es)
edges_total ds es at_nodes =
    let total = total_gathered 0 ds es in let all = all_from es in
    let end = ap (λ n. edges_from n es) (zero-add (length ds)) ∙ nothing_from (length ds) es at_nodes in
    omega (arith, total, all, end)

total_packed : (rows : List NodeRow) → length (packed_edges rows) ≡ edge_total rows
total_packed [] = refl
total_packed (row ∷ rows) = length-append (map packed_edge row.edges) (packed_edges rows) ∙ ap (λ n. n + length (packed_edges rows)) (length-map row.edges packed_edge) ∙ ap (λ n. length row.edges + n) (total_packed rows)

-- no edge is lost or added by gathering and packing
pub edges_packed : (ds : List ℕ) (es : List NodeEdge) → AreAtNodes (length ds) es → length (packed_edges (gathered_rows 0 ds es)) ≡ length es
edges_packed ds es at_nodes = total_packed (gathered_rows 0 ds es) ∙ sym (edges_total ds es at_nodes)

total_join : (rows more : List NodeRow) → edge_total (rows ++ more) ≡ edge_total rows + edge_total more
total_join [] more = omega arith
total_join (row ∷ rows) more = let rest = total_join rows more in omega (arith, rest)

total_set : (rows : List NodeRow) (n : ℕ) (row d : NodeRow) → n < length rows → edge_total (set rows n row) + length (get_or rows n d).edges ≡ edge_total rows + length row.edges
total_set [] n row d h = absurd (omega arith)
total_set (r ∷ rows) zero row d h = omega arith
total_set (r ∷ rows) (suc n) row d h = let rest = total_set rows n row d (omega arith) in omega (arith, rest)

total_with_edge : (rows : List NodeRow) (n : ℕ) (edge : Edge) → n < length rows → edge_total (with_edge rows n edge) ≡ edge_total rows + 1
total_with_edge rows n edge h =
    let put = total_set rows n (record { depth = (row_at rows n).depth; edges = (row_at rows n).edges ++ edge ∷ [] }) (record { depth = 0; edges = [] }) h in
    let more = length-append (row_at rows n).edges (edge ∷ []) in omega (arith, put, more)

total_new : (node leaf depth : ℕ) (rest : List ℕ) → edge_total (new_rows node leaf depth rest) ≡ length rest
total_new node leaf depth [] = refl
total_new node leaf depth (k ∷ rest) = let behind = total_new (1 + node) leaf (1 + depth) rest in omega (arith, behind)

-- a sequence adds at most one edge for each of its keysyms
total_added : (rows : List NodeRow) (path s : List ℕ) (i c : ℕ) (longer : List Definition) → Adds rows path s i c longer → edge_total (rows_of longer) ≤ edge_total rows + length s
total_added rows path s i c longer a =
    let edge : Edge = record { keysym = get_or s c 0; target = next_target (length rows) i (drop (c + 1) s) } in
    let new = new_rows (length rows) i (c + 1) (drop (c + 1) s) in
    let whole = ap edge_total a.more_rows in
    let join = total_join (with_edge rows (get_or path c 0) edge) new in
    let one = total_with_edge rows (get_or path c 0) edge a.parent in
    let opened = total_new (length rows) i (c + 1) (drop (c + 1) s) in
    let left = length-drop (c + 1) s in
    omega (arith, whole, join, one, opened, left, a.within)

total_prefix : (all : List Definition) (i : ℕ) → IsSettled all → i ≤ length all → edge_total (rows_of (take i all)) ≤ 32 * i
total_prefix all zero settled h = omega arith
total_prefix all (suc i) settled h =
    let before = total_prefix all i settled (omega arith) in
    let added = total_added (rows_of (take i all)) (path_of (take i all)) (sequence_at all i) i _ (take (i + 1) all) (adds_at all i settled (omega arith)) in
    let d : Definition = record { sequence = []; text = [] } in
    let few = sequence_few (get_or all i d) (definition_at all i d settled.definitions (omega arith)) in
    let same = ap (λ n. edge_total (rows_of (take n all))) (add-one i) in
    omega (arith, before, added, few, same)

-- a settled table has at most 32 edges for each definition
pub edges_few_in_all : (table : List Definition) (ds : List ℕ) (es : List NodeEdge) → IsSettled table → AreAtNodes (length ds) es → gathered_rows 0 ds es ≡ rows_of table → length es ≤ 32 * length table
edges_few_in_all table ds es settled at_nodes is =
    let total = edges_total ds es at_nodes in let same = ap edge_total is in
    let prefix = total_prefix table (length table) settled (omega arith) in let whole = ap (λ t. edge_total (rows_of t)) (take-length table) in
    omega (arith, total, same, prefix, whole)

-- ---- numbers

offset_few : {X : Type 0} (p : X → Bool) (xs : List X) → position_or_len p xs ≤ length xs
offset_few p xs = prefix_len-le-length (λ x. not (p x)) xs

where_few : (table : List Definition) (q : List ℕ) (end : ℕ) → length (nodes table) < end → length (leaves table) < end → target_number (where_to table q) < end
where_few table q end n l = go (is_node table q)
  where
    go : (b : Bool) → target_number (cond b (Node (record { 0 = position_or_len (same q) (nodes table) })) (Leaf (record { 0 = position_or_len (same q) (leaves table) }))) < end
    go true = let few = offset_few (same q) (nodes table) in omega arith
    go false = let few = offset_few (same q) (leaves table) in omega arith

-- a property of all edges of a node holds for each one of them
known_at : (P : Edge → Type 0) (n : ℕ) (es : List NodeEdge) → All P (edges_at n es) → (k : ℕ) (d : NodeEdge) → k < length es → (get_or es k d).node ≡ n → P (get_or es k d).edge
known_at P n [] all k d h at = absurd (omega arith)
known_at P n (e ∷ es) all zero d h at = All-head P e.edge (edges_at n es) (subst (All P) (own_first n e es at) all)
known_at P n (e ∷ es) all (suc k) d h at = known_at P n es (elim (cases_Bool (nat_eq e.node n)) [
  | inl own ↦ All-tail P e.edge (edges_at n es) (subst (All P) (own_first n e es (eqb-true e.node n own)) all)
  | inr other ↦ subst (All P) (other_first n e es (eqb-false e.node n other)) all
]) k d (omega arith) at

row_gathered : (i n : ℕ) (ds : List ℕ) (es : List NodeEdge) (d : NodeRow) → n < length ds → (get_or (gathered_rows i ds es) n d).edges ≡ edges_at (i + n) es
row_gathered i n [] es d h = absurd (omega arith)
row_gathered i zero (c ∷ ds) es d h = ap (λ m. edges_at m es) (sym (add-zero i))
row_gathered i (suc n) (c ∷ ds) es d h = let e : 1 + i + n ≡ i + suc n = omega arith in row_gathered (1 + i) n ds es d (omega arith) ∙ ap (λ m. edges_at m es) e

-- each edge of the rows leads to one of the nodes or leaves
pub numbers_few : (table : List Definition) (ds : List ℕ) (es : List NodeEdge) (end : ℕ) → length (nodes table) < end → length (leaves table) < end → AreAtNodes (length ds) es
    → gathered_rows 0 ds es ≡ rows_of table → HaveNumbersBelow end es
numbers_few table ds es end n l at_nodes is k d h =
    let node = (get_or es k d).node in
    let none : NodeRow = record { depth = 0; edges = [] } in
    let there : node < length ds = at_nodes k d h in
    let counted = rows_count 0 ds es in let rows = ap length is in let all = length-map (nodes table) (row_of table) in
    let listed : node < length (nodes table) = omega (arith, there, counted, rows, all) in
    let p = get_or (nodes table) node [] in
    let own : edges_at node es ≡ map (edge_of table p) (edges table p) =
    ap (λ m. edges_at m es) (sym (zero-add node)) ∙ sym (row_gathered 0 node ds es none there) ∙ ap (λ rows. (get_or rows node none).edges) is
    ∙ ap (λ (row : NodeRow). row.edges) (get_or-map (row_of table) (nodes table) node [] none listed) in
    let P = λ (e : Edge). target_number e.target < end in
    known_at P node es (subst (All P) (sym own) (All-map P (edge_of table p) (edges table p) (λ _ key _. where_few table (p ++ get_or (edges table p) _ key ∷ []) end n l))) k d h refl
