-- Rows as one list of edges with their nodes: the effect of one more row or edge.
use Rattle.std.proofs.Common.{◌≡◌, ℕ, zero, suc, ◌+◌, ◌<◌, ◌≤◌, List, [], ◌∷◌, ◌++◌, Bool, cond, length, map, set, get_or, take, drop, replicate, refl, sym, ◌∙◌, ap, arith, zero-add, add-one, length-append, drop-cons}
use Rattle.std.specs.Prelude.{nat_eq}
use Rattle.std.specs.List.{filter}
use Rattle.std.proofs.Math.Seq.{take-suc}
use Rattle.std.proofs.lemmas.Bool.{eq-eqb, ne_eqb}
use Rattle.std.proofs.lemmas.List.{append-nil, map-append, map-set, get_or-map}
use Rattle.std.proofs.lemmas.List.Elements.{filter-append, All-head, All-tail}
use Rattle.compose_tree.specs.declared.edge.Edge.{Edge}
use Rattle.compose_tree.specs.declared.edge.NodeEdge.{NodeEdge}
use Rattle.compose_tree.specs.Rows.{NodeRow, row_at, with_edge, counts_of, edges_at, gathered_rows, AreAtNodes}

-- ---- the edges of one node

-- the edges of a node in two lists in a row are those in the first, followed by those in the second
pub edges_join : (i : ℕ) (es fs : List NodeEdge) → edges_at i (es ++ fs) ≡ edges_at i es ++ edges_at i fs
edges_join i es fs =
    ap (map (λ (e : NodeEdge). e.edge)) (filter-append (λ (e : NodeEdge). nat_eq e.node i) es fs)
    ∙ map-append (λ (e : NodeEdge). e.edge) (filter (λ (e : NodeEdge). nat_eq e.node i) es) (filter (λ (e : NodeEdge). nat_eq e.node i) fs)

first_if : ℕ → NodeEdge → List NodeEdge → Bool → List Edge
first_if i e es b = map (λ (x : NodeEdge). x.edge) (cond b (e ∷ filter (λ (x : NodeEdge). nat_eq x.node i) es) (filter (λ (x : NodeEdge). nat_eq x.node i) es))

-- an edge of a node before others is the first one of that node
pub own_first : (i : ℕ) (e : NodeEdge) (es : List NodeEdge) → e.node ≡ i → edges_at i (e ∷ es) ≡ e.edge ∷ edges_at i es
unfolding first_if
own_first i e es own = ap (first_if i e es) (eq-eqb e.node i own)

-- an edge of another node before others leaves the edges of a node unchanged
pub other_first : (i : ℕ) (e : NodeEdge) (es : List NodeEdge) → (e.node ≡ i → ⊥) → edges_at i (e ∷ es) ≡ edges_at i es
unfolding first_if
other_first i e es other = ap (first_if i e es) (ne_eqb e.node i other)

-- an edge of a node after others is the last one of that node
pub own_last : (i : ℕ) (es : List NodeEdge) (e : NodeEdge) → e.node ≡ i → edges_at i (es ++ e ∷ []) ≡ edges_at i es ++ e.edge ∷ []
own_last i es e own = edges_join i es (e ∷ []) ∙ ap (λ x. edges_at i es ++ x) (own_first i e [] own)

-- an edge of another node after others leaves the edges of a node unchanged
pub other_last : (i : ℕ) (es : List NodeEdge) (e : NodeEdge) → (e.node ≡ i → ⊥) → edges_at i (es ++ e ∷ []) ≡ edges_at i es
other_last i es e other = edges_join i es (e ∷ []) ∙ ap (λ x. edges_at i es ++ x) (other_first i e [] other) ∙ append-nil (edges_at i es)

-- a node after those of all edges has none
no_edges : (i : ℕ) (es : List NodeEdge) → AreAtNodes i es → edges_at i es ≡ []
no_edges i [] below = refl
no_edges i (e ∷ es) below =
    let P = λ (x : NodeEdge). x.node < i in
    other_first i e es (λ same. omega (arith, same, All-head P e es below)) ∙ no_edges i es (All-tail P e es below)

-- ---- one more edge

-- an edge at none of these nodes changes none of their rows
gathered_elsewhere : (i : ℕ) (ds : List ℕ) (es : List NodeEdge) (e : NodeEdge) → ((j : ℕ) → i ≤ j → j < i + length ds → e.node ≡ j → ⊥) → gathered_rows i ds (es ++ e ∷ []) ≡ gathered_rows i ds es
gathered_elsewhere i [] es e apart = refl
gathered_elsewhere i (d ∷ ds) es e apart =
    let here = other_last i es e (apart i (omega arith) (omega arith)) in
    let later = gathered_elsewhere (1 + i) ds es e (λ j from below. apart j (omega arith) (omega arith)) in
    λ t. record { depth = d; edges = here t } ∷ later t

-- an edge at node k of these, which is number i + k of all
gathered_edge : (i k : ℕ) (ds : List ℕ) (es : List NodeEdge) (e : NodeEdge) → e.node ≡ i + k → k < length ds → gathered_rows i ds (es ++ e ∷ []) ≡ with_edge (gathered_rows i ds es) k e.edge
gathered_edge i k [] es e at h = absurd (omega arith)
gathered_edge i zero (d ∷ ds) es e at h =
    let here = own_last i es e (omega arith) in
    let later = gathered_elsewhere (1 + i) ds es e (λ j from below same. omega arith) in
    λ t. record { depth = d; edges = here t } ∷ later t
gathered_edge i (suc k) (d ∷ ds) es e at h =
    let here = other_last i es e (λ same. omega arith) in
    let later = gathered_edge (1 + i) k ds es e (omega arith) (omega arith) in
    λ t. record { depth = d; edges = here t } ∷ later t

-- one more edge is at its node
pub edge_gathered : (ds : List ℕ) (es : List NodeEdge) (e : NodeEdge) → e.node < length ds → gathered_rows 0 ds (es ++ e ∷ []) ≡ with_edge (gathered_rows 0 ds es) e.node e.edge
edge_gathered ds es e h = gathered_edge 0 e.node ds es e (omega arith) h

-- there are as many rows as depths
pub rows_count : (i : ℕ) (ds : List ℕ) (es : List NodeEdge) → length (gathered_rows i ds es) ≡ length ds
rows_count i [] es = refl
rows_count i (d ∷ ds) es = ap suc (rows_count (1 + i) ds es)

-- ---- one more row

gathered_row : (i : ℕ) (ds : List ℕ) (d : ℕ) (es : List NodeEdge) → gathered_rows i (ds ++ d ∷ []) es ≡ gathered_rows i ds es ++ record { depth = d; edges = edges_at (i + length ds) es } ∷ []
gathered_row i [] d es = let e : i ≡ i + 0 = omega arith in λ t. record { depth = d; edges = edges_at (e t) es } ∷ []
gathered_row i (c ∷ ds) d es =
    let row : NodeRow = record { depth = c; edges = edges_at i es } in
    let e : (1 + i) + length ds ≡ i + suc (length ds) = omega arith in
    ap (λ rows. row ∷ rows) (gathered_row (1 + i) ds d es ∙ (λ t. gathered_rows (1 + i) ds es ++ record { depth = d; edges = edges_at (e t) es } ∷ []))

-- a row with one edge
pub row_opened : (ds ds' : List ℕ) (es es' : List NodeEdge) (depth node : ℕ) (edge : Edge) → AreAtNodes (length ds) es → node ≡ length ds → ds' ≡ ds ++ depth ∷ []
    → es' ≡ es ++ record { node = node; edge = edge } ∷ []
    → gathered_rows 0 ds' es' ≡ gathered_rows 0 ds es ++ record { depth = depth; edges = edge ∷ [] } ∷ []
row_opened ds ds' es es' depth node edge below last longer more =
    let e : NodeEdge = record { node = node; edge = edge } in
    let one : edges_at (0 + length ds) (es ++ e ∷ []) ≡ edge ∷ [] =
    ap (λ n. edges_at n (es ++ e ∷ [])) (zero-add (length ds)) ∙ own_last (length ds) es e last ∙ ap (λ x. x ++ edge ∷ []) (no_edges (length ds) es below) in
    ap (λ x. gathered_rows 0 x es') longer ∙ ap (gathered_rows 0 (ds ++ depth ∷ [])) more ∙ gathered_row 0 ds depth (es ++ e ∷ [])
    ∙ ap (λ rows. rows ++ record { depth = depth; edges = edges_at (0 + length ds) (es ++ e ∷ []) } ∷ []) (gathered_elsewhere 0 ds es e (λ j from under same. omega arith))
    ∙ (λ t. gathered_rows 0 ds es ++ record { depth = depth; edges = one t } ∷ [])

-- ---- along the edges

-- the edges before an index and the one there
pub one_more_edge : (es : List NodeEdge) (k : ℕ) (e : NodeEdge) → k < length es → e ≡ get_or es k e → take (k + 1) es ≡ take k es ++ e ∷ []
one_more_edge es k e h is = rw add-one (take-suc es k e h ∙ ap (λ x. take k es ++ x ∷ []) (sym is))

-- the edge at an index and those after it
pub edges_left : (es : List NodeEdge) (k : ℕ) (e : NodeEdge) → k < length es → e ≡ get_or es k e → drop k es ≡ e ∷ drop (k + 1) es
edges_left es k e h is = rw add-one (drop-cons es k e h ∙ ap (λ x. x ∷ drop (suc k) es) (sym is))

-- its node is one of these
pub node_there : (ds : List ℕ) (es : List NodeEdge) (k : ℕ) (e : NodeEdge) → AreAtNodes (length ds) es → k < length es → e ≡ get_or es k e → e.node < length ds
node_there ds es k e at_nodes h is = let n : e.node ≡ (get_or es k e).node = ap (λ (x : NodeEdge). x.node) is in omega (arith, n, at_nodes k e h)

-- the rows with the edges up to and with the one at an index
pub next_gathered : (ds : List ℕ) (es : List NodeEdge) (k : ℕ) (e : NodeEdge) → AreAtNodes (length ds) es → k < length es → e ≡ get_or es k e
    → gathered_rows 0 ds (take (k + 1) es) ≡ with_edge (gathered_rows 0 ds (take k es)) e.node e.edge
next_gathered ds es k e at_nodes h is = ap (gathered_rows 0 ds) (one_more_edge es k e h is) ∙ edge_gathered ds (take k es) e (node_there ds es k e at_nodes h is)

-- ---- counts

-- without an edge each node has the count 0
pub counts_none : (i : ℕ) (ds : List ℕ) → counts_of (gathered_rows i ds []) ≡ replicate (length ds) 0
counts_none i [] = refl
counts_none i (d ∷ ds) = ap (λ x. 0 ∷ x) (counts_none (1 + i) ds)

-- the count of a node is the number of its edges
pub count_at : (i k d : ℕ) (ds : List ℕ) (es : List NodeEdge) → k < length ds → get_or (counts_of (gathered_rows i ds es)) k d ≡ length (edges_at (i + k) es)
count_at i k d [] es h = absurd (omega arith)
count_at i zero d (c ∷ ds) es h = let e : i ≡ i + 0 = omega arith in ap (λ n. length (edges_at n es)) e
count_at i (suc k) d (c ∷ ds) es h = let e : (1 + i) + k ≡ i + suc k = omega arith in count_at (1 + i) k d ds es (omega arith) ∙ ap (λ n. length (edges_at n es)) e

-- one more edge is counted at its node
pub one_counted : (rows : List NodeRow) (n c : ℕ) (edge : Edge) → n < length rows → c ≡ get_or (counts_of rows) n c → counts_of (with_edge rows n edge) ≡ set (counts_of rows) n (c + 1)
one_counted rows n c edge h is =
    let none : NodeRow = record { depth = 0; edges = [] } in
    let count = λ (row : NodeRow). length row.edges in
    let before : c ≡ length (row_at rows n).edges = is ∙ get_or-map count rows n none c h in
    let more : length ((row_at rows n).edges ++ edge ∷ []) ≡ c + 1 = length-append (row_at rows n).edges (edge ∷ []) ∙ ap (λ x. x + 1) (sym before) in
    map-set count rows n (record { depth = (row_at rows n).depth; edges = (row_at rows n).edges ++ edge ∷ [] }) ∙ ap (set (counts_of rows) n) more
