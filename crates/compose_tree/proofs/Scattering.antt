-- Edges that are put one by one at their nodes' next free offsets.
use Rattle.std.proofs.Common.{◌≡◌, ℕ, zero, suc, ◌+◌, ◌-◌, ◌<◌, List, [], ◌∷◌, ◌++◌, length, map, set, get_or, take, drop, replicate, refl, sym, ◌∙◌, ap, arith, zero-add, add-one, drop-cons, append_assoc, length-append}
use Rattle.std.proofs.Math.Seq.{set-append_seam}
use Rattle.std.proofs.lemmas.List.{append-nil, map-append, length-map, set-append_left, set-append_right, replicate-append-replicate, take-append-drop}
use Rattle.compose_tree.specs.declared.edge.Edge.{Edge}
use Rattle.compose_tree.specs.declared.edge.NodeEdge.{NodeEdge}
use Rattle.compose_tree.specs.declared.packed.PackedEdge.{PackedEdge}
use Rattle.compose_tree.specs.declared.packed.PackedNode.{PackedNode}
use Rattle.compose_tree.specs.Rows.{NodeRow, counts_of, edges_at, gathered_rows, AreAtNodes}
use Rattle.compose_tree.specs.Packed.{packed_edge, packed_nodes, packed_edges}
use Rattle.compose_tree.proofs.Gathering.{edges_join, own_first, other_first, own_last, other_last, one_more_edge, edges_left, node_there, next_gathered, rows_count, count_at, one_counted}
use Rattle.compose_tree.proofs.PackedLookups.{packed_count}

-- the entry of an offset at which no edge was put yet
abbrev pub blank : PackedEdge
blank = record { keysym = 0; target = 0 }

-- the edges of all nodes of these depths, from node i on: for each node its edges that were put,
-- and a blank for each one that is left
abbrev pub laid_edges : ℕ → List ℕ → List NodeEdge → List NodeEdge → List PackedEdge
laid_edges i [] put left = []
laid_edges i (d ∷ depths) put left = (map packed_edge (edges_at i put) ++ map (λ e. blank) (edges_at i left)) ++ laid_edges (1 + i) depths put left

-- ---- one more edge is put

-- the edge e is put, at index q from the first one, which is after the edges of node k that were
-- put
pub record Puts (offset i k : ℕ) (depths : List ℕ) (put : List NodeEdge) (e : NodeEdge) (left : List NodeEdge) : Type 0 where
  pub q : ℕ
  pub next : (d : PackedNode) → (get_or (packed_nodes offset (gathered_rows i depths (put ++ e ∷ left))) k d).first + length (edges_at e.node put) ≡ offset + q
  pub within : q < length (laid_edges i depths put (e ∷ left))
  pub laid_is : laid_edges i depths (put ++ e ∷ []) left ≡ set (laid_edges i depths put (e ∷ left)) q (packed_edge e.edge)

module _ (put : List NodeEdge) (e : NodeEdge) (left : List NodeEdge) where
  laid_elsewhere : (i : ℕ) (ds : List ℕ) → e.node < i → laid_edges i ds (put ++ e ∷ []) left ≡ laid_edges i ds put (e ∷ left)
  laid_elsewhere i [] h = refl
  laid_elsewhere i (d ∷ ds) h =
      let before = other_last i put e (λ same. omega arith) in
      let behind = other_first i e left (λ same. omega arith) in
      let later = laid_elsewhere (1 + i) ds (omega arith) in
      λ t. (map packed_edge (before t) ++ map (λ x. blank) (sym behind t)) ++ later t

  -- the edge at the first of these nodes
  put_here : (offset i : ℕ) (d : ℕ) (ds : List ℕ) → e.node ≡ i → Puts offset i 0 (d ∷ ds) put e left
  put_here offset i d ds own =
      let ps = map packed_edge (edges_at i put) in
      let ls = map (λ (x : Edge). blank) (edges_at i left) in
      let back = laid_edges (1 + i) ds put (e ∷ left) in
      let more = own_last i put e own in
      let fewer = own_first i e left own in
      let n : length ps ≡ length (edges_at i put) = length-map (edges_at i put) packed_edge in
      let joined : length (ps ++ blank ∷ ls) ≡ length ps + suc (length ls) = length-append ps (blank ∷ ls) in
      let all : length ((ps ++ blank ∷ ls) ++ back) ≡ length (ps ++ blank ∷ ls) + length back = length-append (ps ++ blank ∷ ls) back in
      let whole : laid_edges i (d ∷ ds) put (e ∷ left) ≡ (ps ++ blank ∷ ls) ++ back = λ t. (ps ++ map (λ x. blank) (fewer t)) ++ back in
      record {
        q = length ps;
        next = λ d. ap (λ j. offset + length (edges_at j put)) own ∙ ap (λ m. offset + m) (sym n);
        within = omega (arith, ap length whole, all, joined);
        laid_is =
            (λ t. (map packed_edge (more t) ++ ls) ++ laid_elsewhere (1 + i) ds (omega arith) t)
            ∙ ap (λ x. (x ++ ls) ++ back) (map-append packed_edge (edges_at i put) (e.edge ∷ []))
            ∙ ap (λ x. x ++ back) (append_assoc ps (packed_edge e.edge ∷ []) ls)
            ∙ ap (λ x. x ++ back) (sym (set-append_seam ps blank ls (packed_edge e.edge)))
            ∙ sym (set-append_left (ps ++ blank ∷ ls) back (length ps) (packed_edge e.edge) (omega (arith, joined)))
            ∙ ap (λ x. set x (length ps) (packed_edge e.edge)) (sym whole);
      }

  -- the edge at node k of these, which is number i + k of all
  puts : (offset i k : ℕ) (ds : List ℕ) → e.node ≡ i + k → k < length ds → Puts offset i k ds put e left
  puts offset i k [] at h = absurd (omega arith)
  puts offset i zero (d ∷ ds) at h = put_here offset i d ds (omega arith)
  puts offset i (suc k) (d ∷ ds) at h =
      let before = other_last i put e (λ same. omega arith) in
      let behind = other_first i e left (λ same. omega arith) in
      let own = map packed_edge (edges_at i put) ++ map (λ (x : Edge). blank) (edges_at i (e ∷ left)) in
      let later = laid_edges (1 + i) ds put (e ∷ left) in
      let count = length (edges_at i put) + length (edges_at i (e ∷ left)) in
      let n : length own ≡ count =
      length-append (map packed_edge (edges_at i put)) (map (λ (x : Edge). blank) (edges_at i (e ∷ left)))
      ∙ (λ t. length-map (edges_at i put) packed_edge t + length-map (edges_at i (e ∷ left)) (λ (x : Edge). blank) t) in
      let whole : length (edges_at i (put ++ e ∷ left)) ≡ count = ap length (edges_join i put (e ∷ left)) ∙ length-append (edges_at i put) (edges_at i (e ∷ left)) in
      let p = puts (offset + length (edges_at i (put ++ e ∷ left))) (1 + i) k ds (omega arith) (omega arith) in
      let all : length (own ++ later) ≡ length own + length later = length-append own later in
      let on : length own + p.q - length own ≡ p.q = omega arith in
      let behind_count : offset + length (edges_at i (put ++ e ∷ left)) + p.q ≡ offset + (length own + p.q) = omega (arith, n, whole) in
      record {
        q = length own + p.q;
        next = λ d. p.next d ∙ behind_count;
        within = omega (arith, all, p.within);
        laid_is =
            (λ t. (map packed_edge (before t) ++ map (λ (x : Edge). blank) (sym behind t)) ++ laid_edges (1 + i) ds (put ++ e ∷ []) left)
            ∙ ap (λ x. own ++ x) p.laid_is
            ∙ ap (λ m. own ++ set later m (packed_edge e.edge)) (sym on)
            ∙ sym (set-append_right own later (length own) (length own + p.q) (packed_edge e.edge) refl (omega arith));
      }

-- the edge at node `e.node` is put
edge_puts : (ds : List ℕ) (put : List NodeEdge) (e : NodeEdge) (left : List NodeEdge) → e.node < length ds → Puts 0 0 e.node ds put e left
edge_puts ds put e left h = puts put e left 0 0 e.node ds (omega arith) h

-- the edge at index k of all is put, at index q
pub record Put (ds : List ℕ) (es : List NodeEdge) (k : ℕ) (e : NodeEdge) (nodes : List PackedNode) (packed : List PackedEdge) (counts : List ℕ) : Type 0 where
  pub q : ℕ
  pub at_node : e.node < length nodes
  pub counted : e.node < length counts
  pub next : (d : PackedNode) (c : ℕ) → (get_or nodes e.node d).first + get_or counts e.node c ≡ q
  pub within : q < length packed
  pub packed_is : set packed q (packed_edge e.edge) ≡ laid_edges 0 ds (take (k + 1) es) (drop (k + 1) es)
  pub counts_are : (c : ℕ) → c ≡ get_or counts e.node c → set counts e.node (c + 1) ≡ counts_of (gathered_rows 0 ds (take (k + 1) es))

-- while the edges before an index are put, the one at that index has its place in the packed edges
pub put_at : (ds : List ℕ) (es : List NodeEdge) (k : ℕ) (e : NodeEdge) (nodes : List PackedNode) (packed : List PackedEdge) (counts : List ℕ) → AreAtNodes (length ds) es → k < length es
    → e ≡ get_or es k e → nodes ≡ packed_nodes 0 (gathered_rows 0 ds es)
    → packed ≡ laid_edges 0 ds (take k es) (drop k es) → counts ≡ counts_of (gathered_rows 0 ds (take k es)) → Put ds es k e nodes packed counts
put_at ds es k e nodes packed counts at_nodes h is nodes_are packed_is counts_are =
    let put = take k es in
    let left = drop (k + 1) es in
    let rows = gathered_rows 0 ds put in
    let there = node_there ds es k e at_nodes h is in
    let more = one_more_edge es k e h is in
    let here = edges_left es k e h is in
    let all : es ≡ put ++ e ∷ left = sym (take-append-drop k es) ∙ ap (λ x. put ++ x) here in
    let p = edge_puts ds put e left there in
    let before : packed ≡ laid_edges 0 ds put (e ∷ left) = packed_is ∙ ap (laid_edges 0 ds put) here in
    let n : length (gathered_rows 0 ds es) ≡ length ds = rows_count 0 ds es in
    let m : length rows ≡ length ds = rows_count 0 ds put in
    let of_node : (c : ℕ)
    → get_or counts e.node c ≡ length (edges_at e.node put) =
    λ c. ap (λ x. get_or x e.node c) counts_are ∙ count_at 0 e.node c ds put there ∙ ap (λ j. length (edges_at j put)) (zero-add e.node) in
    record {
      q = p.q;
      at_node = omega (arith, ap length nodes_are, packed_count (gathered_rows 0 ds es) 0, n, there);
      counted = omega (arith, ap length counts_are, length-map rows (λ (row : NodeRow). length row.edges), m, there);
      next =
          λ d c. (λ t. (get_or (nodes_are t) e.node d).first + of_node c t) ∙ ap (λ x. (get_or (packed_nodes 0 (gathered_rows 0 ds x)) e.node d).first + length (edges_at e.node put)) all ∙ p.next d
          ∙ zero-add p.q;
      within = omega (arith, p.within, ap length before);
      packed_is = ap (λ x. set x p.q (packed_edge e.edge)) before ∙ sym p.laid_is ∙ ap (λ x. laid_edges 0 ds x left) (sym more);
      counts_are =
          λ c count. ap (λ x. set x e.node (c + 1)) counts_are ∙ sym (one_counted rows e.node c e.edge (omega (arith, m, there)) (count ∙ ap (λ x. get_or x e.node c) counts_are))
          ∙ ap counts_of (sym (next_gathered ds es k e at_nodes h is));
    }

-- ---- none is put, and all are

blanks : (es : List Edge) → map (λ e. blank) es ≡ replicate (length es) blank
blanks [] = refl
blanks (e ∷ es) = ap (λ x. blank ∷ x) (blanks es)

-- with no edge put, each place of the packed edges is blank
pub laid_none : (i : ℕ) (ds : List ℕ) (es : List NodeEdge) → laid_edges i ds [] es ≡ replicate (length (packed_edges (gathered_rows i ds es))) blank
laid_none i [] es = refl
laid_none i (d ∷ ds) es =
    let own = edges_at i es in
    let rest = packed_edges (gathered_rows (1 + i) ds es) in
    let n : length own + length rest ≡ length (map packed_edge own ++ rest) = ap (λ m. m + length rest) (sym (length-map own packed_edge)) ∙ sym (length-append (map packed_edge own) rest) in
    (λ t. blanks own t ++ laid_none (1 + i) ds es t)
    ∙ replicate-append-replicate (length own) (length rest) blank ∙ ap (λ m. replicate m blank) n

-- with every edge put, the packed edges are those of the rows
pub laid_all : (i : ℕ) (ds : List ℕ) (es : List NodeEdge) → laid_edges i ds es [] ≡ packed_edges (gathered_rows i ds es)
laid_all i [] es = refl
laid_all i (d ∷ ds) es = λ t. append-nil (map packed_edge (edges_at i es)) t ++ laid_all (1 + i) ds es t

-- the end of the edges
pub end_offset : (rows : List NodeRow) (offset : ℕ) (d : PackedNode) → (get_or (packed_nodes offset rows) (length rows) d).first ≡ offset + length (packed_edges rows)
end_offset [] offset d = omega arith
end_offset (r ∷ rows) offset d =
    let n : length (map packed_edge r.edges ++ packed_edges rows) ≡ length (map packed_edge r.edges) + length (packed_edges rows) = length-append (map packed_edge r.edges) (packed_edges rows) in
    let m : length (map packed_edge r.edges) ≡ length r.edges = length-map r.edges packed_edge in
    end_offset rows (offset + length r.edges) d ∙ omega (arith, n, m)

-- ---- the nodes

-- one more node
pub nodes_step : (ds : List ℕ) (es : List NodeEdge) (k offset next d : ℕ) (whole nodes more : List PackedNode) → k < length ds → d ≡ get_or ds k d → next ≡ offset + length (edges_at k es)
    → more ≡ nodes ++ record { depth = d; first = offset } ∷ []
    → whole ≡ nodes ++ packed_nodes offset (gathered_rows k (drop k ds) es) → whole ≡ more ++ packed_nodes next (gathered_rows (k + 1) (drop (k + 1) ds) es)
nodes_step ds es k offset next d whole nodes more h is next_is more_is e =
    let node : PackedNode = record { depth = d; first = offset } in
    let here : drop k ds ≡ d ∷ drop (k + 1) ds = rw add-one (drop-cons ds k d h ∙ ap (λ x. x ∷ drop (suc k) ds) (sym is)) in
    let on : 1 + k ≡ k + 1 = omega arith in
    e ∙ ap (λ x. nodes ++ packed_nodes offset (gathered_rows k x es)) here
    ∙ (λ t. nodes ++ node ∷ packed_nodes (sym next_is t) (gathered_rows (on t) (drop (k + 1) ds) es))
    ∙ sym (append_assoc nodes (node ∷ []) (packed_nodes next (gathered_rows (k + 1) (drop (k + 1) ds) es)))
    ∙ ap (λ x. x ++ packed_nodes next (gathered_rows (k + 1) (drop (k + 1) ds) es)) (sym more_is)
