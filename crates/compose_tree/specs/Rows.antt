-- The rows of a table: for each node its depth, and its edges in order with their targets.
-- Definitions for the contracts of private functions.
use Rattle.std.specs.Prelude.{ℕ, ◌+◌, ◌<◌, ◌==◌, nat_eq, List, [], ◌∷◌, ◌++◌, map, length, get_or, slice_set, if◌then◌else◌}
use Rattle.std.specs.List.{All, filter}
use Rattle.compose_model.specs.Table.{Definition}
use Rattle.compose_model.specs.Nodes.{proper_prefixes, nodes, is_node, number_of, edges}
use Rattle.compose_tree.specs.Targets.{leaf_number}
use Rattle.compose_tree.specs.declared.edge.Edge.{Edge}
use Rattle.compose_tree.specs.declared.edge.NodeEdge.{NodeEdge}
use Rattle.compose_tree.specs.declared.table.Target.{Target}
use Rattle.compose_tree.specs.declared.table.Target.TheVariants.{Node, Leaf}

pub record NodeRow : Type 0 where
  pub depth : ℕ
  pub edges : List Edge

-- the node or the leaf of a list of keysyms
abbrev pub where_to : List Definition → List ℕ → Target
where_to table q = if is_node table q then Node (record { 0 = number_of table q }) else Leaf (record { 0 = leaf_number table q })

-- the number of the node or of the leaf
abbrev pub target_number : Target → ℕ
target_number (Node n) = n.0
target_number (Leaf l) = l.0

-- the edge of this keysym at node p
abbrev pub edge_of : List Definition → List ℕ → ℕ → Edge
edge_of table p k = record { keysym = k; target = where_to table (p ++ k ∷ []) }

abbrev pub row_of : List Definition → List ℕ → NodeRow
row_of table p = record { depth = length p; edges = map (edge_of table p) (edges table p) }

-- the keysyms of some edges
abbrev pub keysyms_of : List Edge → List ℕ
keysyms_of edges = map (λ e. e.keysym) edges

-- a row for each node, in order
abbrev pub rows_of : List Definition → List NodeRow
rows_of table = map (row_of table) (nodes table)

-- the number of edges of each node
abbrev pub counts_of : List NodeRow → List ℕ
counts_of rows = map (λ row. length row.edges) rows

-- ---- rows as one list of edges with their nodes

-- the edges of node i, in order
abbrev pub edges_at : ℕ → List NodeEdge → List Edge
edges_at i edges = map (λ e. e.edge) (filter (λ e. nat_eq e.node i) edges)

-- the rows of the nodes of these depths, the first of which is node i
abbrev pub gathered_rows : ℕ → List ℕ → List NodeEdge → List NodeRow
gathered_rows i [] edges = []
gathered_rows i (depth ∷ depths) edges = record { depth = depth; edges = edges_at i edges } ∷ gathered_rows (1 + i) depths edges

-- each edge belongs to one of the first `count` nodes
abbrev pub AreAtNodes : ℕ → List NodeEdge → Type 0
AreAtNodes count edges = All (λ e. e.node < count) edges

-- the number of each target is below this
abbrev pub HaveNumbersBelow : ℕ → List NodeEdge → Type 0
HaveNumbersBelow end edges = All (λ e. target_number e.edge.target < end) edges

-- ---- what a sequence adds that comes after those before it

-- the target of an edge after which these keysyms are left: the leaf, or the next node
abbrev pub next_target : ℕ → ℕ → List ℕ → Target
next_target node leaf [] = Leaf (record { 0 = leaf })
next_target node leaf (k ∷ rest) = Node (record { 0 = node })

-- the rows of new nodes, from this node and depth on: one for each remaining keysym, with one edge
abbrev pub new_rows : ℕ → ℕ → ℕ → List ℕ → List NodeRow
new_rows node leaf depth [] = []
new_rows node leaf depth (k ∷ rest) =
    record { depth = depth; edges = record { keysym = k; target = next_target (1 + node) leaf rest } ∷ [] } ∷ new_rows (1 + node) leaf (1 + depth) rest

-- the row of a node
abbrev pub row_at : List NodeRow → ℕ → NodeRow
row_at rows i = get_or rows i (record { depth = 0; edges = [] })

-- the rows with one more edge at a node
abbrev pub with_edge : List NodeRow → ℕ → Edge → List NodeRow
with_edge rows i edge = slice_set rows i (record { depth = (row_at rows i).depth; edges = (row_at rows i).edges ++ edge ∷ [] })

-- ---- the path to the last sequence

-- the keysyms of the definition at this index
abbrev pub sequence_at : List Definition → ℕ → List ℕ
sequence_at table i = (get_or table i (record { sequence = []; text = [] })).sequence

-- the keysyms of the last sequence, or none if there is no sequence
abbrev pub last_sequence : List Definition → List ℕ
last_sequence [] = []
last_sequence (d ∷ []) = d.sequence
last_sequence (d ∷ e ∷ table) = last_sequence (e ∷ table)

-- the numbers of the nodes on the path to it, from the root on; the root alone if there is no
-- sequence
abbrev pub path_of : List Definition → List ℕ
path_of [] = 0 ∷ []
path_of (d ∷ table) = map (number_of (d ∷ table)) (proper_prefixes (last_sequence (d ∷ table)))

-- the length of the longest common prefix of two lists
abbrev pub shared : List ℕ → List ℕ → ℕ
shared [] t = 0
shared (j ∷ s) [] = 0
shared (j ∷ s) (k ∷ t) = if j == k then 1 + shared s t else 0

-- the number of the keysyms of s that lead along the last sequence
abbrev pub shared_with_last : List Definition → List ℕ → ℕ
shared_with_last table s = shared (last_sequence table) s

-- as many consecutive numbers as there are elements, from n on
abbrev pub counted : ℕ → List ℕ → List ℕ
counted n [] = []
counted n (k ∷ rest) = n ∷ counted (1 + n) rest
