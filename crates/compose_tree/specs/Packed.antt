-- The packed form of a table: flat arrays of nodes, edges and texts, and their meaning. Definitions
-- for the contracts of private functions.
use Rattle.std.specs.Prelude.{◌≡◌, ◌≤◌, IsTrue, ℕ, zero, suc, ◌+◌, ◌-◌, ◌*◌, ◌/◌, ◌%◌, ◌==◌, List, [], ◌∷◌, map, length, take, drop, ◌++◌, flat_map, filter, replicate, nat_lt, bytes_eq, if◌then◌else◌}
use Rattle.std.specs.Borrow.{Bor}
use Rattle.std.specs.List.{list_all, AllByRecursion}
use Rattle.std.specs.Str.{is_utf8}
use Rattle.indexmap.specs.IndexSet.{insert_all, insert_key}
use Rattle.compose_model.specs.Table.{Definition}
use Rattle.compose_model.specs.Nodes as model
use Rattle.compose_read.specs.Read.{max_definitions}
use Rattle.compose_read.specs.Settle.{IsSettled}
use Rattle.compose_tree.specs.Targets.{max_nodes}
use Rattle.compose_tree.specs.declared.edge.Edge.{Edge}
use Rattle.compose_tree.specs.declared.packed.PackedEdge.{PackedEdge}
use Rattle.compose_tree.specs.declared.packed.PackedNode.{PackedNode}
use Rattle.compose_tree.specs.declared.table.Target.{Target}
use Rattle.compose_tree.specs.declared.table.Target.TheVariants.{Node, Leaf}
use Rattle.compose_tree.specs.Rows.{NodeRow, row_at, rows_of}

-- ---- the arrays of some rows and texts

-- a node by twice its number, a leaf by twice its number plus one
abbrev pub packed_target : Target → ℕ
packed_target (Node n) = n.0 * 2
packed_target (Leaf l) = l.0 * 2 + 1

abbrev pub packed_edge : Edge → PackedEdge
packed_edge e = record { keysym = e.keysym; target = packed_target e.target }

-- for each node its depth and the offset of its first edge, from this offset on, and after them the
-- end of the edges
abbrev pub packed_nodes : ℕ → List NodeRow → List PackedNode
packed_nodes offset [] = record { depth = 0; first = offset } ∷ []
packed_nodes offset (row ∷ rows) = record { depth = row.depth; first = offset } ∷ packed_nodes (offset + length row.edges) rows

-- the edges of all nodes, those of one node after another
abbrev pub packed_edges : List NodeRow → List PackedEdge
packed_edges rows = flat_map (λ row. map packed_edge row.edges) rows

-- what a text has among the long ones: nothing if it has at most three bytes, else its bytes, and a
-- zero behind them if their number is odd
abbrev pub long_text : List ℕ → List ℕ
long_text [] = []
long_text (a ∷ []) = []
long_text (a ∷ b ∷ []) = []
long_text (a ∷ b ∷ c ∷ []) = []
long_text (a ∷ b ∷ c ∷ d ∷ more) = (a ∷ b ∷ c ∷ d ∷ more) ++ replicate (length more % 2) 0

-- the entry of a text, if the long ones before it take this number of bytes: its bytes, zeros up to
-- three, and its length; or half of that number in three bytes, the lowest first, and its length
abbrev pub text_entry : ℕ → List ℕ → List ℕ
text_entry before [] = 0 ∷ 0 ∷ 0 ∷ 0 ∷ []
text_entry before (a ∷ []) = a ∷ 0 ∷ 0 ∷ 1 ∷ []
text_entry before (a ∷ b ∷ []) = a ∷ b ∷ 0 ∷ 2 ∷ []
text_entry before (a ∷ b ∷ c ∷ []) = a ∷ b ∷ c ∷ 3 ∷ []
text_entry before (a ∷ b ∷ c ∷ d ∷ more) = (before / 2 % 256) ∷ (before / 512 % 256) ∷ (before / 131072) ∷ (length more + 4) ∷ []

-- a text of more than three bytes stands among the long ones after this even number of bytes
pub record HasLongText (before : ℕ) (text long : List ℕ) : Type 0 where
  pub even : before % 2 ≡ 0
  pub fits : 4 ≤ length text → before + length text ≤ length long
  pub there : 4 ≤ length text → take (length text) (drop before long) ≡ text

-- the entries of these texts, one after another, and each of more than three bytes stands among the
-- long ones
abbrev pub AreEntries : List ℕ → List (List ℕ) → List ℕ → Type 0
AreEntries entries [] long = entries ≡ []
AreEntries entries (text ∷ texts) long = (before : ℕ) × (more : List ℕ) × (entries ≡ text_entry before text ++ more) × HasLongText before text long × AreEntries more texts long

-- the long ones, one after another
abbrev pub long_texts : List (List ℕ) → List ℕ
long_texts texts = flat_map long_text texts

-- the texts of more than three bytes, each once, in the order in which they come first
abbrev pub different_long : List (List ℕ) → List (List ℕ)
different_long texts = insert_all bytes_eq [] (filter (λ t. nat_lt 3 (length t)) texts)

abbrev pub texts_of : List Definition → List (List ℕ)
texts_of table = map (λ d. d.text) table

-- ---- the meaning of arrays

abbrev pub unpacked_target : ℕ → Target
unpacked_target code = if code % 2 == 0 then Node (record { 0 = code / 2 }) else Leaf (record { 0 = code / 2 })

abbrev pub unpacked_edge : PackedEdge → Edge
unpacked_edge e = record { keysym = e.keysym; target = unpacked_target e.target }

abbrev pub unpacked_rows : List PackedNode → List PackedEdge → List NodeRow
unpacked_rows [] edges = []
unpacked_rows (a ∷ []) edges = []
unpacked_rows (a ∷ b ∷ nodes) edges = record { depth = a.depth; edges = map unpacked_edge (take (b.first - a.first) (drop a.first edges)) } ∷ unpacked_rows (b ∷ nodes) edges

-- the text of an entry of these four bytes
abbrev pub entry_text : ℕ → ℕ → ℕ → ℕ → List ℕ → List ℕ
entry_text a b c count long = if nat_lt count 4 then take count (a ∷ b ∷ c ∷ []) else take count (drop (2 * (a + 256 * b + 65536 * c)) long)

abbrev pub unpacked_texts : List ℕ → List ℕ → List (List ℕ)
unpacked_texts (a ∷ b ∷ c ∷ count ∷ entries) long = entry_text a b c count long ∷ unpacked_texts entries long
unpacked_texts [] long = []
unpacked_texts (a ∷ []) long = []
unpacked_texts (a ∷ b ∷ []) long = []
unpacked_texts (a ∷ b ∷ c ∷ []) long = []

-- the lists of keysyms after an edge: all lists from a node, or the empty one from a leaf
abbrev pub spelled_after : Target → (ℕ → List (List ℕ)) → List (List ℕ)
spelled_after (Node n) more = more n.0
spelled_after (Leaf l) more = [] ∷ []

-- the lists of keysyms that lead from a node to leaves, in order, up to a length
abbrev pub spelled : List NodeRow → ℕ → ℕ → List (List ℕ)
spelled rows zero i = []
spelled rows (suc keysyms) i = flat_map (λ e. map (λ s. e.keysym ∷ s) (spelled_after e.target (λ n. spelled rows keysyms n))) (row_at rows i).edges

abbrev pub with_texts : List (List ℕ) → List (List ℕ) → List Definition
with_texts [] texts = []
with_texts (s ∷ sequences) [] = []
with_texts (s ∷ sequences) (t ∷ texts) = record { sequence = s; text = t } ∷ with_texts sequences texts

-- the definitions that the arrays mean; a sequence has at most 32 keysyms
unfoldable pub unpacked : List PackedNode → List PackedEdge → List ℕ → List ℕ → List Definition
unpacked nodes edges entries long = with_texts (spelled (unpacked_rows nodes edges) 32 0) (unpacked_texts entries long)

-- ---- the properties of a packed table

-- the arrays are those of this table: its rows, one list of edges after another, an entry for each
-- text, and the long texts, each kept once
pub record IsPacked (nodes : List PackedNode) (edges : List PackedEdge) (entries long : List ℕ) (table : List Definition) : Type 0 where
  pub settled : IsSettled table
  pub nodes_are : nodes ≡ packed_nodes 0 (rows_of table)
  pub edges_are : edges ≡ packed_edges (rows_of table)
  pub entries_are : AreEntries entries (texts_of table) long
  pub long_are : long ≡ long_texts (different_long (texts_of table))
  pub texts_are_utf8 : IsTrue (list_all is_utf8 (texts_of table))
  pub few_nodes : length (model.nodes table) ≤ max_nodes
  pub few_leaves : length table ≤ max_definitions

-- the keysyms of some edges
abbrev pub keys_of : List PackedEdge → List ℕ
keys_of edges = map (λ e. e.keysym) edges

-- ---- long texts as they are collected

-- the texts of a map of places, each behind a reference
abbrev pub kept_texts : List (Bor (List ℕ) × ℕ) → List (List ℕ)
kept_texts places = map (λ e. e.0.now) places

-- the texts after this one too was kept, if it is a long one and none of them is equal
abbrev pub with_kept : List (List ℕ) → List ℕ → List (List ℕ)
with_kept kept text = if nat_lt 3 (length text) then insert_key bytes_eq kept text else kept

-- the bytes are those of the texts, one after another, and each text stands at its place
pub record AreKept (places : List (Bor (List ℕ) × ℕ)) (bytes : List ℕ) : Type 0 where
  pub bytes_are : bytes ≡ long_texts (kept_texts places)
  pub placed : AllByRecursion (λ e. HasLongText e.1 e.0.now bytes × (e.1 ≤ length bytes)) places
