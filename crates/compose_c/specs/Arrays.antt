-- Arrays of unchecked numbers, and the definitions that they spell.
use Rattle.std.specs.Prelude.{◌≡◌, ℕ, ◌-◌, true, ◌||◌, List, ◌++◌, map, length}
use Rattle.compose_model.specs.Table.{Definition, is_sequence}
use Rattle.compose_model.specs.Nodes.{is_node}
use Rattle.compose_tree.specs.Packed.{HasLongText, IsPacked, packed_target, spelled, spelled_after, text_entry}
use Rattle.compose_tree.specs.Rows.{rows_of, where_to}
use Rattle.compose_tree.specs.declared.packed.PackedEdge.{PackedEdge}
use Rattle.compose_c.specs.declared.loose.LooseArrays.{LooseArrays}
use Rattle.compose_c.specs.declared.loose.LooseEdge.{LooseEdge}

-- the edge with these numbers
abbrev pub edge_of : LooseEdge → PackedEdge
edge_of e = record { keysym = e.keysym; target = e.target }

-- the arrays are those of this table
abbrev pub AreOf : LooseArrays → List Definition → Type 0
AreOf a table = IsPacked a.nodes.now (map edge_of a.edges.now) a.texts.now a.long_texts.now table

-- ---- the entries of texts. Definitions for private functions

-- this is an entry of the text
pub record IsEntry (entry text long : List ℕ) : Type 0 where
  pub before : ℕ
  pub is : entry ≡ text_entry before text
  pub placed : HasLongText before text long

-- ---- the definitions of such arrays one after another

-- the sequences that begin with these keysyms, which lead to a node or a leaf, in order
abbrev pub sequences_from : List Definition → List ℕ → List (List ℕ)
sequences_from table q = map (λ w. q ++ w) (spelled_after (where_to table q) (λ n. spelled (rows_of table) (32 - length q) n))

-- an edge with this target leads to the node or the leaf of these keysyms
pub record LeadsTo (table : List Definition) (q : List ℕ) (target : ℕ) : Type 0 where
  pub is_there : is_node table q || is_sequence table q ≡ true
  pub is_its : target ≡ packed_target (where_to table q)

-- these are the first definitions of the table, and those are the sequences of the others
pub record AreFirst (table definitions : List Definition) (others : List (List ℕ)) : Type 0 where
  pub rest : List Definition
  pub joined : table ≡ definitions ++ rest
  pub sequences : map (λ d. d.sequence) rest ≡ others
