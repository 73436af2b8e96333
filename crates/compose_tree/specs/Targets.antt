-- The targets of the edges of a table, and the texts of its leaves, by their numbers.
use Rattle.std.specs.Prelude.{ℕ, List, [], ◌∷◌, ◌++◌, get_or, if◌then◌else◌, Option, Some, None}
use Rattle.std.specs.List.{position_or_len}
use Rattle.compose_model.specs.Table.{Definition, same, is_sequence, text_at}
use Rattle.compose_model.specs.Nodes.{leaves, is_node, number_of}
use Rattle.compose_tree.specs.declared.table.Target.{Target}
use Rattle.compose_tree.specs.declared.table.Target.TheVariants.{Node, Leaf}

-- the largest number of nodes that a table may have (a limit of this project)
abbrev pub max_nodes : ℕ
max_nodes = 1048576

-- the number of a sequence among the leaves
abbrev pub leaf_number : List Definition → List ℕ → ℕ
leaf_number table s = position_or_len (same s) (leaves table)

-- the node or the leaf of p followed by k
abbrev pub target_of : List Definition → List ℕ → ℕ → Option Target
target_of table p k =
    if is_node table (p ++ k ∷ []) then Some (Node (record { 0 = number_of table (p ++ k ∷ []) })) else
    if is_sequence table (p ++ k ∷ []) then Some (Leaf (record { 0 = leaf_number table (p ++ k ∷ []) })) else None

-- the text of the leaf with this number
abbrev pub leaf_text : List Definition → ℕ → Option (List ℕ)
leaf_text table i = text_at table (get_or (leaves table) i [])
