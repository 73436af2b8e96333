-- The number of the node of a list of keysyms.
use Rattle.std.specs.Prelude.{ℕ, List, if◌then◌else◌, Option, Some, None}
use Rattle.compose_model.specs.Table.{Definition}
use Rattle.compose_model.specs.Nodes.{is_node, number_of}
use Rattle.compose_tree.specs.declared.table.NodeId.{NodeId}

abbrev pub node_id : List Definition → List ℕ → Option NodeId
node_id table p = if is_node table p then Some (record { 0 = number_of table p }) else None
