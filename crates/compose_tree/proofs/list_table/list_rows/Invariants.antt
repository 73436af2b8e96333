use Rattle.std.proofs.Common.{◌≡◌, take}
use Rattle.compose_tree.specs.Rows.{gathered_rows}
use Rattle.compose_tree.proofs.list_table.list_rows.Given as goal

abbrev pub invariant-loop-node_edge : goal.invariant-loop-node_edge
invariant-loop-node_edge l = l.rows.items ≡ gathered_rows 0 l.fn.depths (take l.node_edge-index l.edges)
