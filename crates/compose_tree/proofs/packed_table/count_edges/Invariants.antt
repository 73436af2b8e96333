use Rattle.std.proofs.Common.{◌≡◌, take}
use Rattle.compose_tree.specs.Rows.{counts_of, gathered_rows}
use Rattle.compose_tree.proofs.packed_table.count_edges.Given as goal

abbrev pub invariant-loop-edge : goal.invariant-loop-edge
invariant-loop-edge l = l.counts.items ≡ counts_of (gathered_rows 0 l.depths (take l.edge-index l.edges))
