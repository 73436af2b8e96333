use Rattle.std.proofs.Common.{◌≡◌, ◌+◌, ◌++◌, length, drop}
use Rattle.compose_tree.specs.Rows.{gathered_rows}
use Rattle.compose_tree.specs.Packed.{packed_nodes}
use Rattle.compose_tree.proofs.Counts.{edges_from}
use Rattle.compose_tree.proofs.packed_table.pack_nodes.Given as goal

abbrev pub invariant-loop-index : goal.invariant-loop-index
invariant-loop-index l = record {
  nodes : packed_nodes 0 (gathered_rows 0 l.depths l.edges) ≡ l.nodes.items ++ packed_nodes l.offset (gathered_rows l.index (drop l.index l.depths) l.edges);
  left : l.offset + edges_from l.index l.edges ≡ length l.edges;
}
