use Rattle.std.proofs.Common.{◌≡◌, length, take, drop}
use Rattle.compose_tree.specs.Rows.{counts_of, gathered_rows}
use Rattle.compose_tree.proofs.Scattering.{laid_edges}
use Rattle.compose_tree.proofs.packed_table.pack_edges.Given as goal

-- the edges so far are put, and counted at their nodes; there are as many hints as before
abbrev pub invariant-loop-edge : goal.invariant-loop-edge
invariant-loop-edge l = record {
  so_far : l.packed.items ≡ laid_edges 0 l.fn.depths (take l.edge-index l.edges) (drop l.edge-index l.edges);
  counted : l.counts.items ≡ counts_of (gathered_rows 0 l.fn.depths (take l.edge-index l.edges));
  as_many : length l.hints ≡ length l.fn.hints;
}
