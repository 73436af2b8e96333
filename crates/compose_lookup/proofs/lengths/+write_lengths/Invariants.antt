use Rattle.std.proofs.Common.{length, ◌≡◌, ◌-◌, take}
use Rattle.compose_model.specs.Nodes.{leaves, node, edges}
use Rattle.compose_compare.specs.Passes.{IsWritten}
use Rattle.compose_compare.proofs.Written.{is_through}
use Rattle.compose_lookup.proofs.lengths.+write_lengths.Given as goal

abbrev pub decreases-write_lengths : goal.decreases-write_lengths
decreases-write_lengths g l = 32 - length (node (g.T.ComposeTable.definitions l.table.now) l.node.0)

-- what goes on by the edges so far is written
abbrev pub invariant-loop-index : goal.invariant-loop-index
invariant-loop-index g l = record {
  fits : length l.lengths ≡ length (leaves (g.T.ComposeTable.definitions l.table));
  written : IsWritten 0 length (g.T.ComposeTable.definitions l.table)
      (is_through (node (g.T.ComposeTable.definitions l.table) l.node.0)
      (take l.index (edges (g.T.ComposeTable.definitions l.table) (node (g.T.ComposeTable.definitions l.table) l.node.0)))) l.initial.lengths l.lengths;
}
