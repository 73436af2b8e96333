use Rattle.std.proofs.Common.{length, ◌-◌, take}
use Rattle.compose_model.specs.Nodes.{node, edges}
use Rattle.compose_compare.proofs.Written.{is_through}
use Rattle.compose_lookup.specs.Longer.{FindsShortest}
use Rattle.compose_lookup.proofs.longer.+shortest_from.Given as goal

abbrev pub decreases-shortest_from : goal.decreases-shortest_from
decreases-shortest_from g l = 32 - length (node (g.T.ComposeTable.definitions l.table.now) l.node.0)

-- the shortest of what goes on by the edges so far
abbrev pub invariant-loop-index : goal.invariant-loop-index
invariant-loop-index g l =
    FindsShortest (g.T.ComposeTable.definitions l.table)
    (is_through (node (g.T.ComposeTable.definitions l.table) l.node.0) (take l.index (edges (g.T.ComposeTable.definitions l.table) (node (g.T.ComposeTable.definitions l.table) l.node.0)))) l.best
