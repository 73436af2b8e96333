use Rattle.std.proofs.Common.{◌≡◌, ◌-◌, length, take}
use Rattle.compose_model.specs.Nodes.{node, edges}
use Rattle.compose_lookup.proofs.Counted.{count_through}
use Rattle.compose_lookup.proofs.counts.+count_from.Given as goal

abbrev pub decreases-count_from : goal.decreases-count_from
decreases-count_from g l = 32 - length (node (g.T.ComposeTable.definitions l.table.now) l.node.0)

-- what goes on by the edges so far is counted
abbrev pub invariant-loop-index : goal.invariant-loop-index
invariant-loop-index g l = l.count
    ≡ count_through (g.T.ComposeTable.definitions l.table) (node (g.T.ComposeTable.definitions l.table) l.node.0)
    (take l.index (edges (g.T.ComposeTable.definitions l.table) (node (g.T.ComposeTable.definitions l.table) l.node.0)))
