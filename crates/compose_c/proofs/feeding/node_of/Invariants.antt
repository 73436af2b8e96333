use Rattle.compose_state.proofs.PathNodes.{IsAt}
use Rattle.compose_c.proofs.feeding.node_of.Given as goal

-- the keysyms so far lead to the node
abbrev pub invariant-loop-index : goal.invariant-loop-index
invariant-loop-index g l = IsAt (g.T.ComposeTable.definitions l.table) l.numbers l.index l.node.0
