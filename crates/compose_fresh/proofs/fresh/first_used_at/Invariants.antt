use Rattle.std.proofs.Common.{◌≡◌, take}
use Rattle.std.specs.List.{position_or_len}
use Rattle.compose_model.specs.Table.{has_key}
use Rattle.compose_model.specs.Nodes.{node, edges}
use Rattle.compose_fresh.proofs.fresh.first_used_at.Given as goal

-- the first keysym that is an edge so far
abbrev pub invariant-loop-index : goal.invariant-loop-index
invariant-loop-index g l = l.least ≡ position_or_len (has_key (take l.index (edges (g.T.ComposeTable.definitions l.old) (node (g.T.ComposeTable.definitions l.old) l.node.0)))) l.fresh
