use Rattle.std.proofs.Common.{◌≡◌, take}
use Rattle.std.specs.List.{list_any, position_or_len}
use Rattle.compose_model.specs.Table.{has_key}
use Rattle.compose_model.specs.Nodes.{nodes, edges}
use Rattle.compose_fresh.proofs.fresh.first_used.Given as goal

-- the first keysym that is an edge of a node so far
abbrev pub invariant-loop-number : goal.invariant-loop-number
invariant-loop-number g l =
    l.least ≡ position_or_len (λ k. list_any (λ p. has_key (edges (g.T.ComposeTable.definitions l.old) p) k) (take l.number (nodes (g.T.ComposeTable.definitions l.old)))) l.fresh
