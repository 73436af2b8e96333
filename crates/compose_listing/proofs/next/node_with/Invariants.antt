use Rattle.std.proofs.Common.{◌≡◌, ◌<◌, length, take}
use Rattle.compose_model.specs.Nodes.{nodes, node}
use Rattle.compose_listing.proofs.next.node_with.Given as goal

-- the node has the keys that were walked
abbrev pub invariant-loop-keysym : goal.invariant-loop-keysym
invariant-loop-keysym g l = record {
  within : l.node.0 < length (nodes (g.T.ComposeTable.definitions l.table));
  walked : node (g.T.ComposeTable.definitions l.table) l.node.0 ≡ take l.keysym-index l.keys;
}
