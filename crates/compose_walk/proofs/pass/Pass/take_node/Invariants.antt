use Rattle.std.proofs.Common.{◌≡◌, ◌++◌, map, take}
use Rattle.std.specs.List.{filter}
use Rattle.compose_model.specs.Nodes.{node, edges}
use Rattle.compose_walk.specs.Pass.{differs_at}
use Rattle.compose_walk.specs.Stands.{partners_at, found_at}
use Rattle.compose_walk.proofs.pass.Pass.take_node.Given as goal

abbrev pub invariant-loop-index : goal.invariant-loop-index
invariant-loop-index g l =
    record {
      stands : l.self.stands.items
          ≡ partners_at l.names (g.T.ComposeTable.definitions l.old) (g.U.ComposeTable.definitions l.new) l.node.0
          (take l.index (edges (g.T.ComposeTable.definitions l.old) (node (g.T.ComposeTable.definitions l.old) l.node.0)));
      found : l.self.found.items
          ≡ l.initial.self.found.items
          ++ map (found_at (g.T.ComposeTable.definitions l.old) (node (g.T.ComposeTable.definitions l.old) l.node.0))
          (filter (differs_at l.names (g.T.ComposeTable.definitions l.old) (g.U.ComposeTable.definitions l.new) (node (g.T.ComposeTable.definitions l.old) l.node.0))
          (take l.index (edges (g.T.ComposeTable.definitions l.old) (node (g.T.ComposeTable.definitions l.old) l.node.0))));
    }
