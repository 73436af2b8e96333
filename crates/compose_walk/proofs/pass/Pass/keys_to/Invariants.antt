use Rattle.std.proofs.Common.{◌≡◌, ◌<◌, ◌++◌, ◌∷◌, [], true, length}
use Rattle.compose_model.specs.Nodes.{nodes, node}
use Rattle.compose_walk.specs.Pass.{agrees}
use Rattle.compose_walk.proofs.pass.Pass.keys_to.Given as goal

abbrev pub invariant-loop-node : goal.invariant-loop-node
invariant-loop-node g l =
    record {
      in_range : l.node < length (nodes (g.T.ComposeTable.definitions l._old));
      agree : agrees l._names (g.T.ComposeTable.definitions l._old) (g.U.ComposeTable.definitions l._new) (node (g.T.ComposeTable.definitions l._old) l.node) ≡ true;
      keys : node (g.T.ComposeTable.definitions l._old) l.fn.number ++ l.fn.keysym ∷ [] ≡ node (g.T.ComposeTable.definitions l._old) l.node ++ l.keys.items;
    }

abbrev pub decreases-loop-node : goal.decreases-loop-node
decreases-loop-node g l = l.node
