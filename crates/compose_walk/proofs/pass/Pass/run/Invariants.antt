use Rattle.std.proofs.Common.{◌≡◌, [], take}
use Rattle.compose_model.specs.Nodes.{nodes}
use Rattle.compose_walk.specs.Stands.{partners_at, all_found}
use Rattle.compose_walk.proofs.pass.Pass.run.Given as goal

abbrev pub invariant-loop-number : goal.invariant-loop-number
invariant-loop-number g l =
    record {
      stands : l.pass.stands.items ≡ partners_at l.names (g.T.ComposeTable.definitions l.old) (g.U.ComposeTable.definitions l.new) l.number [];
      found : l.pass.found.items ≡ all_found l.names l.fresh (g.T.ComposeTable.definitions l.old) (g.U.ComposeTable.definitions l.new) (take l.number (nodes (g.T.ComposeTable.definitions l.old)));
    }
