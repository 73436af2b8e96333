use Rattle.std.proofs.Common.{◌≡◌, [], map, take}
use Rattle.std.specs.List.{filter}
use Rattle.compose_model.specs.Nodes.{edges}
use Rattle.compose_walk.specs.Pass.{is_differing_start}
use Rattle.compose_walk.specs.Stands.{found_at}
use Rattle.compose_walk.proofs.pass.find_new_starts.Given as goal

abbrev pub invariant-loop-index : goal.invariant-loop-index
invariant-loop-index g l =
    l.found.items
    ≡ map (found_at (g.T.ComposeTable.definitions l.old) [])
    (filter (is_differing_start l.names l.fresh (g.T.ComposeTable.definitions l.old) (g.U.ComposeTable.definitions l.new)) (take l.index (edges (g.U.ComposeTable.definitions l.new) [])))
