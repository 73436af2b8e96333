use Rattle.std.proofs.Common.{◌≡◌, map, take}
use Rattle.compose_model.specs.Nodes.{leaves}
use Rattle.compose_places.specs.Last.{last_with}
use Rattle.compose_places.proofs.last.last_definitions.Given as goal

-- so far each leaf has the last of the definitions that were read
abbrev pub invariant-loop-index : goal.invariant-loop-index
invariant-loop-index g l = l.last.items ≡ map (last_with (take l.index l.definitions)) (leaves (g.T.ComposeTable.definitions l.table))
