use Rattle.std.proofs.Common.{◌≡◌, map, take}
use Rattle.compose_walk.specs.Stands.{evidence_found}
use Rattle.compose_walk.proofs.pass.Pass.all_evidence.Given as goal

abbrev pub invariant-loop-found : goal.invariant-loop-found
invariant-loop-found g l = l.differences.items ≡ map (evidence_found l.names (g.T.ComposeTable.definitions l.old) (g.U.ComposeTable.definitions l.new)) (take l.found-index l.found-items)
