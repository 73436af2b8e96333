use Rattle.std.specs.List.{IsFirstBest}
use Rattle.compose_walk.specs.Stands.{comes_sooner}
use Rattle.compose_walk.proofs.walker.least_of.Given as goal

abbrev pub invariant-loop-index : goal.invariant-loop-index
invariant-loop-index l = IsFirstBest comes_sooner l.found l.index l.least
