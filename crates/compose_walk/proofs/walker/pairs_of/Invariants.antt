use Rattle.std.proofs.Common.{◌≡◌, ◌++◌, drop}
use Rattle.compose_walk.specs.Stands.{partner_pairs}
use Rattle.compose_walk.proofs.walker.pairs_of.Given as goal

abbrev pub invariant-loop-number : goal.invariant-loop-number
invariant-loop-number l = l.pairs.items ++ partner_pairs l.number (drop l.number l.stands) ≡ partner_pairs 0 l.stands
