use Rattle.compose_hub.specs.Slots.{waits_since}
use Rattle.compose_hub.specs.Rounds.{LeastTo}
use Rattle.compose_hub.proofs.waits.waits_longest.Given as goal

abbrev pub invariant-slots : goal.invariant-slots
invariant-slots l = LeastTo waits_since l.slots l.key l.longest
