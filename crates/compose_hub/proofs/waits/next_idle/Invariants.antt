use Rattle.compose_hub.specs.Slots.{slot_idle_in}
use Rattle.compose_hub.specs.Rounds.{LeastTo}
use Rattle.compose_hub.proofs.waits.next_idle.Given as goal

abbrev pub invariant-slots : goal.invariant-slots
invariant-slots l = LeastTo (slot_idle_in l.idle l.time) l.slots l.key l.next
