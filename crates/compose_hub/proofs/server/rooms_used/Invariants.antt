use Rattle.std.proofs.Common.{◌≡◌, take}
use Rattle.std.specs.Prelude.{count_by}
use Rattle.compose_hub.specs.Slots.{slot_uses_room}
use Rattle.compose_hub.proofs.server.rooms_used.Given as goal

abbrev pub invariant-slots : goal.invariant-slots
invariant-slots l = l.used ≡ count_by slot_uses_room (take l.slot-index l.slots)
