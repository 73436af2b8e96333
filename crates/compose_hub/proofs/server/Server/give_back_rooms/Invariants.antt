use Rattle.compose_hub.specs.Serving.{AllAreStill}
use Rattle.compose_hub.specs.Rounds.{KeepsRooms}
use Rattle.compose_hub.proofs.Rooms.{UseRooms, KeptTo}
use Rattle.compose_hub.proofs.server.Server.give_back_rooms.Given as goal

abbrev pub invariant-slots : goal.invariant-slots
invariant-slots l = record {
  still : AllAreStill l.fn.self.slots.items l.slot-items;
  rooms : KeepsRooms l.fn.self.slots.items l.slot-items;
  used : UseRooms l.slot-index l.slot-items;
  kept : KeptTo l.slot-index l.fn.self.slots.items l.slot-items;
}
