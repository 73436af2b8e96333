use Rattle.std.proofs.Common.{◌≡◌, ℕ, ◌+◌, get_or}
use Rattle.std.specs.Prelude.{None, count_by}
use Rattle.compose_hub.specs.Slots.{slot_waits_for_room}
use Rattle.compose_hub.specs.Serving.{AllAreStill}
use Rattle.compose_hub.specs.Rounds.{AreWithinRooms}
use Rattle.compose_hub.specs.Round.{KeepsOrIsGiven}
use Rattle.compose_hub.proofs.Rooms.{HasRooms}
use Rattle.compose_hub.proofs.server.Server.share_room.Given as goal

abbrev pub invariant-rooms : goal.invariant-rooms
invariant-rooms l = record {
  accepted : l.self.accepted ≡ l.fn.self.accepted;
  owners : l.self.owners.list ≡ l.fn.self.owners.list;
  time : l.self.time ≡ l.fn.self.time;
  queue : l.self.queue ≡ l.fn.self.queue;
  still : AllAreStill l.fn.self.slots.items l.self.slots.items;
  rooms : AreWithinRooms l.fn.self.slots.items → HasRooms l.used l.counter l.self.slots.items;
  each : (key : ℕ) → KeepsOrIsGiven l.fn.self.time (get_or l.fn.self.slots.items key None) (get_or l.self.slots.items key None);
  fewer : count_by slot_waits_for_room l.self.slots.items + l.counter ≡ count_by slot_waits_for_room l.fn.self.slots.items;
}
