use Rattle.std.proofs.Common.{◌≡◌, take}
use Rattle.compose_hub.specs.Serving.{AllAreStill}
use Rattle.compose_hub.specs.Rounds.{queue_with, MarksReady, KeepsRooms}
use Rattle.compose_hub.proofs.server.Server.mark_ready.Given as goal

abbrev pub invariant-ready : goal.invariant-ready
invariant-ready l = record {
  accepted : l.self.accepted ≡ l.fn.self.accepted;
  owners : l.self.owners.list ≡ l.fn.self.owners.list;
  still : AllAreStill l.fn.self.slots.items l.self.slots.items;
  time : l.self.time ≡ l.fn.self.time;
  queue : l.self.queue ≡ queue_with (take l.source-index l.ready) l.fn.self.queue;
  marks : MarksReady (take l.source-index l.ready) l.fn.self.slots.items l.self.slots.items;
  rooms : KeepsRooms l.fn.self.slots.items l.self.slots.items;
}
