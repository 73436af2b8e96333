use Rattle.std.proofs.Common.{◌≡◌, ℕ, ◌≤◌, get_or, take}
use Rattle.std.specs.Prelude.{None}
use Rattle.compose_hub.specs.Turns.{owned}
use Rattle.compose_hub.specs.Serving.{at_now, GoesOnServing}
use Rattle.compose_hub.specs.Round.{EachSlot, GivesUp}
use Rattle.compose_hub.specs.Rounds.{KeepsRooms, is_room_short}
use Rattle.compose_hub.proofs.server.Server.give_up.Given as goal

abbrev pub invariant-slots : goal.invariant-slots
invariant-slots g l = record {
  goes_on :
      GoesOnServing l.limits g.A.Responder.reading (at_now (owned (g.A.Responder.state l.fn.service) l.fn.self.owners.list) (g.N.Streams.stream l.fn.sockets) (g.E.EndReport.reported l.fn.report))
      (at_now (owned (g.A.Responder.state l.service) l.self.1.1.1.1.0.list) (g.N.Streams.stream l.sockets) (g.E.EndReport.reported l.report)) l.fn.self.accepted l.fn.self.accepted l.fn.self.slots.items l.slot-items;
  ends :
      EachSlot (GivesUp l.limits (is_room_short l.fn.self.slots.items) l.time g.A.Responder.reading) (at_now (owned (g.A.Responder.state l.fn.service) l.fn.self.owners.list) (g.N.Streams.stream l.fn.sockets) (g.E.EndReport.reported l.fn.report))
      (at_now (owned (g.A.Responder.state l.service) l.self.1.1.1.1.0.list) (g.N.Streams.stream l.sockets) (g.E.EndReport.reported l.report)) (take l.slot-index l.fn.self.slots.items) (take l.slot-index l.slot-items);
  ahead : (key : ℕ) → l.slot-index ≤ key → get_or l.slot-items key None ≡ get_or l.fn.self.slots.items key None;
  rooms : KeepsRooms l.fn.self.slots.items l.slot-items;
}
