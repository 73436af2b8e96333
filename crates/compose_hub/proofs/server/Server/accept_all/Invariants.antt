use Rattle.std.proofs.Common.{◌≡◌, ℕ, ◌≤◌, Option, List, true, get_or}
use Rattle.std.specs.Prelude.{None, nat_lt}
use Rattle.compose_machine.specs.Machine.{Reading}
use Rattle.compose_hub.specs.Turns.{OwnedService}
use Rattle.compose_hub.specs.Ends.{ReportedEnd}
use Rattle.compose_hub.specs.Sockets.{BytesStay}
use Rattle.compose_hub.specs.Serving.{at_now, GoesOnServing}
use Rattle.compose_hub.specs.Loop.{AllKeepOrAccept}
use Rattle.compose_hub.specs.Rounds.{KeepsRooms, is_waits, retried}
use Rattle.compose_hub.proofs.Trying.{Tried}
use Rattle.compose_hub.proofs.server.Server.accept_all.Given as goal

abbrev pub invariant-slots : goal.invariant-slots
invariant-slots g l = record {
  goes_on : (reading : Reading) (state : OwnedService) (reported : Option (List ReportedEnd))
      → GoesOnServing l.limits reading (at_now state (g.N.Streams.stream l.fn.sockets) reported)
      (at_now state (g.N.Streams.stream l.sockets) reported) l.fn.self.accepted l.self.1.1.0 l.fn.self.slots.items l.slot-items;
  rooms : KeepsRooms l.fn.self.slots.items l.slot-items;
  bytes : BytesStay (g.N.Streams.stream l.fn.sockets) (g.N.Streams.stream l.sockets);
  slots : AllKeepOrAccept l.fn.self.time l.fn.self.slots.items l.slot-items;
  ahead : (key : ℕ) → l.key ≤ key → get_or l.slot-items key None ≡ get_or l.fn.self.slots.items key None;
  tried : is_waits (retried l.fn.self.queue) ≡ true → nat_lt l.fn.self.accepted l.limits.connections ≡ true
      → Tried (g.N.Sockets.attempts l.fn.sockets) (g.N.Sockets.attempts l.sockets) (retried l.fn.self.queue) l.self.1.1.1.0 l.fn.self.accepted l.self.1.1.0 l.key l.fn.self.slots.items;
}
