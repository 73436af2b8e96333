use Rattle.compose_hub.specs.Turns.{owned}
use Rattle.compose_hub.specs.Serving.{world, at_now, ServedSoFar}
use Rattle.compose_hub.specs.Rounds.{AreWithinRooms}
use Rattle.compose_hub.proofs.Looping.{Rounds}
use Rattle.compose_hub.proofs.server.serve_at_once.Given as goal

abbrev pub invariant-rounds : goal.invariant-rounds
invariant-rounds g l = record {
  served :
      ServedSoFar l.limits g.A.Responder.reading (world (g.A.Responder.state l.fn.service) (g.N.Streams.stream l.fn.sockets) (g.E.EndReport.reported l.fn.report))
      (at_now (owned (g.A.Responder.state l.service) l.server.owners.list) (g.N.Streams.stream l.sockets) (g.E.EndReport.reported l.report)) l.server.accepted l.server.slots.items;
  rooms : AreWithinRooms l.server.slots.items;
  rounds :
      Rounds l.limits g.A.Responder.reading (g.W.Readiness.waits l.fn.readiness) (g.W.Readiness.waits l.readiness)
      (world (g.A.Responder.state l.fn.service) (g.N.Streams.stream l.fn.sockets) (g.E.EndReport.reported l.fn.report)) (record {
        now = at_now (owned (g.A.Responder.state l.service) l.server.owners.list) (g.N.Streams.stream l.sockets) (g.E.EndReport.reported l.report);
        time = l.server.time;
        slots = l.server.slots.items;
      });
}
