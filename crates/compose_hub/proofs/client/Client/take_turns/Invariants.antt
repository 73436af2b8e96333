use Rattle.std.proofs.Common.{◌≡◌}
use Rattle.compose_many.specs.declared.turn.Turn.TheVariants.{GoesOn}
use Rattle.compose_hub.specs.Slots.{KeepsShare}
use Rattle.compose_hub.specs.Turns.{owned}
use Rattle.compose_hub.proofs.Turns.{WentOn}
use Rattle.compose_hub.proofs.client.Client.take_turns.Given as goal

abbrev pub invariant-turns : goal.invariant-turns
invariant-turns g l =
    WentOn l.counter l.unsent g.A.Responder.reading (owned (g.A.Responder.state l.fn.service) l.fn.owners.list) (owned (g.A.Responder.state l.service) l.owners.list) l.fn.self.number (g.N.Streams.stream l.fn.streams)
    (g.N.Streams.stream l.streams) l.fn.self.connection l.self.connection × (l.self.number ≡ l.fn.self.number) × KeepsShare GoesOn l.fn.self l.self × (l.self.waits_for ≡ l.fn.self.waits_for)
