use Rattle.std.proofs.Common.{◌∙◌, ◌<◌, ℕ, subst, arith}
use Rattle.compose_many.specs.declared.turn.Turn.TheVariants.{GoesOn}
use Rattle.compose_hub.specs.Turns.{max_turns, owned, TurnsAs}
use Rattle.compose_hub.proofs.Turns.{turns_then, went_on, share_then}
use Rattle.compose_hub.proofs.client.Client.take_turns.Goals as goal

pub returns-in_default-clause-turns : goal.returns-in_default-clause-turns
returns-in_default-clause-turns g c =
    let lt : c.turns.counter < max_turns = omega arith in
    let mid = owned (g.A.Responder.state c.turns.service) c.turns.owners.list in
    let new = owned (g.A.Responder.state c.turn.new.service) c.turn.new.owners.list in
    let streams = g.N.Streams.stream c.turns.streams in
    let streams' = g.N.Streams.stream c.turn.new.streams in (
      turns_then c.turns.counter c.args.unsent g.A.Responder.reading (owned (g.A.Responder.state c.args.service.now) c.args.owners.now.list) mid new c.args.self.now.number (g.N.Streams.stream c.args.streams.now) streams streams'
          c.args.self.now.connection c.turns.self.connection c.turn.new.self.connection c.turns.invariant.0 max_turns c.turn.result lt
          (subst (λ (n : ℕ). TurnsAs 1 c.args.unsent g.A.Responder.reading c.turn.result mid new n streams streams' c.turns.self.connection c.turn.new.self.connection) c.turns.invariant.1 c.turn.ensures.turn.0),
      c.turn.ensures.turn.1 ∙ c.turns.invariant.1,
    )

pub turns-preserved : goal.turns-preserved
turns-preserved g c =
    let mid = owned (g.A.Responder.state c.turns.service) c.turns.owners.list in
    let new = owned (g.A.Responder.state c.turn.new.service) c.turn.new.owners.list in
    let streams = g.N.Streams.stream c.turns.streams in
    let streams' = g.N.Streams.stream c.turn.new.streams in (
      went_on c.turns.counter c.args.unsent g.A.Responder.reading (owned (g.A.Responder.state c.args.service.now) c.args.owners.now.list) mid new c.args.self.now.number (g.N.Streams.stream c.args.streams.now) streams streams'
          c.args.self.now.connection c.turns.self.connection c.turn.new.self.connection c.turns.invariant.0
          (subst (λ (n : ℕ). TurnsAs 1 c.args.unsent g.A.Responder.reading GoesOn mid new n streams streams' c.turns.self.connection c.turn.new.self.connection) c.turns.invariant.1 c.in-GoesOn.ensures.turn.0),
      c.in-GoesOn.ensures.turn.1 ∙ c.turns.invariant.1,
      share_then GoesOn c.args.self.now c.turns.self c.turn.new.self c.turns.invariant.2 c.in-GoesOn.ensures.share,
      c.in-GoesOn.ensures.waits ∙ c.turns.invariant.3,
    )

pub returns-in_default-clause-share : goal.returns-in_default-clause-share
returns-in_default-clause-share g c = share_then c.turn.result c.args.self.now c.turns.self c.turn.new.self c.turns.invariant.2 c.turn.ensures.share
