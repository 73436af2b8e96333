use Rattle.std.proofs.Common.{◌≡◌, ◌∙◌, true, refl, ap, inr, subst, rules}
use Rattle.std.specs.Prelude.{ℕ, Option, Some, None, Result}
use Rattle.compose_serve.specs.declared.ends.StreamEnd.{StreamEnd}
use Rattle.compose_serve.specs.declared.ends.ServeFault.{ServeFault}
use Rattle.compose_many.specs.declared.turn.Turn.TheVariants.{GoesOn, Loaded, Waits, NeedsRoom, Ends}
use Rattle.compose_hub.specs.Sockets.{KeepsBytes, StaysFailed}
use Rattle.compose_hub.specs.Slots.{slot_has_turn}
use Rattle.compose_hub.specs.Serving.{StandsAs, WaitsSince}
use Rattle.compose_hub.specs.declared.client.Client.{Client}
use Rattle.compose_hub.specs.declared.client.WaitsFor.TheVariants.{Turn as ForTurn, Stream as ForStream, Room as ForRoom}
use Rattle.compose_hub.specs.declared.client.WaitsFor.{WaitsFor}
use Rattle.compose_hub.specs.declared.ends.ConnectionEnd.{ConnectionEnd}
use Rattle.compose_hub.specs.declared.ends.ConnectionEnd.TheVariants.{Served}
use Rattle.compose_hub.proofs.server.serve_slot.Goals as goal

-- a client that waits after its turns
follows : (c taken now : Client) (waits_for : WaitsFor) (time : ℕ) → taken.number ≡ c.number → now ≡ record taken { waits_for = waits_for; since = time } → (ended : Option (ℕ × ConnectionEnd)) → ended ≡ None
    → (ended ≡ None) × StandsAs c.number taken.connection (Some now) × WaitsSince waits_for time (Some now)
follows c taken now waits_for time number is ended none = (
  none,
  (now, refl, ap (λ (t : Client). t.number) is ∙ number, ap (λ (t : Client). t.connection) is),
  λ d e. let same : now ≡ d = cc in subst (λ (t : Client). (t.waits_for ≡ waits_for) × (t.since ≡ time)) same (ap (λ (t : Client). t.waits_for) is, ap (λ (t : Client). t.since) is),
)

abbrev ends_as : ℕ → Result StreamEnd ServeFault → Option (ℕ × ConnectionEnd)
ends_as n how = Some (n, Served how)

ended_as : (m n : ℕ) (how : Result StreamEnd ServeFault) → m ≡ n → ends_as m how ≡ ends_as n how
ended_as m n how e = ap (λ (k : ℕ). ends_as k how) e

pub returns-in-GoesOn-clause-turns : goal.returns-in-GoesOn-clause-turns
returns-in-GoesOn-clause-turns g c =
    let was : c.args.slot.now ≡ Some c.in-Some.client = search rules in
    let turn : c.in-Some.client.waits_for ≡ ForTurn = search rules in
    let has : slot_has_turn c.args.slot.now ≡ true = search rules in
    inr (
      c.in-Some.client,
      was,
      has,
      GoesOn,
      c.take_turns.new.self.connection,
      g.N.Streams.stream c.take_turns.new.streams,
      c.in-GoesOn.ensures.turns.0,
      λ n. refl,
      follows c.in-Some.client c.take_turns.new.self c.pause.new.client ForTurn c.pause.new.time c.in-GoesOn.ensures.turns.1 c.pause.ensures.waits c.pause.result c.pause.ensures.none,
    )

pub returns-in-Loaded-clause-turns : goal.returns-in-Loaded-clause-turns
returns-in-Loaded-clause-turns g c =
    let was : c.args.slot.now ≡ Some c.in-Some.client = search rules in
    let turn : c.in-Some.client.waits_for ≡ ForTurn = search rules in
    let has : slot_has_turn c.args.slot.now ≡ true = search rules in
    inr (
      c.in-Some.client,
      was,
      has,
      Loaded,
      c.take_turns.new.self.connection,
      g.N.Streams.stream c.take_turns.new.streams,
      c.in-Loaded.ensures.turns.0,
      λ n. refl,
      follows c.in-Some.client c.take_turns.new.self c.pause-in-Loaded.new.client ForTurn c.pause-in-Loaded.new.time c.in-Loaded.ensures.turns.1 c.pause-in-Loaded.ensures.waits c.pause-in-Loaded.result c.pause-in-Loaded.ensures.none,
    )

pub returns-in-Waits-clause-turns : goal.returns-in-Waits-clause-turns
returns-in-Waits-clause-turns g c =
    let was : c.args.slot.now ≡ Some c.in-Some.client = search rules in
    let turn : c.in-Some.client.waits_for ≡ ForTurn = search rules in
    let has : slot_has_turn c.args.slot.now ≡ true = search rules in
    inr (
      c.in-Some.client,
      was,
      has,
      Waits,
      c.take_turns.new.self.connection,
      g.N.Streams.stream c.take_turns.new.streams,
      c.in-Waits.ensures.turns.0,
      λ n. refl,
      follows c.in-Some.client c.take_turns.new.self c.pause-in-Waits.new.client ForStream c.pause-in-Waits.new.time c.in-Waits.ensures.turns.1 c.pause-in-Waits.ensures.waits c.pause-in-Waits.result c.pause-in-Waits.ensures.none,
    )

pub returns-in-NeedsRoom-clause-turns : goal.returns-in-NeedsRoom-clause-turns
returns-in-NeedsRoom-clause-turns g c =
    let was : c.args.slot.now ≡ Some c.in-Some.client = search rules in
    let turn : c.in-Some.client.waits_for ≡ ForTurn = search rules in
    let has : slot_has_turn c.args.slot.now ≡ true = search rules in
    inr (
      c.in-Some.client,
      was,
      has,
      NeedsRoom,
      c.take_turns.new.self.connection,
      g.N.Streams.stream c.take_turns.new.streams,
      c.in-NeedsRoom.ensures.turns.0,
      λ n. refl,
      follows c.in-Some.client c.take_turns.new.self c.pause-in-NeedsRoom.new.client ForRoom c.pause-in-NeedsRoom.new.time c.in-NeedsRoom.ensures.turns.1 c.pause-in-NeedsRoom.ensures.waits c.pause-in-NeedsRoom.result c.pause-in-NeedsRoom.ensures.none,
    )

pub returns-in-Ends-clause-turns : goal.returns-in-Ends-clause-turns
returns-in-Ends-clause-turns g c =
    let was : c.args.slot.now ≡ Some c.in-Some.client = search rules in
    let turn : c.in-Some.client.waits_for ≡ ForTurn = search rules in
    let has : slot_has_turn c.args.slot.now ≡ true = search rules in
    inr (
      c.in-Some.client,
      was,
      has,
      Ends c.in-Ends.how,
      c.take_turns.new.self.connection,
      g.N.Streams.stream c.take_turns.new.streams,
      c.in-Ends.ensures.turns.0,
      (let same : c.from.result ≡ c.in-Some.client.number = search rules in subst (λ (n : ℕ). KeepsBytes n (g.N.Streams.stream c.take_turns.new.streams) (g.N.Streams.stream c.close.new.self)
          × StaysFailed (g.N.Streams.stream c.take_turns.new.streams n) (g.N.Streams.stream c.close.new.self n)) same (c.close.ensures.bytes, c.close.ensures.failed)),
      (refl, ended_as c.number-number.result c.in-Some.client.number c.in-Ends.how c.number-number.ensures),
    )
