use Rattle.std.proofs.Common.{◌≡◌, ◌∙◌, ℕ, List, [], ◌∷◌, Option, refl, sym, ap, subst, arith}
use Rattle.std.specs.Duration.{as_nanos}
use Rattle.compose_hub.specs.Turns.{OwnedService, owned}
use Rattle.compose_hub.specs.Serving.{World, world, at_now, ServedSoFar}
use Rattle.compose_machine.specs.Machine.{Reading, ServiceState}
use Rattle.compose_many.specs.declared.owners.Owner.{Owner}
use Rattle.compose_many.specs.Numbered.{StreamState}
use Rattle.compose_hub.specs.Ends.{ReportedEnd}
use Rattle.compose_hub.specs.declared.client.Limits.{Limits}
use Rattle.compose_hub.specs.declared.client.Client.{Client}
use Rattle.compose_hub.proofs.Serving.{nothing_happened, none_served, all_reported}
use Rattle.compose_hub.proofs.Looping.{waits_none, waits_only, waits_then, accepts_none, begin, begins, broken_off, no_rounds, more_rounds}
use Rattle.compose_hub.specs.Waits.{Wait}
use Rattle.compose_hub.specs.Loop.{Standing}
use Rattle.compose_hub.specs.Round.{IsRound}
use Rattle.compose_hub.specs.declared.sockets.Ready.{Ready}
use Rattle.compose_hub.specs.Rounds.{AreWithinRooms}
use Rattle.compose_hub.proofs.Rooms.{no_rooms}
use Rattle.compose_hub.proofs.server.serve_at_once.Goals as goal

-- the service between two rounds
abbrev standing : ServiceState → List Owner → (ℕ → StreamState) → Option (List ReportedEnd) → ℕ → List (Option Client) → Standing
standing state owners streams reported time slots = record { now = at_now (owned state owners) streams reported; time = time; slots = slots }

-- catching up reports no new end
caught_up : (limits : Limits) (reading : Reading) (first : World) (state : OwnedService) (streams : ℕ → StreamState) (reported reported' : Option (List ReportedEnd)) (accepted : ℕ) (slots : List (Option Client)) → reported' ≡ reported
    → ServedSoFar limits reading first (at_now state streams reported) accepted slots → ServedSoFar limits reading first (at_now state streams reported') accepted slots
caught_up limits reading first state streams reported reported' accepted slots same s = subst (λ (t : Option (List ReportedEnd)). ServedSoFar limits reading first (at_now state streams t) accepted slots) (sym same) s

pub returns-in_err-server-clause-serves : goal.returns-in_err-server-clause-serves
returns-in_err-server-clause-serves g c =
    nothing_happened c.args.limits g.A.Responder.reading (g.A.Responder.state c.args.service.now) (g.N.Streams.stream c.args.sockets.now) (g.E.EndReport.reported c.args.report.now)

pub rounds-init : goal.rounds-init
rounds-init g c = record {
  served =
      none_served c.args.limits g.A.Responder.reading (g.A.Responder.state c.args.service.now) c.in_ok-server.server.owners.list (g.N.Streams.stream c.args.sockets.now) (g.E.EndReport.reported c.args.report.now) c.in_ok-server.server.accepted
      c.in_ok-server.server.slots.items c.in_ok-server.ensures.1 c.in_ok-server.ensures.2 c.in_ok-server.ensures.3;
  rooms = no_rooms c.in_ok-server.server.slots.items c.in_ok-server.ensures.1;
  rounds =
      no_rounds c.args.limits g.A.Responder.reading (g.W.Readiness.waits c.args.readiness.now)
      (world (g.A.Responder.state c.args.service.now) (g.N.Streams.stream c.args.sockets.now) (g.E.EndReport.reported c.args.report.now)) _ (record {
        nothing = ap (λ (o : List Owner). at_now (owned (g.A.Responder.state c.args.service.now) o) (g.N.Streams.stream c.args.sockets.now) (g.E.EndReport.reported c.args.report.now)) c.in_ok-server.ensures.3;
        time = c.in_ok-server.ensures.4;
        free = c.in_ok-server.ensures.1;
        enough = (let len = c.in_ok-server.ensures.0 in omega (arith, len));
      });
}

pub returns-then-is_done-clause-serves : goal.returns-then-is_done-clause-serves
returns-then-is_done-clause-serves g c =
    let first = world (g.A.Responder.state c.args.service.now) (g.N.Streams.stream c.args.sockets.now) (g.E.EndReport.reported c.args.report.now) in
    let state = owned (g.A.Responder.state c.rounds.service) c.rounds.server.owners.list in
    let reported = g.E.EndReport.reported c.catch_up-behind.new.self in
    let accepted = c.accept_all.ensures.goes_on g.A.Responder.reading state reported first (caught_up c.args.limits g.A.Responder.reading first state (g.N.Streams.stream c.rounds.sockets) (g.E.EndReport.reported c.rounds.report) reported c.rounds.server.accepted c.rounds.server.slots.items c.catch_up-behind.ensures c.rounds.invariant.served) in
    accepted.so_far

pub returns-then-is_done-clause-all : goal.returns-then-is_done-clause-all
returns-then-is_done-clause-all g c =
    let first = world (g.A.Responder.state c.args.service.now) (g.N.Streams.stream c.args.sockets.now) (g.E.EndReport.reported c.args.report.now) in
    let state = owned (g.A.Responder.state c.rounds.service) c.rounds.server.owners.list in
    let reported = g.E.EndReport.reported c.catch_up-behind.new.self in
    let accepted = c.accept_all.ensures.goes_on g.A.Responder.reading state reported first (caught_up c.args.limits g.A.Responder.reading first state (g.N.Streams.stream c.rounds.sockets) (g.E.EndReport.reported c.rounds.report) reported c.rounds.server.accepted c.rounds.server.slots.items c.catch_up-behind.ensures c.rounds.invariant.served) in (
      accepted.so_far,
      all_reported c.args.limits g.A.Responder.reading first (at_now state (g.N.Streams.stream c.accept_all.new.sockets) reported) c.accept_all.new.self.accepted c.accept_all.new.self.slots.items
          (sym c.is_done.ensures ∙ c.if-is_done.true) accepted,
    )

pub returns-in_err-passed-clause-serves : goal.returns-in_err-passed-clause-serves
returns-in_err-passed-clause-serves g c =
    let first = world (g.A.Responder.state c.args.service.now) (g.N.Streams.stream c.args.sockets.now) (g.E.EndReport.reported c.args.report.now) in
    let state = owned (g.A.Responder.state c.rounds.service) c.rounds.server.owners.list in
    let reported = g.E.EndReport.reported c.catch_up-behind.new.self in
    let accepted = c.accept_all.ensures.goes_on g.A.Responder.reading state reported first (caught_up c.args.limits g.A.Responder.reading first state (g.N.Streams.stream c.rounds.sockets) (g.E.EndReport.reported c.rounds.report) reported c.rounds.server.accepted c.rounds.server.slots.items c.catch_up-behind.ensures c.rounds.invariant.served) in
    accepted.so_far

pub returns-in_err-round-clause-serves : goal.returns-in_err-round-clause-serves
returns-in_err-round-clause-serves g c =
    let first = world (g.A.Responder.state c.args.service.now) (g.N.Streams.stream c.args.sockets.now) (g.E.EndReport.reported c.args.report.now) in
    let state = owned (g.A.Responder.state c.rounds.service) c.rounds.server.owners.list in
    let reported = g.E.EndReport.reported c.catch_up-behind.new.self in
    let accepted = c.accept_all.ensures.goes_on g.A.Responder.reading state reported first (caught_up c.args.limits g.A.Responder.reading first state (g.N.Streams.stream c.rounds.sockets) (g.E.EndReport.reported c.rounds.report) reported c.rounds.server.accepted c.rounds.server.slots.items c.catch_up-behind.ensures c.rounds.invariant.served) in
    let waited =
    subst (λ (o : List Owner). ServedSoFar c.args.limits g.A.Responder.reading first (at_now (owned (g.A.Responder.state c.rounds.service) o) (g.N.Streams.stream c.accept_all.new.sockets) reported) c.accept_all.new.self.accepted c.accept_all.new.self.slots.items)
    (sym c.accept_all.ensures.owners) accepted
    in
    c.round.ensures.happened first waited

pub rounds-preserved : goal.rounds-preserved
rounds-preserved g c =
    let first = world (g.A.Responder.state c.args.service.now) (g.N.Streams.stream c.args.sockets.now) (g.E.EndReport.reported c.args.report.now) in
    let state = owned (g.A.Responder.state c.rounds.service) c.rounds.server.owners.list in
    let reported = g.E.EndReport.reported c.catch_up-behind.new.self in
    let accepted = c.accept_all.ensures.goes_on g.A.Responder.reading state reported first (caught_up c.args.limits g.A.Responder.reading first state (g.N.Streams.stream c.rounds.sockets) (g.E.EndReport.reported c.rounds.report) reported c.rounds.server.accepted c.rounds.server.slots.items c.catch_up-behind.ensures c.rounds.invariant.served) in
    let waited =
    subst (λ (o : List Owner). ServedSoFar c.args.limits g.A.Responder.reading first (at_now (owned (g.A.Responder.state c.rounds.service) o) (g.N.Streams.stream c.accept_all.new.sockets) reported) c.accept_all.new.self.accepted c.accept_all.new.self.slots.items)
    (sym c.accept_all.ensures.owners) accepted
    in
    let wait : Wait = record { ready = c.wait.new.ready.items; passed = as_nanos c.in_ok-passed.passed } in
    record {
      served = c.in_ok-round.ensures.goes_on first waited;
      rooms = c.in_ok-round.ensures.rooms (c.accept_all.ensures.rooms c.rounds.invariant.rooms);
      rounds =
          more_rounds c.args.limits g.A.Responder.reading (g.W.Readiness.waits c.args.readiness.now) (g.W.Readiness.waits c.rounds.readiness) (g.W.Readiness.waits c.round.new.readiness) first _ _ wait c.rounds.invariant.rounds
          (c.round.ensures.waits ∙ c.in_ok-passed.ensures) (
            standing (g.A.Responder.state c.rounds.service) c.accept_all.new.self.owners.list (g.N.Streams.stream c.accept_all.new.sockets) reported c.accept_all.new.self.time c.accept_all.new.self.slots.items,
            record {
              state = ap (λ (o : List Owner). owned (g.A.Responder.state c.rounds.service) o) c.accept_all.ensures.owners;
              bytes = c.accept_all.ensures.bytes;
              reported = c.catch_up-behind.ensures;
              time = c.accept_all.ensures.time;
              slots = c.accept_all.ensures.slots;
            },
            subst (λ (r : List Ready). IsRound c.args.limits g.A.Responder.reading r (as_nanos c.in_ok-passed.passed)
                (at_now (owned (g.A.Responder.state c.rounds.service) c.accept_all.new.self.owners.list) (g.N.Streams.stream c.accept_all.new.sockets) reported)
                (at_now (owned (g.A.Responder.state c.round.new.service) c.round.new.self.owners.list) (g.N.Streams.stream c.round.new.sockets) (g.E.EndReport.reported c.round.new.report))
                c.accept_all.new.self.time c.round.new.self.time c.accept_all.new.self.slots.items c.round.new.self.slots.items) c.deref.ensures.value c.in_ok-round.ensures.round,
          );
    }

pub returns-clause-serves : goal.returns-clause-serves
returns-clause-serves g c = c.rounds.invariant.served.so_far

pub returns-in_err-server-clause-rounds : goal.returns-in_err-server-clause-rounds
returns-in_err-server-clause-rounds g c =
    let first = world (g.A.Responder.state c.args.service.now) (g.N.Streams.stream c.args.sockets.now) (g.E.EndReport.reported c.args.report.now) in
    record {
      taken = [];
      broken = [];
      waited = waits_none (g.W.Readiness.waits c.args.readiness.now);
      start = begin c.args.limits first;
      begins = begins c.args.limits first;
      last = begin c.args.limits first;
      rounds = refl;
      accepted = begin c.args.limits first;
      accepts = accepts_none (begin c.args.limits first);
      ends = refl;
    }

pub returns-then-is_done-clause-rounds : goal.returns-then-is_done-clause-rounds
returns-then-is_done-clause-rounds g c =
    let so_far = c.rounds.invariant.rounds in
    let at = standing (g.A.Responder.state c.rounds.service) c.accept_all.new.self.owners.list (g.N.Streams.stream c.accept_all.new.sockets) (g.E.EndReport.reported c.catch_up-behind.new.self) c.accept_all.new.self.time
    c.accept_all.new.self.slots.items in
    record {
      taken = so_far.taken;
      broken = [];
      waited = waits_only (g.W.Readiness.waits c.args.readiness.now) (g.W.Readiness.waits c.rounds.readiness) so_far.taken so_far.waited;
      start = so_far.start;
      begins = so_far.begins;
      last = standing (g.A.Responder.state c.rounds.service) c.rounds.server.owners.list (g.N.Streams.stream c.rounds.sockets) (g.E.EndReport.reported c.rounds.report) c.rounds.server.time c.rounds.server.slots.items;
      rounds = so_far.rounds;
      accepted = at;
      accepts = record {
        state = ap (λ (o : List Owner). owned (g.A.Responder.state c.rounds.service) o) c.accept_all.ensures.owners;
        bytes = c.accept_all.ensures.bytes;
        reported = c.catch_up-behind.ensures;
        time = c.accept_all.ensures.time;
        slots = c.accept_all.ensures.slots;
      };
      ends = refl;
    }

pub returns-in_err-passed-clause-rounds : goal.returns-in_err-passed-clause-rounds
returns-in_err-passed-clause-rounds g c =
    let so_far = c.rounds.invariant.rounds in
    let at = standing (g.A.Responder.state c.rounds.service) c.accept_all.new.self.owners.list (g.N.Streams.stream c.accept_all.new.sockets) (g.E.EndReport.reported c.catch_up-behind.new.self) c.accept_all.new.self.time
    c.accept_all.new.self.slots.items in
    record {
      taken = so_far.taken;
      broken = [];
      waited = waits_only (g.W.Readiness.waits c.args.readiness.now) (g.W.Readiness.waits c.wait.new.self) so_far.taken (c.in_err-passed.ensures ∙ so_far.waited);
      start = so_far.start;
      begins = so_far.begins;
      last = standing (g.A.Responder.state c.rounds.service) c.rounds.server.owners.list (g.N.Streams.stream c.rounds.sockets) (g.E.EndReport.reported c.rounds.report) c.rounds.server.time c.rounds.server.slots.items;
      rounds = so_far.rounds;
      accepted = at;
      accepts = record {
        state = ap (λ (o : List Owner). owned (g.A.Responder.state c.rounds.service) o) c.accept_all.ensures.owners;
        bytes = c.accept_all.ensures.bytes;
        reported = c.catch_up-behind.ensures;
        time = c.accept_all.ensures.time;
        slots = c.accept_all.ensures.slots;
      };
      ends = refl;
    }

pub returns-in_err-round-clause-rounds : goal.returns-in_err-round-clause-rounds
returns-in_err-round-clause-rounds g c =
    let so_far = c.rounds.invariant.rounds in
    let at = standing (g.A.Responder.state c.rounds.service) c.accept_all.new.self.owners.list (g.N.Streams.stream c.accept_all.new.sockets) (g.E.EndReport.reported c.catch_up-behind.new.self) c.accept_all.new.self.time
    c.accept_all.new.self.slots.items in
    let wait : Wait = record { ready = c.wait.new.ready.items; passed = as_nanos c.in_ok-passed.passed } in
    record {
      taken = so_far.taken;
      broken = wait ∷ [];
      waited = waits_then (g.W.Readiness.waits c.args.readiness.now) (g.W.Readiness.waits c.rounds.readiness) (g.W.Readiness.waits c.round.new.readiness) so_far.taken (wait ∷ []) so_far.waited (c.round.ensures.waits ∙ c.in_ok-passed.ensures);
      start = so_far.start;
      begins = so_far.begins;
      last = standing (g.A.Responder.state c.rounds.service) c.rounds.server.owners.list (g.N.Streams.stream c.rounds.sockets) (g.E.EndReport.reported c.rounds.report) c.rounds.server.time c.rounds.server.slots.items;
      rounds = so_far.rounds;
      accepted = at;
      accepts = record {
        state = ap (λ (o : List Owner). owned (g.A.Responder.state c.rounds.service) o) c.accept_all.ensures.owners;
        bytes = c.accept_all.ensures.bytes;
        reported = c.catch_up-behind.ensures;
        time = c.accept_all.ensures.time;
        slots = c.accept_all.ensures.slots;
      };
      ends = broken_off wait _ _ _ c.from_residual-in_err-round.ensures.0;
    }

pub returns-clause-rounds : goal.returns-clause-rounds
returns-clause-rounds g c =
    let so_far = c.rounds.invariant.rounds in
    record {
      taken = so_far.taken;
      broken = [];
      waited = waits_only (g.W.Readiness.waits c.args.readiness.now) (g.W.Readiness.waits c.rounds.readiness) so_far.taken so_far.waited;
      start = so_far.start;
      begins = so_far.begins;
      last = standing (g.A.Responder.state c.rounds.service) c.rounds.server.owners.list (g.N.Streams.stream c.rounds.sockets) (g.E.EndReport.reported c.rounds.report) c.rounds.server.time c.rounds.server.slots.items;
      rounds = so_far.rounds;
      accepted = standing (g.A.Responder.state c.rounds.service) c.rounds.server.owners.list (g.N.Streams.stream c.rounds.sockets) (g.E.EndReport.reported c.rounds.report) c.rounds.server.time c.rounds.server.slots.items;
      accepts = accepts_none (standing (g.A.Responder.state c.rounds.service) c.rounds.server.owners.list (g.N.Streams.stream c.rounds.sockets) (g.E.EndReport.reported c.rounds.report) c.rounds.server.time c.rounds.server.slots.items);
      ends = refl;
    }
