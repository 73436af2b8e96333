use Rattle.std.proofs.Common.{◌≡◌, ◌∙◌, ℕ, List, Option, refl, sym, ap, subst, arith}
use Rattle.std.specs.Duration.{as_nanos}
use Rattle.compose_machine.specs.Machine.{Reading}
use Rattle.compose_many.specs.Numbered.{StreamState}
use Rattle.compose_many.specs.declared.owners.Owner.{Owner}
use Rattle.compose_hub.specs.Ends.{ReportedEnd}
use Rattle.compose_hub.specs.Turns.{OwnedService, owned}
use Rattle.compose_hub.specs.Serving.{World, at_now, ServedSoFar, AllAreStill}
use Rattle.compose_hub.specs.Rounds.{AreWithinRooms, later, queue_with, is_room_short, MarksReady}
use Rattle.compose_hub.specs.Round.{EachSlot, TakesTurns, GivesUp, SharesRoom}
use Rattle.compose_hub.specs.declared.client.Client.{Client}
use Rattle.compose_hub.specs.declared.client.Limits.{Limits}
use Rattle.compose_hub.proofs.Serving.{still_so_far}
use Rattle.compose_hub.proofs.server.Server.round.Goals as goal

-- what happened so far, while only what the clients wait for changes
so_far : (limits : Limits) (reading : Reading) (first : World) (service : OwnedService) (owners : List Owner) (streams : ℕ → StreamState) (reported : Option (List ReportedEnd)) (accepted accepted' : ℕ) (slots now : List (Option Client))
    → owners ≡ service.owners → accepted' ≡ accepted → AllAreStill slots now → ServedSoFar limits reading first (at_now service streams reported) accepted slots
    → ServedSoFar limits reading first (at_now (owned service.service owners) streams reported) accepted' now
so_far limits reading first service owners streams reported accepted accepted' slots now same none still s =
    subst (λ (o : List Owner). ServedSoFar limits reading first (at_now (owned service.service o) streams reported) accepted' now) (sym same)
    (still_so_far limits reading first service streams streams reported (λ n. refl) accepted accepted' slots now none still s)

pub returns-in_err-take_turns-clause-happened : goal.returns-in_err-take_turns-clause-happened
returns-in_err-take_turns-clause-happened g c first s =
    let service = owned (g.A.Responder.state c.args.service.now) c.args.self.now.owners.list in
    let marked =
    so_far c.args.limits g.A.Responder.reading first service c.mark_ready.new.self.owners.list (g.N.Streams.stream c.args.sockets.now) (g.E.EndReport.reported c.args.report.now) c.args.self.now.accepted c.mark_ready.new.self.accepted
    c.args.self.now.slots.items c.mark_ready.new.self.slots.items (c.mark_ready.ensures.owners ∙ ap (λ v. v.owners.list) c.count_time.ensures) (c.mark_ready.ensures.still.0 ∙ ap (λ v. v.accepted) c.count_time.ensures)
    (subst (λ (v : List (Option Client)). AllAreStill v c.mark_ready.new.self.slots.items) (ap (λ v. v.slots.items) c.count_time.ensures) c.mark_ready.ensures.still.1) s
    in
    c.take_turns.ensures.happened first marked

pub returns-in_err-give_up-clause-happened : goal.returns-in_err-give_up-clause-happened
returns-in_err-give_up-clause-happened g c first s =
    let service = owned (g.A.Responder.state c.args.service.now) c.args.self.now.owners.list in
    let marked =
    so_far c.args.limits g.A.Responder.reading first service c.mark_ready.new.self.owners.list (g.N.Streams.stream c.args.sockets.now) (g.E.EndReport.reported c.args.report.now) c.args.self.now.accepted c.mark_ready.new.self.accepted
    c.args.self.now.slots.items c.mark_ready.new.self.slots.items (c.mark_ready.ensures.owners ∙ ap (λ v. v.owners.list) c.count_time.ensures) (c.mark_ready.ensures.still.0 ∙ ap (λ v. v.accepted) c.count_time.ensures)
    (subst (λ (v : List (Option Client)). AllAreStill v c.mark_ready.new.self.slots.items) (ap (λ v. v.slots.items) c.count_time.ensures) c.mark_ready.ensures.still.1) s
    in
    c.give_up.ensures.happened first (c.in_ok-take_turns.ensures.goes_on first marked)

shared_so_far : goal.returns-clause-goes_on
shared_so_far g c first s =
    let service = owned (g.A.Responder.state c.args.service.now) c.args.self.now.owners.list in
    let marked =
    so_far c.args.limits g.A.Responder.reading first service c.mark_ready.new.self.owners.list (g.N.Streams.stream c.args.sockets.now) (g.E.EndReport.reported c.args.report.now) c.args.self.now.accepted c.mark_ready.new.self.accepted
    c.args.self.now.slots.items c.mark_ready.new.self.slots.items (c.mark_ready.ensures.owners ∙ ap (λ v. v.owners.list) c.count_time.ensures) (c.mark_ready.ensures.still.0 ∙ ap (λ v. v.accepted) c.count_time.ensures)
    (subst (λ (v : List (Option Client)). AllAreStill v c.mark_ready.new.self.slots.items) (ap (λ v. v.slots.items) c.count_time.ensures) c.mark_ready.ensures.still.1) s
    in
    so_far c.args.limits g.A.Responder.reading first (owned (g.A.Responder.state c.give_up.new.service) c.give_up.new.self.owners.list) c.share_room.new.self.owners.list (g.N.Streams.stream c.give_up.new.sockets)
    (g.E.EndReport.reported c.give_up.new.report) c.give_up.new.self.accepted c.share_room.new.self.accepted c.give_up.new.self.slots.items c.share_room.new.self.slots.items c.share_room.ensures.owners c.share_room.ensures.still.0
    c.share_room.ensures.still.1 (c.in_ok-give_up.ensures.goes_on first (c.in_ok-take_turns.ensures.goes_on first marked))

pub returns-clause-goes_on : goal.returns-clause-goes_on
returns-clause-goes_on g c first s = shared_so_far g c first s

pub returns-clause-happened : goal.returns-clause-happened
returns-clause-happened g c first s = (shared_so_far g c first s).so_far

pub returns-clause-round : goal.returns-clause-round
returns-clause-round g c =
    let streams = g.N.Streams.stream c.args.sockets.now in
    let reported = g.E.EndReport.reported c.args.report.now in
    let owners : c.mark_ready.new.self.owners.list ≡ c.args.self.now.owners.list = c.mark_ready.ensures.owners ∙ ap (λ v. v.owners.list) c.count_time.ensures in
    let time : c.mark_ready.new.self.time ≡ later c.args.self.now.time (as_nanos c.args.passed) = c.mark_ready.ensures.time ∙ ap (λ v. v.time) c.count_time.ensures in
    let mid = at_now (owned (g.A.Responder.state c.take_turns.new.service) c.take_turns.new.self.owners.list) (g.N.Streams.stream c.take_turns.new.sockets) (g.E.EndReport.reported c.take_turns.new.report) in
    record {
      marked = c.mark_ready.new.self.slots.items;
      marks = subst (λ (s : List (Option Client)). MarksReady c.args.ready.now s c.mark_ready.new.self.slots.items) (ap (λ v. v.slots.items) c.count_time.ensures) c.mark_ready.ensures.marks;
      mid = mid;
      turned = c.take_turns.new.self.slots.items;
      turns =
          subst (λ (o : List Owner). EachSlot (TakesTurns c.args.limits g.A.Responder.reading (later c.args.self.now.time (as_nanos c.args.passed))) (at_now (owned (g.A.Responder.state c.args.service.now) o) streams reported) mid
          c.mark_ready.new.self.slots.items c.take_turns.new.self.slots.items) owners
          (subst (λ (t : ℕ). EachSlot (TakesTurns c.args.limits g.A.Responder.reading t) (at_now (owned (g.A.Responder.state c.args.service.now) c.mark_ready.new.self.owners.list) streams reported) mid
          c.mark_ready.new.self.slots.items c.take_turns.new.self.slots.items) time c.in_ok-take_turns.ensures.turns);
      kept = c.give_up.new.self.slots.items;
      ends =
          subst (λ (o : List Owner). EachSlot (GivesUp c.args.limits (is_room_short c.take_turns.new.self.slots.items) c.args.self.now.time g.A.Responder.reading) mid
          (at_now (owned (g.A.Responder.state c.give_up.new.service) o) (g.N.Streams.stream c.give_up.new.sockets) (g.E.EndReport.reported c.give_up.new.report)) c.take_turns.new.self.slots.items c.give_up.new.self.slots.items)
          (sym c.share_room.ensures.owners) c.in_ok-give_up.ensures.ends;
      shared = subst (λ (t : ℕ). SharesRoom t c.give_up.new.self.slots.items c.share_room.new.self.slots.items) (sym c.share_room.ensures.time.0) c.share_room.ensures.shared;
      counted = (let turned = c.take_turns.ensures.later in let kept = c.give_up.ensures.time.0 in let shared = c.share_room.ensures.time.0 in omega (arith, time, turned, kept, shared));
    }

pub returns-clause-queue : goal.returns-clause-queue
returns-clause-queue g c =
    c.share_room.ensures.time.1 ∙ c.give_up.ensures.time.1 ∙ c.take_turns.ensures.queue ∙ c.mark_ready.ensures.queue ∙ ap (λ v. queue_with c.args.ready.now v.queue) c.count_time.ensures

pub returns-in_err-take_turns-clause-rooms : goal.returns-in_err-take_turns-clause-rooms
returns-in_err-take_turns-clause-rooms g c all =
    c.take_turns.ensures.rooms (c.mark_ready.ensures.rooms (subst (λ (v : List (Option Client)). AreWithinRooms v) (sym (ap (λ v. v.slots.items) c.count_time.ensures)) all))

pub returns-in_err-give_up-clause-rooms : goal.returns-in_err-give_up-clause-rooms
returns-in_err-give_up-clause-rooms g c all =
    c.give_up.ensures.rooms (c.take_turns.ensures.rooms (c.mark_ready.ensures.rooms (subst (λ (v : List (Option Client)). AreWithinRooms v) (sym (ap (λ v. v.slots.items) c.count_time.ensures)) all)))

pub returns-clause-rooms : goal.returns-clause-rooms
returns-clause-rooms g c all =
    c.share_room.ensures.rooms (c.give_up.ensures.rooms (c.take_turns.ensures.rooms (c.mark_ready.ensures.rooms (subst (λ (v : List (Option Client)). AreWithinRooms v) (sym (ap (λ v. v.slots.items) c.count_time.ensures)) all))))
