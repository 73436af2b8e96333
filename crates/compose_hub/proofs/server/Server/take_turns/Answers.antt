use Rattle.std.proofs.Common.{◌≡◌, ◌∙◌, ◌<◌, List, Option, length, set, take, get_or, get_or-set_other, sym, subst, arith}
use Rattle.std.proofs.lemmas.List.{length-set, take_at, take_all, get_or_default}
use Rattle.std.specs.Prelude.{None}
use Rattle.compose_hub.specs.Turns.{owned}
use Rattle.compose_hub.specs.Serving.{at_now, ServedSoFar}
use Rattle.compose_hub.specs.Round.{EachSlot, TakesTurns}
use Rattle.compose_hub.specs.Rounds.{AreWithinRooms, KeepsRooms}
use Rattle.compose_hub.proofs.Rooms.{rooms_set}
use Rattle.compose_hub.proofs.Rounding.{each_step, reported_then}
use Rattle.compose_hub.specs.declared.client.Client.{Client}
use Rattle.compose_hub.proofs.Serving.{slot_turns, slot_closes, slot_goes_on, slot_fails, reports, not_reported_end}
use Rattle.compose_hub.proofs.server.Server.take_turns.Goals as goal

pub returns-in_err-tell-clause-happened : goal.returns-in_err-tell-clause-happened
returns-in_err-tell-clause-happened g c first s =
    let lt : c.slots.slot-index < length c.slots.slot-items = omega arith in
    let old = owned (g.A.Responder.state c.slots.service) c.slots.self.1.1.1.1.0.list in
    let mid = owned (g.A.Responder.state c.serve_slot-ended.new.service) c.serve_slot-ended.new.owners.list in
    let new = owned (g.A.Responder.state c.close_sessions.new.service) c.close_sessions.new.owners.list in
    slot_fails c.args.limits g.A.Responder.reading first old new (g.N.Streams.stream c.slots.sockets)
    (g.N.Streams.stream c.serve_slot-ended.new.sockets) (g.E.EndReport.reported c.slots.report) (g.E.EndReport.reported c.tell.new.report) c.args.self.now.accepted c.slots.slot-items (c.slots.invariant.goes_on first s)
    c.slots.slot-index c.serve_slot-ended.new.slot lt c.slot-item.result c.serve_slot-ended.result
    (slot_closes c.args.limits g.A.Responder.reading old mid new _ _ _ _ c.args.limits.own_sessions c.serve_slot-ended.result c.close_sessions.ensures
    (slot_turns c.args.limits _ _ _ _ _ _ _ _ _ c.serve_slot-ended.ensures.turns)) (not_reported_end _ _ _ _ _ _ c.in_err-tell.ensures)

pub slots-preserved : goal.slots-preserved
slots-preserved g c =
    let lt : c.slots.slot-index < length c.slots.slot-items = omega arith in
    let old = owned (g.A.Responder.state c.slots.service) c.slots.self.1.1.1.1.0.list in
    let mid = owned (g.A.Responder.state c.serve_slot-ended.new.service) c.serve_slot-ended.new.owners.list in
    let new = owned (g.A.Responder.state c.close_sessions.new.service) c.close_sessions.new.owners.list in
    let i = c.slots.slot-index in
    let slots = c.args.self.now.slots.items in
    let there : get_or c.slots.slot-items i None ≡ get_or slots i None = c.slots.invariant.ahead i (omega arith) in
    let before : get_or slots i None ≡ get_or c.slots.slot-items i c.slot-item.result = sym there ∙ get_or_default c.slots.slot-items i None c.slot-item.result lt in
    record {
      goes_on = λ first s. slot_goes_on c.args.limits g.A.Responder.reading first old new (g.N.Streams.stream c.slots.sockets)
          (g.N.Streams.stream c.serve_slot-ended.new.sockets) (g.E.EndReport.reported c.slots.report) (g.E.EndReport.reported c.tell.new.report) c.args.self.now.accepted c.slots.slot-items (c.slots.invariant.goes_on first s)
          c.slots.slot-index c.serve_slot-ended.new.slot lt c.slot-item.result c.serve_slot-ended.result
          (slot_closes c.args.limits g.A.Responder.reading old mid new _ _ _ _ c.args.limits.own_sessions c.serve_slot-ended.result c.close_sessions.ensures
          (slot_turns c.args.limits _ _ _ _ _ _ _ _ _ c.serve_slot-ended.ensures.turns)) (reports _ _ _ _ _ _ c.in_ok-tell.ensures);
      turns =
          each_step (TakesTurns c.args.limits g.A.Responder.reading c.args.self.now.time)
          (at_now (owned (g.A.Responder.state c.args.service.now) c.args.self.now.owners.list) (g.N.Streams.stream c.args.sockets.now) (g.E.EndReport.reported c.args.report.now))
          (at_now old (g.N.Streams.stream c.slots.sockets) (g.E.EndReport.reported c.slots.report)) (at_now new (g.N.Streams.stream c.serve_slot-ended.new.sockets) (g.E.EndReport.reported c.tell.new.report))
          slots c.slots.slot-items i (get_or c.slots.slot-items i c.slot-item.result) c.serve_slot-ended.new.slot (omega arith) lt before c.slots.invariant.turns (
            c.serve_slot-ended.result,
            c.serve_slot-ended.new.time,
            mid,
            (let was = c.slots.invariant.later in let now = c.serve_slot-ended.ensures.later in omega (arith, was, now)),
            c.serve_slot-ended.ensures.turns,
            c.close_sessions.ensures,
            reported_then _ _ _ _ _ _ c.in_ok-tell.ensures,
          );
      later = (let was = c.slots.invariant.later in let now = c.serve_slot-ended.ensures.later in omega (arith, was, now));
      ahead = λ key le. get_or-set_other c.slots.slot-items i key c.serve_slot-ended.new.slot None (λ same. absurd (omega (arith, same, le))) ∙ c.slots.invariant.ahead key (omega (arith, le));
      rooms = λ all. rooms_set c.slots.slot-items i c.serve_slot-ended.new.slot lt c.slot-item.result (c.slots.invariant.rooms all) c.serve_slot-ended.ensures.room;
      waits = c.serve_slot-ended.ensures.waits ∙ c.slots.invariant.waits;
    }

pub returns-in_err-tell-clause-rooms : goal.returns-in_err-tell-clause-rooms
returns-in_err-tell-clause-rooms g c all =
    let lt : c.slots.slot-index < length c.slots.slot-items = omega arith in
    let len : length c.slots.slot-items ≡ c.args.self.now.slots.len = omega arith in
    let now = set c.slots.slot-items c.slots.slot-index c.serve_slot-ended.new.slot in
    subst (λ (slots : List (Option Client)). AreWithinRooms slots) (sym (take_at now _ _ (length-set c.slots.slot-items c.slots.slot-index c.serve_slot-ended.new.slot ∙ len)))
    (rooms_set c.slots.slot-items c.slots.slot-index c.serve_slot-ended.new.slot lt c.slot-item.result (c.slots.invariant.rooms all) c.serve_slot-ended.ensures.room)

pub returns-clause-happened : goal.returns-clause-happened
returns-clause-happened g c first s = (c.slots.invariant.goes_on first s).so_far

pub returns-clause-goes_on : goal.returns-clause-goes_on
returns-clause-goes_on g c first s =
    let len : length c.slots.slot-items ≡ c.args.self.now.slots.len = omega arith in
    subst
    (λ (now : List (Option Client)). ServedSoFar c.args.limits g.A.Responder.reading first (at_now (owned (g.A.Responder.state c.slots.service) c.slots.self.1.1.1.1.0.list) (g.N.Streams.stream c.slots.sockets) (g.E.EndReport.reported c.slots.report)) c.args.self.now.accepted now)
    (sym (take_at _ _ _ len)) (c.slots.invariant.goes_on first s)

pub returns-clause-rooms : goal.returns-clause-rooms
returns-clause-rooms g c =
    let len : length c.slots.slot-items ≡ c.args.self.now.slots.len = omega arith in
    subst (λ (now : List (Option Client)). KeepsRooms c.args.self.now.slots.items now) (sym (take_at _ _ _ len)) c.slots.invariant.rooms

pub returns-clause-turns : goal.returns-clause-turns
returns-clause-turns g c =
    let len : length c.slots.slot-items ≡ c.args.self.now.slots.len = omega arith in
    let old = at_now (owned (g.A.Responder.state c.args.service.now) c.args.self.now.owners.list) (g.N.Streams.stream c.args.sockets.now) (g.E.EndReport.reported c.args.report.now) in
    let new = at_now (owned (g.A.Responder.state c.slots.service) c.slots.self.1.1.1.1.0.list) (g.N.Streams.stream c.slots.sockets) (g.E.EndReport.reported c.slots.report) in
    let step = TakesTurns c.args.limits g.A.Responder.reading c.args.self.now.time in
    subst (λ (now : List (Option Client)). EachSlot step old new c.args.self.now.slots.items now) (sym (take_at _ _ _ len))
    (subst (λ (now : List (Option Client)). EachSlot step old new c.args.self.now.slots.items now) (take_all c.slots.slot-index c.slots.slot-items (omega arith))
    (subst (λ (before : List (Option Client)). EachSlot step old new before (take c.slots.slot-index c.slots.slot-items)) (take_all c.slots.slot-index c.args.self.now.slots.items (omega arith)) c.slots.invariant.turns))
