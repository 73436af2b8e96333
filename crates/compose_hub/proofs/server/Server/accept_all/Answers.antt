use Rattle.std.proofs.Common.{◌≡◌, ◌<◌, ◌≤◌, ◌+◌, ◌∙◌, ℕ, List, true, false, inl, inr, length, get_or, get_or-set_other, refl, sym, ap, subst, arith}
use Rattle.std.proofs.lemmas.Bool.{ltb-true}
use Rattle.std.proofs.lemmas.List.{get_or_default, set-get_or, take_at, take_all}
use Rattle.std.specs.Prelude.{◌&&◌, Option, Some, None, nat_lt}
use Rattle.std.specs.List.{list_any}
use Rattle.std.specs.Option.{is_none}
use Rattle.compose_hub.specs.Rounds.{is_waits, is_wanted, AreWithinRooms, KeepsRooms}
use Rattle.compose_hub.proofs.Rooms.{rooms_set}
use Rattle.compose_hub.proofs.Trying.{tried_now, tried_not, tried_all}
use Rattle.compose_hub.specs.Serving.{at_now, ServedSoFar}
use Rattle.compose_hub.specs.declared.client.Client.{Client}
use Rattle.compose_hub.specs.Loop.{AllKeepOrAccept}
use Rattle.compose_hub.proofs.Serving.{both_hold, keeps, slot_accepted}
use Rattle.compose_hub.proofs.Looping.{bytes_both, kept_or_new, slot_accepts}
use Rattle.compose_hub.proofs.server.Server.accept_all.Goals as goal

free_is : (o : Option Client) → is_none o ≡ true → o ≡ None
free_is None e = refl
free_is (Some c) e = absurd (cc)

pub slots-init : goal.slots-init
slots-init g c =
    let is : c.deref_mut-slot-items.result.now ≡ c.args.self.now.slots.items = c.deref_mut-slot-items.ensures.value in
    record {
      goes_on = λ reading state reported first s. subst (λ (now : List (Option Client)). ServedSoFar c.args.limits reading first (at_now state (g.N.Streams.stream c.args.sockets.now) reported) c.args.self.now.accepted now) (sym is) s;
      rooms = λ all. subst (λ (now : List (Option Client)). AreWithinRooms now) (sym is) all;
      bytes = λ n. (refl, refl);
      slots = λ key. inl (ap (λ (now : List (Option Client)). get_or now key None) is);
      ahead = λ key le. ap (λ (now : List (Option Client)). get_or now key None) is;
      tried = λ waits below. inr (record { attempts = refl; queue = c.retried-self.ensures; accepted = refl; none_free = refl });
    }

pub slots-preserved-then-not-is_wanted : goal.slots-preserved-then-not-is_wanted
slots-preserved-then-not-is_wanted g c =
    let lt : c.slots.key < length c.slots.slot-items = omega arith in
    let here : get_or c.slots.slot-items c.slots.key c.slot-item.result ≡ get_or c.args.self.now.slots.items c.slots.key None =
    get_or_default c.slots.slot-items c.slots.key c.slot-item.result None lt ∙ c.slots.invariant.ahead c.slots.key (omega arith)
    in
    let unwanted : (is_none (get_or c.args.self.now.slots.items c.slots.key None) && is_wanted c.slots.self.1.1.1.0 c.slots.self.1.1.0 c.args.limits) ≡ false =
    subst (λ (o : Option Client). (is_none o && is_wanted c.slots.self.1.1.1.0 c.slots.self.1.1.0 c.args.limits) ≡ false) here (sym c.is_wanted.ensures ∙ c.if-not-is_wanted.true)
    in
    let same = sym (set-get_or c.slots.slot-items c.slots.key c.slot-item.result) in
    record {
      goes_on = λ reading state reported first s. subst (λ (now : List (Option Client)). ServedSoFar c.args.limits reading first (at_now state (g.N.Streams.stream c.slots.sockets) reported) c.slots.self.1.1.0 now)
          same (c.slots.invariant.goes_on reading state reported first s);
      rooms = subst (λ (now : List (Option Client)). KeepsRooms c.args.self.now.slots.items now) same c.slots.invariant.rooms;
      bytes = c.slots.invariant.bytes;
      slots = subst (λ (now : List (Option Client)). AllKeepOrAccept c.args.self.now.time c.args.self.now.slots.items now) same c.slots.invariant.slots;
      ahead = subst (λ (now : List (Option Client)). (key : ℕ) → c.slots.key + 1 ≤ key → get_or now key None ≡ get_or c.args.self.now.slots.items key None) same
          (λ key le. c.slots.invariant.ahead key (omega (arith, le)));
      tried = λ waits below. tried_not c.args.limits _ _ _ _ _ _ c.slots.key c.args.self.now.slots.items waits below (omega arith) unwanted (c.slots.invariant.tried waits below);
    }

pub slots-preserved : goal.slots-preserved
slots-preserved g c =
    let lt : c.slots.key < length c.slots.slot-items = omega arith in
    let slot : Option Client = get_or c.slots.slot-items c.slots.key c.slot-item.result in
    let wanted = both_hold (is_none slot) (is_wanted c.slots.self.1.1.1.0 c.slots.self.1.1.0 c.args.limits) (sym c.is_wanted.ensures ∙ c.if-not-is_wanted.false) in
    let some = both_hold (is_waits c.slots.self.1.1.1.0) (nat_lt c.slots.self.1.1.0 c.args.limits.connections) wanted.1 in
    record {
      goes_on = λ reading state reported first s. slot_accepted c.args.limits reading first state (g.N.Streams.stream c.slots.sockets) (g.N.Streams.stream c.accept_into-self.new.sockets) reported c.slots.self.1.1.0
          c.accept_into-self.new.accepted c.slots.slot-items c.slots.key slot c.accept_into-self.new.slot lt (c.slots.invariant.goes_on reading state reported first s)
          (ltb-true c.slots.self.1.1.0 c.args.limits.connections some.1) (free_is slot wanted.0) (get_or_default c.slots.slot-items c.slots.key c.slot-item.result slot lt)
          c.accept_into-self.ensures.stay c.accept_into-self.ensures.accepts;
      rooms = λ all. rooms_set c.slots.slot-items c.slots.key c.accept_into-self.new.slot lt c.slot-item.result (c.slots.invariant.rooms all) c.accept_into-self.ensures.room;
      bytes = λ n. bytes_both (g.N.Streams.stream c.args.sockets.now) (g.N.Streams.stream c.slots.sockets) (g.N.Streams.stream c.accept_into-self.new.sockets) c.slots.invariant.bytes
          (keeps (c.slots.self.1.1.0 + 1) (g.N.Streams.stream c.slots.sockets) (g.N.Streams.stream c.accept_into-self.new.sockets) c.accept_into-self.ensures.stay) n;
      slots = slot_accepts c.args.self.now.time c.args.self.now.slots.items c.slots.slot-items c.slots.key c.accept_into-self.new.slot lt
          c.slots.invariant.slots (c.slots.invariant.ahead c.slots.key (omega arith))
          (kept_or_new c.args.self.now.time _ _ slot c.accept_into-self.new.slot (free_is slot wanted.0) c.accept_into-self.ensures.accepts c.accept_into-self.ensures.since)
          (sym (get_or_default c.slots.slot-items c.slots.key c.slot-item.result None lt));
      ahead = λ key le. get_or-set_other c.slots.slot-items c.slots.key key c.accept_into-self.new.slot None (λ same. absurd (omega (arith, same, le))) ∙ c.slots.invariant.ahead key (omega (arith, le));
      tried = λ waits below. tried_now _ _ _ _ _ _ _ _ _ c.slots.key _ _ c.accept_into-self.ensures.attempt (c.slots.invariant.tried waits below);
    }

pub returns-clause-goes_on : goal.returns-clause-goes_on
returns-clause-goes_on g c reading state reported first s =
    let len : length c.slots.slot-items ≡ c.args.self.now.slots.len = omega arith in
    subst (λ (now : List (Option Client)). ServedSoFar c.args.limits reading first (at_now state (g.N.Streams.stream c.slots.sockets) reported) c.slots.self.1.1.0 now)
    (sym (take_at _ _ _ len)) (c.slots.invariant.goes_on reading state reported first s)

pub returns-clause-rooms : goal.returns-clause-rooms
returns-clause-rooms g c =
    let len : length c.slots.slot-items ≡ c.args.self.now.slots.len = omega arith in
    subst (λ (now : List (Option Client)). KeepsRooms c.args.self.now.slots.items now) (sym (take_at _ _ _ len)) c.slots.invariant.rooms

pub returns-clause-tries : goal.returns-clause-tries
returns-clause-tries g c waits has =
    let slot = both_hold (nat_lt c.args.self.now.accepted c.args.limits.connections) (list_any is_none c.args.self.now.slots.items) has in
    tried_all _ _ _ _ _ _ c.slots.key c.args.self.now.slots.items (take_all c.slots.key c.args.self.now.slots.items (omega arith)) slot.1 (c.slots.invariant.tried waits slot.0)

pub returns-clause-slots : goal.returns-clause-slots
returns-clause-slots g c =
    let len : length c.slots.slot-items ≡ c.args.self.now.slots.len = omega arith in
    subst (λ (now : List (Option Client)). AllKeepOrAccept c.args.self.now.time c.args.self.now.slots.items now) (sym (take_at _ _ _ len)) c.slots.invariant.slots
