use Rattle.std.proofs.Common.{◌≡◌, ℕ, ◌+◌, ◌<◌, ◌∙◌, length, List, get_or, set, sym, ap, subst, inl, inr, arith, rules}
use Rattle.std.specs.Prelude.{Option, Some, None, count_by}
use Rattle.compose_hub.specs.Slots.{given_room, waits_since, slot_waits_for_room, slot_uses_room}
use Rattle.compose_hub.specs.Rounds.{LeastTo}
use Rattle.compose_hub.specs.Round.{KeepsOrIsGiven}
use Rattle.compose_hub.specs.declared.client.Client.{Client}
use Rattle.compose_hub.proofs.Slots.{all_still_then}
use Rattle.compose_hub.proofs.Rooms.{HasRooms, room_given, fair_given, uses_same, waits_same, does_wait, none_waits, one_fewer, given_more}
use Rattle.compose_hub.proofs.server.Server.share_room.Goals as goal

pub rooms-preserved : goal.rooms-preserved
rooms-preserved c =
    let slots = c.rooms.self.slots.items in
    let now = given_room c.rooms.self.time (get_or slots c.in-Some.key None) in
    let lt : c.in-Some.key < length slots = search rules in
    let longest = c.in-Some.ensures in
    let same : c.deref-in-rooms.result.now ≡ slots = c.deref-in-rooms.ensures.value in
    let at : waits_since (get_or slots c.in-Some.key None) ≡ Some longest.0 = subst (λ (s : List (Option Client)). waits_since (get_or s c.in-Some.key None) ≡ Some longest.0) same longest.1.1 in
    let waits = does_wait (get_or slots c.in-Some.key None) longest.0 at in
    let time = c.rooms.invariant.time in
    record {
      accepted = c.give_room_at.ensures.still.0 ∙ c.rooms.invariant.accepted;
      owners = c.give_room_at.ensures.owners ∙ c.rooms.invariant.owners;
      time = c.give_room_at.ensures.time.0 ∙ time;
      queue = c.give_room_at.ensures.time.1 ∙ c.rooms.invariant.queue;
      still = all_still_then _ slots c.give_room_at.new.self.slots.items c.rooms.invariant.still c.give_room_at.ensures.still.1;
      rooms = λ all. subst (λ (s : List (Option Client)). HasRooms c.rooms_used-used.result (c.rooms.counter + 1) s) (sym c.give_room_at.ensures.given)
          (room_given c.rooms_used-used.result c.rooms.counter slots c.in-Some.key now lt (fair_given c.rooms.self.time (get_or slots c.in-Some.key None)) (c.rooms.invariant.rooms all));
      each =
          subst (λ (s : List (Option Client)). (key : ℕ) → KeepsOrIsGiven c.args.self.now.time (get_or c.args.self.now.slots.items key None) (get_or s key None)) (sym c.give_room_at.ensures.given)
          (subst (λ (t : ℕ). (key : ℕ) → KeepsOrIsGiven t (get_or c.args.self.now.slots.items key None) (get_or (set slots c.in-Some.key now) key None)) time
          (given_more c.rooms.self.time slots c.in-Some.key lt waits c.args.self.now.slots.items
          (subst (λ (t : ℕ). (key : ℕ) → KeepsOrIsGiven t (get_or c.args.self.now.slots.items key None) (get_or slots key None)) (sym time) c.rooms.invariant.each)));
      fewer =
          (let one = one_fewer c.rooms.self.time slots c.in-Some.key lt waits in
          let is = ap (λ (s : List (Option Client)). count_by slot_waits_for_room s) c.give_room_at.ensures.given in
          let all = c.rooms.invariant.fewer in omega (arith, one, is, all));
    }

pub rooms-init : goal.rooms-init
rooms-init c =
    let slots = c.give_back_rooms.new.self.slots.items in
    let used : c.rooms_used-used.result ≡ count_by slot_uses_room slots = c.rooms_used-used.ensures ∙ ap (λ (s : List (Option Client)). count_by slot_uses_room s) c.deref.ensures.value in
    let has = c.give_back_rooms.ensures.used in
    let waits = waits_same c.args.self.now.slots.items slots c.give_back_rooms.ensures.kept in
    record {
      accepted = c.give_back_rooms.ensures.accepted;
      owners = c.give_back_rooms.ensures.owners;
      time = c.give_back_rooms.ensures.time.0;
      queue = c.give_back_rooms.ensures.time.1;
      still = c.give_back_rooms.ensures.still;
      rooms = λ all. let within = c.give_back_rooms.ensures.rooms all in let few = within.few in record { within = omega (arith, used, has, few); few = omega (arith, used, has); fair = within.fair };
      each = λ key. inl (c.give_back_rooms.ensures.kept key);
      fewer = omega (arith, waits);
    }

pub returns-in-None-clause-shared : goal.returns-in-None-clause-shared
returns-in-None-clause-shared c =
    let slots = c.rooms.self.slots.items in
    let same : c.deref-in-rooms.result.now ≡ slots = c.deref-in-rooms.ensures.value in
    record {
      each = c.rooms.invariant.each;
      given = inl (none_waits slots (subst (λ (s : List (Option Client)). LeastTo waits_since s (length s) None) same c.in-None.ensures));
    }

pub returns-clause-shared : goal.returns-clause-shared
returns-clause-shared c =
    let slots = c.give_back_rooms.new.self.slots.items in
    let uses = uses_same c.args.self.now.slots.items slots c.give_back_rooms.ensures.kept in
    let used : c.rooms_used-used.result ≡ count_by slot_uses_room slots = c.rooms_used-used.ensures ∙ ap (λ (s : List (Option Client)). count_by slot_uses_room s) c.deref.ensures.value in
    let fewer = c.rooms.invariant.fewer in
    record { each = c.rooms.invariant.each; given = inr (omega (arith, uses, used, fewer)) }
