use Rattle.std.proofs.Common.{◌≡◌, ◌∙◌, ◌<◌, List, length, get_or, sym, ap, subst, arith}
use Rattle.std.proofs.lemmas.List.{get_or_default, take_at}
use Rattle.std.specs.Prelude.{Option, None, count_by}
use Rattle.compose_hub.specs.Slots.{kept_room, slot_has_room, slot_uses_room}
use Rattle.compose_hub.specs.Serving.{SlotIsStill, AllAreStill}
use Rattle.compose_hub.specs.Rounds.{AreWithinRooms, KeepsRooms}
use Rattle.compose_hub.specs.Round.{AllAreKept}
use Rattle.compose_hub.specs.declared.client.Client.{Client}
use Rattle.compose_hub.proofs.Slots.{still_more, still_at_first}
use Rattle.compose_hub.proofs.Rooms.{rooms_set, use_more, used_all, kept_more, kept_all}
use Rattle.compose_hub.proofs.server.Server.give_back_rooms.Goals as goal

pub slots-init : goal.slots-init
slots-init c =
    let is : c.deref_mut-slot-items.result.now ≡ c.args.self.now.slots.items = c.deref_mut-slot-items.ensures.value in
    record {
      still = subst (λ (now : List (Option Client)). AllAreStill c.args.self.now.slots.items now) (sym is) (still_at_first c.args.self.now.slots.items);
      rooms = λ all. subst (λ (now : List (Option Client)). AreWithinRooms now) (sym is) all;
      used = λ key below. absurd (omega (arith, below));
      kept = λ key. (λ below. absurd (omega (arith, below)), λ past. ap (λ (now : List (Option Client)). get_or now key None) is);
    }

pub slots-preserved : goal.slots-preserved
slots-preserved c =
    let slots = c.slots.slot-items in
    let i = c.slots.slot-index in
    let lt : i < length slots = omega arith in
    let now = c.give_back_room.new.slot in
    record {
      still =
          still_more c.args.self.now.slots.items slots i now lt c.slots.invariant.still
          (subst (λ (s : Option Client). SlotIsStill s now) (get_or_default slots i c.slot-item.result None lt) c.give_back_room.ensures.still);
      rooms = λ all. rooms_set slots i now lt c.slot-item.result (c.slots.invariant.rooms all) c.give_back_room.ensures.room;
      used = use_more slots i now lt c.give_back_room.ensures.used c.slots.invariant.used;
      kept = kept_more c.args.self.now.slots.items slots i now lt (c.give_back_room.ensures.kept ∙ ap kept_room (get_or_default slots i c.slot-item.result None lt)) c.slots.invariant.kept;
    }

pub returns-clause-still : goal.returns-clause-still
returns-clause-still c =
    let len : length c.slots.slot-items ≡ c.args.self.now.slots.len = omega arith in
    subst (λ (now : List (Option Client)). AllAreStill c.args.self.now.slots.items now) (sym (take_at _ _ _ len)) c.slots.invariant.still

pub returns-clause-rooms : goal.returns-clause-rooms
returns-clause-rooms c =
    let len : length c.slots.slot-items ≡ c.args.self.now.slots.len = omega arith in
    subst (λ (now : List (Option Client)). KeepsRooms c.args.self.now.slots.items now) (sym (take_at _ _ _ len)) c.slots.invariant.rooms

pub returns-clause-used : goal.returns-clause-used
returns-clause-used c =
    let len : length c.slots.slot-items ≡ c.args.self.now.slots.len = omega arith in
    subst (λ (now : List (Option Client)). count_by slot_has_room now ≡ count_by slot_uses_room now) (sym (take_at _ _ _ len)) (used_all c.slots.slot-items c.slots.slot-index (omega arith) c.slots.invariant.used)

pub returns-clause-kept : goal.returns-clause-kept
returns-clause-kept c =
    let len : length c.slots.slot-items ≡ c.args.self.now.slots.len = omega arith in
    subst (λ (now : List (Option Client)). AllAreKept c.args.self.now.slots.items now) (sym (take_at _ _ _ len))
    (kept_all c.args.self.now.slots.items c.slots.slot-items c.slots.slot-index (omega arith) c.slots.invariant.kept)
