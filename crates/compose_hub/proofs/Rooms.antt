-- Who has room.
use Rattle.std.proofs.Common.{◌≡◌, ◌≢◌, ℕ, zero, suc, ◌+◌, ◌<◌, ◌≤◌, List, [], ◌∷◌, Bool, true, false, cond, length, get_or, set, get_or-set_same, get_or-set_other, refl, sym, ◌∙◌, ap, subst, inl, inr, arith}
use Rattle.std.proofs.lemmas.List.{get_or_default, get_or_past}
use Rattle.std.proofs.lemmas.List.Sums.{sum_by-set, sum_by-cons}
use Rattle.std.specs.Prelude.{◌==◌, ◌⊎◌, ◌&&◌, ◌||◌, nat_lt, nat_le, Option, Some, None, count_by}
use Rattle.std.specs.List.{list_any}
use Rattle.std.proofs.lemmas.Bool.{ltb-true, ltb-false}
use Rattle.compose_hub.specs.declared.client.Client.{Client}
use Rattle.compose_hub.specs.Slots.{slot_has_room, slot_uses_room, slot_is_fair, slot_waits_for_room, waits_since, for_room, kept_room, given_room}
use Rattle.compose_hub.specs.Ends.{max_held}
use Rattle.compose_hub.specs.Round.{KeepsOrIsGiven, AllAreKept}
use Rattle.compose_hub.specs.Rounds.{AreWithinRooms, KeepsRooms, KeepsRoom, max_rooms, waits_for_room}
use Rattle.compose_hub.proofs.Slots.{same_or}

no_more : (b b' : Bool) → (b' ≡ true → b ≡ true) → cond b' 1 0 ≤ cond b 1 0
no_more true true h = omega arith
no_more true false h = omega arith
no_more false true h = let no = h refl in absurd (cc)
no_more false false h = omega arith

below_by : (j i : ℕ) (b : Bool) → nat_lt j i ≡ b → (j < i) ⊎ (i ≤ j)
below_by j i true e = inl (ltb-true j i e)
below_by j i false e = inr (ltb-false j i e)

below_or : (j i : ℕ) → (j < i) ⊎ (i ≤ j)
below_or j i = below_by j i (nat_lt j i) refl

one_at_most : (b : Bool) → cond b 1 0 ≤ 1
one_at_most true = omega arith
one_at_most false = omega arith

-- if two tests agree at each index, they count the same
pub count_same : (p q : Option Client → Bool) (slots : List (Option Client)) → ((key : ℕ) → p (get_or slots key None) ≡ q (get_or slots key None)) → count_by p slots ≡ count_by q slots
count_same p q [] h = refl
count_same p q (x ∷ slots) h =
    sum_by-cons (λ s. cond (p s) 1 0) x slots ∙ ap (λ (b : Bool). cond b 1 0 + count_by p slots) (h zero)
    ∙ ap (λ (n : ℕ). cond (q x) 1 0 + n) (count_same p q slots (λ key. h (suc key))) ∙ sym (sum_by-cons (λ s. cond (q s) 1 0) x slots)

module _ (slots : List (Option Client)) (key : ℕ) (x : Option Client) (lt : key < length slots) where
  set_room : count_by slot_has_room (set slots key x) + cond (slot_has_room (get_or slots key None)) 1 0 ≡ count_by slot_has_room slots + cond (slot_has_room x) 1 0
  set_room = sum_by-set (λ s. cond (slot_has_room s) 1 0) slots key x None lt

  fair_at : ((j : ℕ) → slot_is_fair (get_or slots j None) ≡ true) → slot_is_fair x ≡ true → (j : ℕ) → slot_is_fair (get_or (set slots key x) j None) ≡ true
  fair_at all one j = elim (same_or j key (j == key) refl) [
    | inl e ↦ ap slot_is_fair (ap (λ (n : ℕ). get_or (set slots key x) n None) e ∙ get_or-set_same slots key x None lt) ∙ one
    | inr ne ↦ ap slot_is_fair (get_or-set_other slots key j x None ne) ∙ all j
  ]

  -- writing a slot that keeps its room keeps the rooms
  pub rooms_set : (d : Option Client) → AreWithinRooms slots → KeepsRoom (get_or slots key d) x → AreWithinRooms (set slots key x)
  rooms_set d all one =
      let same : get_or slots key d ≡ get_or slots key None = get_or_default slots key d None lt in
      let kept : KeepsRoom (get_or slots key None) x = subst (λ (s : Option Client). KeepsRoom s x) same one in
      let set_to = set_room in
      let le = no_more (slot_has_room (get_or slots key None)) (slot_has_room x) kept.room in
      let few = all.few in
      record { few = omega arith; fair = fair_at all.fair (kept.fair (all.fair key)) }

  -- at most one more room is given
  pub rooms_more : (n : ℕ) → count_by slot_has_room slots ≤ n → count_by slot_has_room (set slots key x) ≤ n + 1
  rooms_more n few = let set_to = set_room in let le = one_at_most (slot_has_room x) in omega arith

  pub fair_set : ((j : ℕ) → slot_is_fair (get_or slots j None) ≡ true) → slot_is_fair x ≡ true → (j : ℕ) → slot_is_fair (get_or (set slots key x) j None) ≡ true
  fair_set all one = fair_at all one

counted_one : (b : Bool) (n : ℕ) → b ≡ true → n + cond b 1 0 ≡ n + 1
counted_one true n e = refl
counted_one false n e = absurd (cc)

counted_none : (b : Bool) (n : ℕ) → b ≡ false → n + cond b 1 0 ≡ n
counted_none true n e = absurd (cc)
counted_none false n e = omega arith

-- if a test agrees at each index of two lists of slots, it counts the same in both
count_by_at : (p : Option Client → Bool) (a b : List (Option Client)) → p None ≡ false → ((key : ℕ) → p (get_or a key None) ≡ p (get_or b key None)) → count_by p a ≡ count_by p b
count_by_at p [] [] none h = refl
count_by_at p [] (y ∷ b) none h =
    let rest = count_by_at p [] b none (λ key. h (suc key)) in
    let here : count_by p b + cond (p y) 1 0 ≡ count_by p b = counted_none (p y) (count_by p b) (sym (h zero) ∙ none) in
    let all : count_by p (y ∷ b) ≡ cond (p y) 1 0 + count_by p b = sum_by-cons (λ s. cond (p s) 1 0) y b in
    omega (arith, rest, here, all)
count_by_at p (x ∷ a) [] none h =
    let rest = count_by_at p a [] none (λ key. h (suc key)) in
    let here : count_by p a + cond (p x) 1 0 ≡ count_by p a = counted_none (p x) (count_by p a) (h zero ∙ none) in
    let all : count_by p (x ∷ a) ≡ cond (p x) 1 0 + count_by p a = sum_by-cons (λ s. cond (p s) 1 0) x a in
    omega (arith, rest, here, all)
count_by_at p (x ∷ a) (y ∷ b) none h =
    sum_by-cons (λ s. cond (p s) 1 0) x a ∙ ap (λ (c : Bool). cond c 1 0 + count_by p a) (h zero)
    ∙ ap (λ (n : ℕ). cond (p y) 1 0 + n) (count_by_at p a b none (λ key. h (suc key))) ∙ sym (sum_by-cons (λ s. cond (p s) 1 0) y b)

pub rooms_kept : (a b c : List (Option Client)) → KeepsRooms a b → KeepsRooms b c → KeepsRooms a c
rooms_kept a b c h k all = k (h all)

-- if no slot has a client, no room is given
pub no_rooms : (slots : List (Option Client)) → ((key : ℕ) → get_or slots key None ≡ None) → AreWithinRooms slots
no_rooms slots none = record {
  few = (let none_has = count_same slot_has_room (λ s. false) slots (λ key. ap slot_has_room (none key)) in let zero_of = count_none slots in omega arith);
  fair = λ key. ap slot_is_fair (none key);
}
  where
    count_none : (xs : List (Option Client)) → count_by (λ s. false) xs ≡ 0
    count_none [] = refl
    count_none (x ∷ xs) = sum_by-cons (λ s. cond false 1 0) x xs ∙ ap (λ (n : ℕ). 0 + n) (count_none xs)

-- the numbers of rooms, of eight, that are used and that were given since
pub record HasRooms (used given : ℕ) (slots : List (Option Client)) : Type 0 where
  pub within : used ≤ max_rooms
  pub few : count_by slot_has_room slots ≤ used + given
  pub fair : (key : ℕ) → slot_is_fair (get_or slots key None) ≡ true

-- one more room is given
pub room_given : (used given : ℕ) (slots : List (Option Client)) (key : ℕ) (x : Option Client) → key < length slots → slot_is_fair x ≡ true → HasRooms used given slots → HasRooms used (given + 1) (set slots key x)
room_given used given slots key x lt one h = record {
  within = h.within;
  few = (let few = rooms_more slots key x lt (used + given) h.few in omega arith);
  fair = fair_set slots key x lt h.fair one;
}

-- a client that was given room is fair
pub fair_given : (time : ℕ) (slot : Option Client) → slot_is_fair (given_room time slot) ≡ true
fair_given time None = refl
fair_given time (Some c) = refl

-- ---- rooms that are not used

-- the first slots have room if and only if they use it
abbrev pub UseRooms : ℕ → List (Option Client) → Type 0
UseRooms count slots = (key : ℕ) → key < count → slot_has_room (get_or slots key None) ≡ slot_uses_room (get_or slots key None)

pub use_more : (slots : List (Option Client)) (i : ℕ) (x : Option Client) → i < length slots → slot_has_room x ≡ slot_uses_room x → UseRooms i slots → UseRooms (i + 1) (set slots i x)
use_more slots i x lt one h key below = elim (same_or key i (key == i) refl) [
  | inl e ↦
      let at : get_or (set slots i x) key None ≡ x = ap (λ (n : ℕ). get_or (set slots i x) n None) e ∙ get_or-set_same slots i x None lt in
      ap slot_has_room at ∙ one ∙ sym (ap slot_uses_room at)
  | inr ne ↦
      let at : get_or (set slots i x) key None ≡ get_or slots key None = get_or-set_other slots i key x None ne in
      ap slot_has_room at ∙ h key (omega arith) ∙ sym (ap slot_uses_room at)
]

use_all : (slots : List (Option Client)) (i : ℕ) → length slots ≤ i → UseRooms i slots → (key : ℕ) → (key < i) ⊎ (i ≤ key) → slot_has_room (get_or slots key None) ≡ slot_uses_room (get_or slots key None)
use_all slots i le h key (inl below) = h key below
use_all slots i le h key (inr past) = let none : get_or slots key None ≡ None = get_or_past slots key None (omega (arith, le, past)) in ap slot_has_room none ∙ sym (ap slot_uses_room none)

-- if all slots have room only while they use it, as many have room as use it
pub used_all : (slots : List (Option Client)) (i : ℕ) → length slots ≤ i → UseRooms i slots → count_by slot_has_room slots ≡ count_by slot_uses_room slots
used_all slots i le h = count_same slot_has_room slot_uses_room slots (λ key. use_all slots i le h key (below_or key i))

-- ---- rooms that are kept, and rooms that are given

-- the first slots keep the rooms that they use, and the others are as before
abbrev pub KeptTo : ℕ → List (Option Client) → List (Option Client) → Type 0
KeptTo count before now = (key : ℕ) → (key < count → get_or now key None ≡ kept_room (get_or before key None)) × (count ≤ key → get_or now key None ≡ get_or before key None)

pub kept_more : (before slots : List (Option Client)) (i : ℕ) (x : Option Client) → i < length slots → x ≡ kept_room (get_or slots i None) → KeptTo i before slots → KeptTo (i + 1) before (set slots i x)
kept_more before slots i x lt one h key = elim (same_or key i (key == i) refl) [
  | inl e ↦
      let at : get_or (set slots i x) key None ≡ x = ap (λ (n : ℕ). get_or (set slots i x) n None) e ∙ get_or-set_same slots i x None lt in
      let was : get_or slots i None ≡ get_or before key None = ap (λ (n : ℕ). get_or slots n None) (sym e) ∙ (h key).1 (omega (arith, e)) in
      (λ below. at ∙ one ∙ ap kept_room was, λ past. absurd (omega (arith, e, past)))
  | inr ne ↦
      let at : get_or (set slots i x) key None ≡ get_or slots key None = get_or-set_other slots i key x None ne in
      (λ below. at ∙ (h key).0 (omega (arith, ne, below)), λ past. at ∙ (h key).1 (omega (arith, past)))
]

all_kept : (before now : List (Option Client)) (i : ℕ) → length now ≤ i → KeptTo i before now → (key : ℕ) → (key < i) ⊎ (i ≤ key) → get_or now key None ≡ kept_room (get_or before key None)
all_kept before now i le h key (inl below) = (h key).0 below
all_kept before now i le h key (inr past) =
    let none : get_or now key None ≡ None = get_or_past now key None (omega (arith, le, past)) in
    none ∙ ap kept_room (sym none ∙ (h key).1 past)

pub kept_all : (before now : List (Option Client)) (i : ℕ) → length now ≤ i → KeptTo i before now → AllAreKept before now
kept_all before now i le h key = all_kept before now i le h key (below_or key i)

waits_kept : (slot : Option Client) → slot_waits_for_room (kept_room slot) ≡ slot_waits_for_room slot
waits_kept None = refl
waits_kept (Some c) = refl

both_same : (a b : Bool) → ((a && b) && b) ≡ (a && b)
both_same true true = refl
both_same true false = refl
both_same false b = refl

uses_kept : (slot : Option Client) → slot_uses_room (kept_room slot) ≡ slot_uses_room slot
uses_kept None = refl
uses_kept (Some c) = both_same c.has_room (nat_le max_held (length c.connection.held))

given_kept : (time : ℕ) (slot : Option Client) → given_room time (kept_room slot) ≡ given_room time slot
given_kept time None = refl
given_kept time (Some c) = refl

given_again : (time : ℕ) (slot : Option Client) → given_room time (given_room time slot) ≡ given_room time slot
given_again time None = refl
given_again time (Some c) = refl

waits_none : (time : ℕ) (slot : Option Client) → slot_waits_for_room (given_room time slot) ≡ false
waits_none time None = refl
waits_none time (Some c) = refl

-- as many use their rooms, and as many wait for one, once rooms that are not used were taken back
pub uses_same : (before now : List (Option Client)) → AllAreKept before now → count_by slot_uses_room now ≡ count_by slot_uses_room before
uses_same before now h = count_by_at slot_uses_room now before refl (λ key. ap slot_uses_room (h key) ∙ uses_kept (get_or before key None))

pub waits_same : (before now : List (Option Client)) → AllAreKept before now → count_by slot_waits_for_room now ≡ count_by slot_waits_for_room before
waits_same before now h = count_by_at slot_waits_for_room now before refl (λ key. ap slot_waits_for_room (h key) ∙ waits_kept (get_or before key None))

waits_by : (b : Bool) (since n : ℕ) → cond b (Some since) None ≡ Some n → b ≡ true
waits_by true since n e = refl
waits_by false since n e = absurd (cc)

-- who has a time since which it waits for room waits for room
pub does_wait : (slot : Option Client) (n : ℕ) → waits_since slot ≡ Some n → slot_waits_for_room slot ≡ true
does_wait None n e = absurd (cc)
does_wait (Some c) n e = waits_by (for_room c.waits_for) c.since n e

waits_not_by : (b : Bool) (since : ℕ) → cond b (Some since) None ≡ None → b ≡ false
waits_not_by true since e = absurd (cc)
waits_not_by false since e = refl

does_not_wait : (slot : Option Client) → waits_since slot ≡ None → slot_waits_for_room slot ≡ false
does_not_wait None e = refl
does_not_wait (Some c) e = waits_not_by (for_room c.waits_for) c.since e

pub none_waits : (slots : List (Option Client)) → ((j : ℕ) → j < length slots → waits_since (get_or slots j None) ≡ None) → waits_for_room slots ≡ false
none_waits [] h = refl
none_waits (x ∷ slots) h =
    ap (λ (b : Bool). b || list_any slot_waits_for_room slots) (does_not_wait x (h zero (omega arith)))
    ∙ none_waits slots (λ j lt. h (suc j) (omega (arith, lt)))

module _ (time : ℕ) (slots : List (Option Client)) (key : ℕ) (lt : key < length slots) (waits : slot_waits_for_room (get_or slots key None) ≡ true) where
  abbrev next : List (Option Client)
  next = set slots key (given_room time (get_or slots key None))

  -- one connection fewer waits for room
  pub one_fewer : count_by slot_waits_for_room next + 1 ≡ count_by slot_waits_for_room slots
  one_fewer =
      let slot = get_or slots key None in
      let set_to : count_by slot_waits_for_room next + cond (slot_waits_for_room slot) 1 0 ≡ count_by slot_waits_for_room slots + cond (slot_waits_for_room (given_room time slot)) 1 0 =
      sum_by-set (λ s. cond (slot_waits_for_room s) 1 0) slots key (given_room time slot) None lt
      in
      sym (counted_one (slot_waits_for_room slot) (count_by slot_waits_for_room next) waits) ∙ set_to ∙ counted_none (slot_waits_for_room (given_room time slot)) (count_by slot_waits_for_room slots) (waits_none time slot)

  given_here : (b s : Option Client) → s ≡ get_or slots key None → KeepsOrIsGiven time b s → KeepsOrIsGiven time b (given_room time s)
  given_here b s at (inl kept) =
      inr (sym (waits_kept b) ∙ ap slot_waits_for_room (sym kept) ∙ ap slot_waits_for_room at ∙ waits, ap (given_room time) kept ∙ given_kept time b)
  given_here b s at (inr given) = inr (given.0, ap (given_room time) given.1 ∙ given_again time b)

  -- and each slot keeps its room, or was given some
  pub given_more : (before : List (Option Client)) → ((j : ℕ) → KeepsOrIsGiven time (get_or before j None) (get_or slots j None)) → (j : ℕ) → KeepsOrIsGiven time (get_or before j None) (get_or next j None)
  given_more before all j = elim (same_or j key (j == key) refl) [
    | inl e ↦
        subst (λ (n : ℕ). KeepsOrIsGiven time (get_or before n None) (get_or next n None)) (sym e)
        (subst (λ (s : Option Client). KeepsOrIsGiven time (get_or before key None) s) (sym (get_or-set_same slots key (given_room time (get_or slots key None)) None lt))
        (given_here (get_or before key None) (get_or slots key None) refl (all key)))
    | inr ne ↦
        subst (λ (s : Option Client). KeepsOrIsGiven time (get_or before j None) s) (sym (get_or-set_other slots key j (given_room time (get_or slots key None)) None ne)) (all j)
  ]
