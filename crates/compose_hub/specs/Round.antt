-- A round of the service after a wait: what it does, and that it does nothing else.
use Rattle.std.specs.Prelude.{◌≡◌, ◌⊎◌, ℕ, ◌+◌, ◌-◌, ◌≤◌, Bool, true, false, List, [], ◌∷◌, get_or, count_by, Option, None}
use Rattle.compose_machine.specs.Machine.{Reading}
use Rattle.compose_hub.specs.Ends.{reported_end}
use Rattle.compose_hub.specs.Turns.{OwnedService}
use Rattle.compose_hub.specs.Slots.{slot_waits_for_room, slot_uses_room, kept_room, given_room}
use Rattle.compose_hub.specs.Serving.{Now, SlotTurnsAs, ClosesAfter}
use Rattle.compose_hub.specs.Rounds.{later, waits_for_room, is_room_short, max_rooms, MarksReady, SlotGivesUp}
use Rattle.compose_hub.specs.declared.client.Client.{Client}
use Rattle.compose_hub.specs.declared.client.Limits.{Limits}
use Rattle.compose_hub.specs.declared.ends.ConnectionEnd.{ConnectionEnd}
use Rattle.compose_hub.specs.declared.sockets.Ready.{Ready}

-- each slot takes this step, one after another, and nothing else happens: neither to the service
-- and the owners of its sessions, nor to a stream, nor to the reported ends
abbrev pub EachSlot : (Now → Now → Option Client → Option Client → Type 0) → Now → Now → List (Option Client) → List (Option Client) → Type 0
EachSlot step old new [] [] = new ≡ old
EachSlot step old new (before ∷ slots) (now ∷ slots') = (mid : Now) × step old mid before now × EachSlot step mid new slots slots'
EachSlot step old new _ _ = ⊥

-- the connection in a slot has its turns if its turn is next, and otherwise nothing happens. If it
-- ended, that is reported, and its sessions are closed if they end with it. From now on it waits
-- since this time or a later one
abbrev pub TakesTurns : Limits → Reading → ℕ → Now → Now → Option Client → Option Client → Type 0
TakesTurns limits reading earliest old new before now =
    (ended : Option (ℕ × ConnectionEnd)) × (time : ℕ) × (turned : OwnedService) × (earliest ≤ time)
    × SlotTurnsAs limits.unsent time reading old.state turned old.streams new.streams before now ended
    × ClosesAfter ended limits.own_sessions reading turned new.state × (new.reported ≡ reported_end old.reported ended)

-- the connection in a slot is ended if there is a cause, and otherwise nothing happens. If it
-- ended, that is reported, and its sessions are closed if they end with it
abbrev pub GivesUp : Limits → Bool → ℕ → Reading → Now → Now → Option Client → Option Client → Type 0
GivesUp limits short time reading old new before now =
    (ended : Option (ℕ × ConnectionEnd)) × SlotGivesUp limits.idle short time old.streams new.streams before now ended
    × ClosesAfter ended limits.own_sessions reading old.state new.state × (new.reported ≡ reported_end old.reported ended)

-- rooms that are not used were taken back, and nothing else changed
abbrev pub AllAreKept : List (Option Client) → List (Option Client) → Type 0
AllAreKept before now = (key : ℕ) → get_or now key None ≡ kept_room (get_or before key None)

-- a slot keeps its room if it uses it; or it waited for room and was given some
abbrev pub KeepsOrIsGiven : ℕ → Option Client → Option Client → Type 0
KeepsOrIsGiven time before now = (now ≡ kept_room before) ⊎ ((slot_waits_for_room before ≡ true) × (now ≡ given_room time before))

-- each room that is not used is given to a connection that waits for one, as long as one waits
pub record SharesRoom (time : ℕ) (before now : List (Option Client)) : Type 0 where
  pub each : (key : ℕ) → KeepsOrIsGiven time (get_or before key None) (get_or now key None)
  pub given :
      (waits_for_room now ≡ false)
      ⊎ (count_by slot_waits_for_room now + (max_rooms - count_by slot_uses_room before) ≡ count_by slot_waits_for_room before)

-- a round after a wait that reported these sources as ready, and in which this much time passed; it
-- begins and ends with these slots, at these times. Nothing else happens in it
pub record IsRound (limits : Limits) (reading : Reading) (ready : List Ready) (passed : ℕ) (old new : Now) (time time' : ℕ) (slots slots' : List (Option Client)) : Type 0 where
  -- whoever was reported as ready and waited for its stream has its turn next,
  pub marked : List (Option Client)
  pub marks : MarksReady ready slots marked
  -- whoever's turn is next has its turns,
  pub mid : Now
  pub turned : List (Option Client)
  pub turns : EachSlot (TakesTurns limits reading (later time passed)) old mid marked turned
  -- whoever was idle for too long when the wait began, or holds up others, is ended,
  pub kept : List (Option Client)
  pub ends : EachSlot (GivesUp limits (is_room_short turned) time reading) mid new turned kept
  -- free rooms are given,
  pub shared : SharesRoom time' kept slots'
  -- and the time that passed is counted
  pub counted : later time passed ≤ time'
