-- A round of the service: what it waits for, who has room, and which connections it ends.
use Rattle.std.specs.Prelude.{◌≡◌, ℕ, ◌==◌, ◌+◌, ◌-◌, ◌^◌, ◌<◌, ◌≤◌, min, Bool, true, false, ◌&&◌, ◌||◌, nat_le, nat_lt, if◌then◌else◌, List, length, get_or, count_by, Option, Some, None}
use Rattle.std.specs.List.{list_any, list_all}
use Rattle.std.specs.Option.{is_none}
use Rattle.compose_many.specs.Numbered.{StreamState}
use Rattle.compose_hub.specs.Sockets.{AllStay, KeepsBytes}
use Rattle.compose_hub.specs.Slots.{slot_has_turn, slot_waits_for_room, slot_has_room, slot_uses_room, slot_is_fair, slot_idle_in, waits_since, is_stalled, is_idle, given_turn}
use Rattle.compose_hub.specs.declared.client.Client.{Client}
use Rattle.compose_hub.specs.declared.client.Limits.{Limits}
use Rattle.compose_hub.specs.declared.server.Queue.{Queue}
use Rattle.compose_hub.specs.declared.server.Queue.TheVariants.{Empty, Waits, Failed}
use Rattle.compose_hub.specs.declared.ends.ConnectionEnd.{ConnectionEnd}
use Rattle.compose_hub.specs.declared.ends.ConnectionEnd.TheVariants.{Stalled, Idle}
use Rattle.compose_hub.specs.declared.sockets.Ready.{Ready}
use Rattle.compose_hub.specs.declared.sockets.Ready.TheVariants.{Listener, Key}
use Rattle.compose_hub.specs.declared.sockets.AcceptedStream.{AcceptedStream}
use Rattle.compose_hub.specs.declared.sockets.AcceptedStream.TheVariants.{Connection, NoneWaits, GivenUp, Fails}

-- ---- the queue

-- what is known of the queue after an attempt: it is empty only if no connection waits
abbrev pub queue_after : AcceptedStream → Queue
queue_after Connection = Waits
queue_after GivenUp = Waits
queue_after NoneWaits = Empty
queue_after Fails = Failed

-- if none could be accepted, it is tried again
abbrev pub retried : Queue → Queue
retried Failed = Waits
retried queue = queue

-- ---- all slots

abbrev pub has_turns : List (Option Client) → Bool
has_turns slots = list_any slot_has_turn slots

abbrev pub waits_for_room : List (Option Client) → Bool
waits_for_room slots = list_any slot_waits_for_room slots

-- a further connection can be served: fewer were accepted than are asked for, and a slot is free
abbrev pub has_slot : Limits → ℕ → List (Option Client) → Bool
has_slot limits accepted slots = nat_lt accepted limits.connections && list_any is_none slots

-- all connections that are asked for have ended
abbrev pub is_done : Limits → ℕ → List (Option Client) → Bool
is_done limits accepted slots = nat_le limits.connections accepted && list_all is_none slots

abbrev pub is_waits : Queue → Bool
is_waits Waits = true
is_waits _ = false

abbrev pub is_failed_queue : Queue → Bool
is_failed_queue Failed = true
is_failed_queue _ = false

-- a further connection is accepted into a free slot: one may wait, and fewer were accepted than are
-- asked for
abbrev pub is_wanted : Queue → ℕ → Limits → Bool
is_wanted queue accepted limits = is_waits queue && nat_lt accepted limits.connections

-- the least so far, or this slot if it has a number and that is less: the slot, and its number
abbrev pub lesser : Option (ℕ × ℕ) → ℕ → Option ℕ → Option (ℕ × ℕ)
lesser least key None = least
lesser None key (Some n) = Some (key, n)
lesser (Some w) key (Some n) = if nat_lt n w.1 then Some (key, n) else Some w

-- this is the least number that one of the first slots has, with its slot; or none of them has a
-- number
abbrev pub LeastTo : (Option Client → Option ℕ) → List (Option Client) → ℕ → Option (ℕ × ℕ) → Type 0
LeastTo of slots count None = (j : ℕ) → j < count → of (get_or slots j None) ≡ None
LeastTo of slots count (Some w) = (w.0 < count) × (of (get_or slots w.0 None) ≡ Some w.1) × ((j n : ℕ) → j < count → of (get_or slots j None) ≡ Some n → w.1 ≤ n)

-- the connection in this slot has waited longest for room; or none waits
abbrev pub WaitsLongest : List (Option Client) → Option ℕ → Type 0
WaitsLongest slots None = LeastTo waits_since slots (length slots) None
WaitsLongest slots (Some k) = (since : ℕ) × LeastTo waits_since slots (length slots) (Some (k, since))

-- ---- time

-- the time in nanoseconds, once this much more has passed; it stays within 64 bits
abbrev pub later : ℕ → ℕ → ℕ
later time passed = min (time + passed) (2 ^ 64 - 1)

-- ---- how long it waits

-- the number of nanoseconds until the first connection is idle; or none waits for its stream
abbrev pub IsNextIdle : Option ℕ → ℕ → List (Option Client) → Option ℕ → Type 0
IsNextIdle idle time slots None = LeastTo (slot_idle_in idle time) slots (length slots) None
IsNextIdle idle time slots (Some n) = (k : ℕ) × LeastTo (slot_idle_in idle time) slots (length slots) (Some (k, n))

-- the shorter of two waits, where None is no limit
abbrev pub sooner : Option ℕ → Option ℕ → Option ℕ
sooner None wait = wait
sooner wait None = wait
sooner (Some m) (Some n) = Some (if nat_lt n m then n else m)

-- the maximum wait in nanoseconds, apart from connections that become idle: 0 if a connection has
-- its turn or one may be accepted into a slot; a second if none could be accepted, a connection
-- waits for room, or an end could not be reported; otherwise no limit
abbrev pub wait_for_work : Queue → Bool → Bool → Bool → Option ℕ
wait_for_work queue slot turns waits = if turns || (is_waits queue && slot) then Some 0 else if is_failed_queue queue || waits then Some 1000000000 else None

-- ---- who is ended

-- why a connection is ended, if it is: it is stalled while room is short, or it is idle
abbrev pub why_ended : Option ℕ → Bool → ℕ → Client → Option ConnectionEnd
why_ended idle short time c = if short && is_stalled time c then Some Stalled else if is_idle idle time c then Some Idle else None

-- the connection in a slot is ended if there is a cause, and otherwise nothing happened
abbrev pub SlotGivesUp : Option ℕ → Bool → ℕ → (ℕ → StreamState) → (ℕ → StreamState) → Option Client → Option Client → Option (ℕ × ConnectionEnd) → Type 0
SlotGivesUp idle short time streams streams' before now None = AllStay streams streams' × (now ≡ before) × ((c : Client) → before ≡ Some c → why_ended idle short time c ≡ None)
SlotGivesUp idle short time streams streams' before now (Some e) =
    (c : Client) × (before ≡ Some c) × (why_ended idle short time c ≡ Some e.1) × (now ≡ None) × (e.0 ≡ c.number) × KeepsBytes c.number streams streams'

-- ---- what is ready

abbrev pub is_listener : Ready → Bool
is_listener Listener = true
is_listener (Key key) = false

abbrev pub is_key : ℕ → Ready → Bool
is_key key Listener = false
is_key key (Key k) = k == key

-- if the listener is ready, connections may wait
abbrev pub queue_with : List Ready → Queue → Queue
queue_with ready queue = if list_any is_listener ready then Waits else queue

-- each client whose stream is ready has its next turn if it waits for its stream, and nothing else
-- changes
abbrev pub MarksReady : List Ready → List (Option Client) → List (Option Client) → Type 0
MarksReady ready before now = (key : ℕ) → get_or now key None ≡ (let slot = get_or before key None in if list_any (is_key key) ready then given_turn slot else slot)

-- ---- room

-- the maximum number of connections that have room for more than their share
abbrev pub max_rooms : ℕ
max_rooms = 8

-- room is short: a connection waits for room, and none is free
abbrev pub is_room_short : List (Option Client) → Bool
is_room_short slots = waits_for_room slots && nat_le max_rooms (count_by slot_uses_room slots)

-- at most eight connections have room, and each other one holds no more than its share
pub record AreWithinRooms (slots : List (Option Client)) : Type 0 where
  pub few : count_by slot_has_room slots ≤ max_rooms
  pub fair : (key : ℕ) → slot_is_fair (get_or slots key None) ≡ true

abbrev pub KeepsRooms : List (Option Client) → List (Option Client) → Type 0
KeepsRooms before now = AreWithinRooms before → AreWithinRooms now

-- a slot has room only if it had room before, and stays fair if it was fair
pub record KeepsRoom (before now : Option Client) : Type 0 where
  pub room : slot_has_room now ≡ true → slot_has_room before ≡ true
  pub fair : slot_is_fair before ≡ true → slot_is_fair now ≡ true
