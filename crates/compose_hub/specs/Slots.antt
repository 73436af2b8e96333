-- A client in its slot: what it waits for, and its room.
use Rattle.std.specs.Prelude.{◌≡◌, ⊤, ℕ, ◌+◌, ◌-◌, ◌*◌, Bool, true, false, ◌&&◌, ◌||◌, nat_le, nat_lt, if◌then◌else◌, List, [], ◌∷◌, length, Option, Some, None}
use Rattle.compose_many.specs.Connection.{max_piece}
use Rattle.compose_many.specs.declared.turn.Turn.{Turn as Follows}
use Rattle.compose_many.specs.declared.turn.Turn.TheVariants.{Ends}
use Rattle.compose_hub.specs.Ends.{max_held}
use Rattle.compose_hub.specs.declared.client.Client.{Client}
use Rattle.compose_hub.specs.declared.client.WaitsFor.{WaitsFor}
use Rattle.compose_hub.specs.declared.client.WaitsFor.TheVariants.{Turn, Stream, Room}

-- ---- one client

abbrev pub for_turn : WaitsFor → Bool
for_turn Turn = true
for_turn _ = false

abbrev pub for_stream : WaitsFor → Bool
for_stream Stream = true
for_stream _ = false

abbrev pub for_room : WaitsFor → Bool
for_room Room = true
for_room _ = false

-- a connection uses its room while it holds much of a load
abbrev pub uses_room : Client → Bool
uses_room c = c.has_room && nat_le max_held (length c.connection.held)

-- a connection's share: without room it holds fewer bytes than this
abbrev pub share : ℕ
share = max_held + max_piece

-- it has room, or holds no more than its share
abbrev pub is_fair : Client → Bool
is_fair c = c.has_room || nat_lt (length c.connection.held) share

-- it keeps its room, and unless it ends it stays fair if it was fair
abbrev pub KeepsShare : Follows → Client → Client → Type 0
KeepsShare (Ends end) before now = now.has_room ≡ before.has_room
KeepsShare _ before now = (now.has_room ≡ before.has_room) × (is_fair before ≡ true → is_fair now ≡ true)

-- a second and ten seconds, in nanoseconds
abbrev pub second : ℕ
second = 1000000000

abbrev pub patience : ℕ
patience = 10 * second

-- it uses its room, and nothing came for ten seconds
abbrev pub is_stalled : ℕ → Client → Bool
is_stalled time c = uses_room c && nat_le patience (time - c.since)

-- it has waited for its stream for as many seconds as a connection may be idle
abbrev pub is_idle : Option ℕ → ℕ → Client → Bool
is_idle None time c = false
is_idle (Some seconds) time c = for_stream c.waits_for && nat_le (seconds * second) (time - c.since)

-- the number of nanoseconds until it is idle, unless its stream is ready before
abbrev pub idle_in : Option ℕ → ℕ → Client → Option ℕ
idle_in None time c = None
idle_in (Some seconds) time c = if for_stream c.waits_for then Some (seconds * second - (time - c.since)) else None

-- what it waits for once its stream is ready
abbrev pub woken : WaitsFor → WaitsFor
woken Stream = Turn
woken other = other

-- ---- a slot

abbrev pub slot_has_room : Option Client → Bool
slot_has_room None = false
slot_has_room (Some c) = c.has_room

abbrev pub slot_is_fair : Option Client → Bool
slot_is_fair None = true
slot_is_fair (Some c) = is_fair c

abbrev pub slot_has_turn : Option Client → Bool
slot_has_turn None = false
slot_has_turn (Some c) = for_turn c.waits_for

abbrev pub slot_waits_for_room : Option Client → Bool
slot_waits_for_room None = false
slot_waits_for_room (Some c) = for_room c.waits_for

abbrev pub slot_uses_room : Option Client → Bool
slot_uses_room None = false
slot_uses_room (Some c) = uses_room c

-- the time since which the connection in a slot waits for room, if it does
abbrev pub waits_since : Option Client → Option ℕ
waits_since None = None
waits_since (Some c) = if for_room c.waits_for then Some c.since else None

-- the number of nanoseconds until the connection in a slot is idle, if it waits for its stream
abbrev pub slot_idle_in : Option ℕ → ℕ → Option Client → Option ℕ
slot_idle_in idle time None = None
slot_idle_in idle time (Some c) = idle_in idle time c

abbrev pub given_turn : Option Client → Option Client
given_turn None = None
given_turn (Some c) = Some (record c { waits_for = woken c.waits_for })

abbrev pub given_room : ℕ → Option Client → Option Client
given_room time None = None
given_room time (Some c) = Some (record c { waits_for = Turn; has_room = true; since = time })

-- what is left of its room once rooms that are not used were taken back
abbrev pub kept_room : Option Client → Option Client
kept_room None = None
kept_room (Some c) = Some (record c { has_room = uses_room c })
