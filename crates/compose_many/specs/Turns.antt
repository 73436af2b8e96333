-- A turn of a connection on its stream.
use Rattle.std.specs.Prelude.{◌≡◌, ◌≢◌, ◌⊎◌, ℕ, ◌+◌, ◌<◌, ◌≤◌, max, List, [], length, Option, Some}
use Rattle.std.specs.Io.KnownBytes.{Consumes, Appends}
use Rattle.compose_wire.specs.Frames.{IsBegun}
use Rattle.compose_machine.specs.Machine.{ServiceState, Reading}
use Rattle.compose_machine.specs.Laws.{IsHistory}
use Rattle.compose_many.specs.Connection.{ConnectionState, Event, AllHappen, received, exchanges, closings, sent, loads, max_piece}
use Rattle.compose_many.specs.Ends.{IsQuiet, EndsAs}
use Rattle.compose_many.specs.Streams.{is_failed}
use Rattle.compose_many.specs.Owners.{owners_by}
use Rattle.compose_many.specs.declared.owners.Owner.{Owner}
use Rattle.compose_many.specs.declared.streams.TryError.{TryError}
use Rattle.compose_many.specs.declared.streams.TryError.TheVariants.{WouldBlock}
use Rattle.compose_many.specs.declared.turn.TurnLimits.{TurnLimits}
use Rattle.compose_many.specs.declared.turn.Turn.{Turn}
use Rattle.compose_many.specs.declared.turn.Turn.TheVariants.{GoesOn, Loaded, Waits, NeedsRoom, Ends}

-- the bytes that a turn reads and writes are those that come and are sent in these events, and the
-- service goes on by their exchanges
pub record IsTurn (limit : ℕ) (reading : Reading) (old new : ServiceState) (before after : ConnectionState) (left left' written written' : Option (List ℕ)) (events : List Event) : Type 0 where
  pub happen : AllHappen limit before events after
  pub run : IsHistory reading old (exchanges events) new
  pub read : Consumes left left' (received events)
  pub wrote : Appends written written' (sent events)

-- some bytes came or were sent, or something else is unsent now
abbrev pub Moves : ConnectionState → List Event → ConnectionState → Type 0
Moves before events after = (sent events ≢ []) ⊎ ((received events ≢ []) ⊎ (after.unsent ≢ before.unsent))

-- all that came is answered, except for a part of a frame, and all is sent
abbrev pub IsIdle : ConnectionState → Type 0
IsIdle now = IsBegun now.held × IsQuiet now

-- what follows a turn: unless it ends, the connection is as the events leave it. If it goes on,
-- there was something to do. If it waits, the writer takes nothing for now, or the reader has no
-- bytes and there is nothing else to do. If it needs room, the limit of held bytes is reached and
-- there is nothing else to do. Or it ends, in this way
abbrev pub FollowsAs : ℕ → Turn → ConnectionState → List Event → ConnectionState → ConnectionState → Option (List ℕ) → Option TryError → Option TryError → Type 0
FollowsAs most GoesOn before events after now left' read_mark write_mark = (now ≡ after) × Moves before events after
FollowsAs most Loaded before events after now left' read_mark write_mark = (now ≡ after) × Moves before events after
FollowsAs most Waits before events after now left' read_mark write_mark =
    (now ≡ after) × (((write_mark ≡ Some WouldBlock) × (now.unsent ≢ [])) ⊎ ((read_mark ≡ Some WouldBlock) × IsIdle now))
FollowsAs most NeedsRoom before events after now left' read_mark write_mark = (now ≡ after) × (most ≤ length now.held) × IsIdle now
FollowsAs most (Ends end) before events after now left' read_mark write_mark = EndsAs end left' (is_failed read_mark) (is_failed write_mark) after

-- the number of loads that a turn answers
abbrev pub loads_in : Turn → ℕ
loads_in Loaded = 1
loads_in _ = 0

-- a turn is short: at most one piece comes; one load is answered if the result is Loaded, and none
-- otherwise; and no session is closed without a request
pub record IsShort (turn : Turn) (events : List Event) : Type 0 where
  pub piece : length (received events) ≤ max_piece
  pub load : loads events ≡ loads_in turn
  pub none_closed : closings events ≡ []

-- a turn is a list of events of the connection with this number, where the limit 0 counts as 1. The
-- number of held bytes stays bounded if it was, and the sessions have the owners that follow from
-- these events
abbrev pub TurnAs : TurnLimits → Reading → Turn → ServiceState → ServiceState → ConnectionState → ConnectionState
    → Option (List ℕ) → Option (List ℕ) → Option (List ℕ) → Option (List ℕ) → Option TryError → Option TryError → ℕ → List Owner → List Owner → Type 0
TurnAs limits reading turn old new before now left left' written written' read_mark write_mark number owners owners' =
    (events : List Event) × (after : ConnectionState) × IsTurn (max limits.unsent 1) reading old new before after left left' written written' events
    × IsShort turn events × (length before.held < limits.held + max_piece → length after.held < limits.held + max_piece)
    × FollowsAs limits.held turn before events after now left' read_mark write_mark × (owners' ≡ owners_by number owners (exchanges events))
