-- What turns of a connection do to it, to its stream and to the service.
use Rattle.std.specs.Prelude.{◌≡◌, ◌≢◌, ◌⊎◌, ⊤, ℕ, ◌*◌, ◌≤◌, max, List, [], length, Some}
use Rattle.compose_machine.specs.Machine.{ServiceState, Reading}
use Rattle.compose_many.specs.Connection.{ConnectionState, Event, received, exchanges, closings, loads, max_piece}
use Rattle.compose_many.specs.Ends.{EndsAs}
use Rattle.compose_many.specs.Owners.{owners_by}
use Rattle.compose_many.specs.declared.owners.Owner.{Owner}
use Rattle.compose_many.specs.Streams.{is_failed}
use Rattle.compose_many.specs.Turns.{IsTurn, IsIdle, loads_in}
use Rattle.compose_many.specs.Numbered.{StreamState, OthersStay}
use Rattle.compose_many.specs.declared.streams.TryError.TheVariants.{WouldBlock}
use Rattle.compose_many.specs.declared.turn.Turn.{Turn}
use Rattle.compose_many.specs.declared.turn.Turn.TheVariants.{GoesOn, Loaded, Waits, NeedsRoom, Ends}
use Rattle.compose_hub.specs.Ends.{max_held}

-- the service, and the owners of its sessions
pub record OwnedService : Type 0 where
  pub service : ServiceState
  pub owners : List Owner

abbrev pub owned : ServiceState → List Owner → OwnedService
owned service owners = record { service = service; owners = owners }

-- the number of turns per connection before the next one's
abbrev pub max_turns : ℕ
max_turns = 4

-- the state of a connection after these events: as they leave it; unless it ends, and then they
-- leave it in a state that can end this way
abbrev pub LeavesAs : Turn → ConnectionState → ConnectionState → StreamState → Type 0
LeavesAs (Ends end) after now stream = EndsAs end stream.left (is_failed stream.read_mark) (is_failed stream.write_mark) after
LeavesAs _ after now stream = now ≡ after

-- the stream takes none of the unsent bytes for now, or has no bytes while there is nothing else to
-- do
abbrev pub IsWaiting : ConnectionState → StreamState → Type 0
IsWaiting now stream = ((stream.write_mark ≡ Some WouldBlock) × (now.unsent ≢ [])) ⊎ ((stream.read_mark ≡ Some WouldBlock) × IsIdle now)

-- a turn was taken: if the connection goes on, something happened on it; if it waits, its stream
-- makes it wait; and if it needs room, it holds as much as it may, and there is nothing else to do
abbrev pub WasHad : Turn → List Event → ConnectionState → StreamState → Type 0
WasHad GoesOn events after stream = events ≢ []
WasHad Loaded events after stream = events ≢ []
WasHad Waits events after stream = IsWaiting after stream
WasHad NeedsRoom events after stream = (max_held ≤ length after.held) × IsIdle after
WasHad (Ends end) events after stream = ⊤

-- the bytes that these events read from the stream with this number and write to it are those that
-- come and are sent in them; the service goes on by their exchanges; and no other stream changes
pub record AreTurns (unsent : ℕ) (reading : Reading) (old new : ServiceState) (number : ℕ) (streams streams' : ℕ → StreamState) (before after : ConnectionState) (events : List Event) : Type 0 where
  pub turn : IsTurn (max unsent 1) reading old new before after (streams number).left (streams' number).left (streams number).written (streams' number).written events
  pub others : OthersStay number streams streams'

-- up to this number of turns of a connection are events of it, in which a bounded number of bytes
-- comes. One load is answered if the result is Loaded, and none otherwise; the last turn was taken;
-- no session was closed without a request; and a session that was opened is owned by the connection
abbrev pub TurnsAs : ℕ → ℕ → Reading → Turn → OwnedService → OwnedService → ℕ → (ℕ → StreamState) → (ℕ → StreamState) → ConnectionState → ConnectionState → Type 0
TurnsAs most unsent reading turn old new number streams streams' before now =
    (events : List Event) × (after : ConnectionState) × AreTurns unsent reading old.service new.service number streams streams' before after events
    × (length (received events) ≤ most * max_piece) × (loads events ≡ loads_in turn) × LeavesAs turn after now (streams' number) × WasHad turn events after (streams' number)
    × (closings events ≡ []) × (new.owners ≡ owners_by number old.owners (exchanges events))
