-- Many connections to one service.
use Rattle.std.specs.Prelude.{◌≡◌, ℕ, ◌==◌, false, List, ◌++◌, map, filter}
use Rattle.compose_machine.specs.Machine.{ServiceState, Reading}
use Rattle.compose_machine.specs.Laws.{IsHistory}
use Rattle.compose_many.specs.Connection.{ConnectionState, new_connection, Event, AllHappen, exchanges, HasItsOwn}

-- an event, and the number of the connection on which it happens
pub record NumberedEvent : Type 0 where
  pub connection : ℕ
  pub event : Event

-- the events on the connection c
abbrev pub events_of : ℕ → List NumberedEvent → List Event
events_of c all = map (λ e. e.event) (filter (λ e. e.connection == c) all)

-- the events of one connection among those of all
abbrev pub numbered : ℕ → List Event → List NumberedEvent
numbered c events = map (λ e. record { connection = c; event = e }) events

-- these events happen in this order: the service goes on by the exchanges of all connections, and
-- each connection by its own events
pub record AllServed (limit : ℕ) (reading : Reading) (old new : ServiceState) (before after : ℕ → ConnectionState) (all : List NumberedEvent) : Type 0 where
  pub run : IsHistory reading old (exchanges (map (λ e. e.event) all)) new
  pub each : (c : ℕ) → AllHappen limit (before c) (events_of c all) (after c)

-- ---- the laws

-- a connection that was new gets the replies to its own requests alone, whatever happens on others
abbrev pub EachHasItsOwn : Type 0
EachHasItsOwn =
    (limit : ℕ) (reading : Reading) (old new : ServiceState) (before after : ℕ → ConnectionState) (all : List NumberedEvent) (c : ℕ) → before c ≡ new_connection
    → AllServed limit reading old new before after all → HasItsOwn limit (events_of c all) (after c)

-- events of one connection, by which the service goes on while no other connection changes, are
-- events of the service
abbrev pub TurnsAreServed : Type 0
TurnsAreServed =
    (limit : ℕ) (reading : Reading) (old new : ServiceState) (before after : ℕ → ConnectionState) (events : List Event) (c : ℕ) → AllHappen limit (before c) events (after c)
    → IsHistory reading old (exchanges events) new → ((d : ℕ) → c == d ≡ false → after d ≡ before d) → AllServed limit reading old new before after (numbered c events)

-- what happens on many connections can be joined, one part after the other
abbrev pub ServedOneAfterAnother : Type 0
ServedOneAfterAnother =
    (limit : ℕ) (reading : Reading) (old mid new : ServiceState) (before between after : ℕ → ConnectionState) (first second : List NumberedEvent) → AllServed limit reading old mid before between first
    → AllServed limit reading mid new between after second → AllServed limit reading old new before after (first ++ second)
