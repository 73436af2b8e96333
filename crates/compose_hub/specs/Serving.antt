-- The connections in the slots of a server, and what happened on all connections since the first.
use Rattle.std.specs.Prelude.{◌≡◌, ◌≢◌, ◌⊎◌, ℕ, ◌+◌, ◌<◌, ◌≤◌, Bool, true, false, max, List, [], ◌∷◌, ◌++◌, map, get_or, Option, Some, None}
use Rattle.std.specs.List.{AllByRecursion}
use Rattle.compose_machine.specs.Machine.{ServiceState, Reading}
use Rattle.compose_machine.specs.Laws.{Exchange}
use Rattle.compose_many.specs.Connection.{ConnectionState, new_connection, Event, closes, exchanges, closings}
use Rattle.compose_many.specs.Owners.{owners_by, owners_of, ClosesOwn, ClosesAs as SessionsCloseAs, ClosedNone, ClosedAtEnd}
use Rattle.compose_many.specs.declared.owners.Owner.{Owner}
use Rattle.compose_many.specs.Service.{NumberedEvent}
use Rattle.compose_many.specs.Numbered.{StreamState, AllStreamed}
use Rattle.compose_many.specs.declared.turn.Turn.{Turn}
use Rattle.compose_many.specs.declared.turn.Turn.TheVariants.{Waits, NeedsRoom, Ends}
use Rattle.compose_hub.specs.Sockets.{AllStay, KeepsBytes, StaysFailed}
use Rattle.compose_hub.specs.Ends.{ReportedEnd, reported_more, HasEnded, times_reported}
use Rattle.compose_hub.specs.Turns.{OwnedService, max_turns, TurnsAs, AreTurns}
use Rattle.compose_hub.specs.Slots.{slot_has_turn}
use Rattle.compose_hub.specs.declared.client.Client.{Client}
use Rattle.compose_hub.specs.declared.client.Limits.{Limits}
use Rattle.compose_hub.specs.declared.client.WaitsFor.{WaitsFor}
use Rattle.compose_hub.specs.declared.client.WaitsFor.TheVariants.{Turn as ForTurn, Stream as ForStream, Room as ForRoom}
use Rattle.compose_hub.specs.declared.ends.ConnectionEnd.{ConnectionEnd}
use Rattle.compose_hub.specs.declared.ends.ConnectionEnd.TheVariants.{Served}

-- the service, the streams of all connections, and the ends that were reported
pub record World : Type 0 where
  pub service : ServiceState
  pub streams : ℕ → StreamState
  pub reported : Option (List ReportedEnd)

abbrev pub world : ServiceState → (ℕ → StreamState) → Option (List ReportedEnd) → World
world service streams reported = record { service = service; streams = streams; reported = reported }

-- each event is on a connection with one of the numbers from 1 to this one
abbrev pub AreNumberedTo : ℕ → List NumberedEvent → Type 0
AreNumberedTo last all = AllByRecursion (λ (e : NumberedEvent). (0 < e.connection) × (e.connection ≤ last)) all

-- everything that happened, in order, each event with the number of its connection. All connections
-- were new, and the service goes on by the exchanges of all of them. The bytes that were read from
-- a stream and written to it are those that came and were sent in the events of its own connection.
-- Each connection that was reported as ended has ended in that way, and its sessions with it if
-- they end with their connection. No session was closed for any other connection, except for one
-- whose end could not be reported
pub record ServesMany (limits : Limits) (reading : Reading) (first now : World) : Type 0 where
  pub all : List NumberedEvent
  pub after : ℕ → ConnectionState
  pub streamed : AllStreamed (max limits.unsent 1) reading first.service now.service (λ n. new_connection) after first.streams now.streams all
  pub numbered : AreNumberedTo limits.connections all
  pub ends : List ReportedEnd
  pub reported : now.reported ≡ reported_more first.reported ends
  pub ended : AllByRecursion (λ (e : ReportedEnd). HasEnded limits e.how (now.streams e.number) (after e.number)) ends
  pub closed : AllByRecursion (λ (e : ReportedEnd). ClosedAtEnd limits.own_sessions e.number all) ends
  pub others : (n : ℕ) → ClosedNone n all ⊎ ClosedAtEnd limits.own_sessions n all

-- each of the connections that were asked for was reported as ended, exactly once
abbrev pub EachIsReported : ℕ → List ReportedEnd → Type 0
EachIsReported connections ends = (n : ℕ) → 0 < n → n ≤ connections → times_reported n ends ≡ 1

-- everything that happened, when all connections that were asked for have ended
abbrev pub ServesAll : Limits → Reading → World → World → Type 0
ServesAll limits reading first now = (s : ServesMany limits reading first now) × EachIsReported limits.connections s.ends

-- ---- the slots

-- the connection in a slot has this number and this state
abbrev pub StandsAs : ℕ → ConnectionState → Option Client → Type 0
StandsAs number state slot = (c : Client) × (slot ≡ Some c) × (c.number ≡ number) × (c.connection ≡ state)

-- a client is on the same connection, whose state is as before
abbrev pub IsStill : Client → Client → Type 0
IsStill before now = (now.number ≡ before.number) × (now.connection ≡ before.connection)

-- a slot has a client if it had one, and the state of its connection is as before
abbrev pub SlotIsStill : Option Client → Option Client → Type 0
SlotIsStill None now = now ≡ None
SlotIsStill (Some c) now = (d : Client) × (now ≡ Some d) × IsStill c d

abbrev pub AllAreStill : List (Option Client) → List (Option Client) → Type 0
AllAreStill before now = (key : ℕ) → SlotIsStill (get_or before key None) (get_or now key None)

-- a slot once the next connection was accepted into it, if one could be; the numbers of accepted
-- connections, before and after
abbrev pub AcceptsAs : ℕ → ℕ → Option Client → Option Client → Type 0
AcceptsAs accepted accepted' before now = ((accepted' ≡ accepted) × (now ≡ before)) ⊎ ((accepted' ≡ accepted + 1) × StandsAs accepted' new_connection now)

-- the client in a slot waits for this since this time
abbrev pub WaitsSince : WaitsFor → ℕ → Option Client → Type 0
WaitsSince waits_for time slot = (c : Client) → slot ≡ Some c → (c.waits_for ≡ waits_for) × (c.since ≡ time)

-- up to this number of turns of a client are turns of its connection
abbrev pub ClientTurnsAs : ℕ → ℕ → Reading → Turn → OwnedService → OwnedService → (ℕ → StreamState) → (ℕ → StreamState) → Client → Client → Type 0
ClientTurnsAs most unsent reading turn old new streams streams' before now =
    TurnsAs most unsent reading turn old new before.number streams streams' before.connection now.connection × (now.number ≡ before.number)

-- the connection goes on; or it ended, its slot is empty and its end is the result
abbrev pub GoesOnOrEnds : Limits → Client → ConnectionState → StreamState → Option Client → Option (ℕ × ConnectionEnd) → Type 0
GoesOnOrEnds limits c after stream now None = StandsAs c.number after now
GoesOnOrEnds limits c after stream now (Some reported) = (now ≡ None) × (reported.0 ≡ c.number) × HasEnded limits reported.1 stream after

-- if the connection with this number ended and sessions end with it, a Close was answered for each
-- of its sessions after its last request; otherwise no session was closed without a request
abbrev pub ClosesLast : Option (ℕ × ConnectionEnd) → Bool → ℕ → List Owner → List Event → Type 0
ClosesLast (Some e) true number owners events =
    (before : List Event) × (h : List Exchange) × (events ≡ before ++ map closes h) × (closings before ≡ []) × ClosesOwn number (owners_by number owners (exchanges before)) h
ClosesLast (Some e) false number owners events = closings events ≡ []
ClosesLast None own number owners events = closings events ≡ []

-- a Close is answered for each session of a connection that ended, if sessions end with it;
-- otherwise nothing happens
abbrev pub ClosesAfter : Option (ℕ × ConnectionEnd) → Bool → Reading → OwnedService → OwnedService → Type 0
ClosesAfter (Some e) true reading old new = SessionsCloseAs e.0 old.owners new.owners reading old.service new.service
ClosesAfter (Some e) false reading old new = new ≡ old
ClosesAfter None own reading old new = new ≡ old

-- the client in a slot has had turns, which are events of its connection, or nothing happened. If
-- it ended, its end is the result, and its sessions are closed if they end with it
abbrev pub SlotGoesOn : Bool → Limits → Reading → OwnedService → OwnedService → (ℕ → StreamState) → (ℕ → StreamState) → Option Client → Option Client → Option (ℕ × ConnectionEnd) → Type 0
SlotGoesOn own limits reading old new streams streams' before now ended =
    ((new ≡ old) × AllStay streams streams' × (now ≡ before) × (ended ≡ None))
    ⊎ ((c : Client) × (before ≡ Some c) × (events : List Event) × (after : ConnectionState)
    × AreTurns limits.unsent reading old.service new.service c.number streams streams' c.connection after events × GoesOnOrEnds limits c after (streams' c.number) now ended
    × (new.owners ≡ owners_by c.number old.owners (exchanges events)) × ClosesLast ended own c.number old.owners events)

-- what a connection waits for after its turns
abbrev pub waits_after : Turn → WaitsFor
waits_after Waits = ForStream
waits_after NeedsRoom = ForRoom
waits_after _ = ForTurn

-- the slot of a connection after its turns: the connection goes on as they leave it, and waits from
-- this time on for what the last one demands; or it ended, and its end is the result
abbrev pub SlotFollows : Turn → ℕ → Client → ConnectionState → Option Client → Option (ℕ × ConnectionEnd) → Type 0
SlotFollows (Ends end) time c state now ended = (now ≡ None) × (ended ≡ Some (c.number, Served end))
SlotFollows turn time c state now ended = (ended ≡ None) × StandsAs c.number state now × WaitsSince (waits_after turn) time now

-- the stream of a connection is closed if the connection ended, and is then still marked as failed
-- if it was; otherwise all streams stay
abbrev pub ClosesAs : Turn → ℕ → (ℕ → StreamState) → (ℕ → StreamState) → Type 0
ClosesAs (Ends end) number streams streams' = KeepsBytes number streams streams' × StaysFailed (streams number) (streams' number)
ClosesAs _ number streams streams' = AllStay streams streams'

-- the client in a slot has had its turns, if its turn was next, and otherwise nothing happened;
-- this is the time then
abbrev pub SlotTurnsAs : ℕ → ℕ → Reading → OwnedService → OwnedService → (ℕ → StreamState) → (ℕ → StreamState) → Option Client → Option Client → Option (ℕ × ConnectionEnd) → Type 0
SlotTurnsAs unsent time reading old new streams streams' before now ended =
    ((new ≡ old) × AllStay streams streams' × (now ≡ before) × (ended ≡ None) × (slot_has_turn before ≡ false))
    ⊎ ((c : Client) × (before ≡ Some c) × (slot_has_turn before ≡ true) × (turn : Turn) × (state : ConnectionState) × (between : ℕ → StreamState)
    × TurnsAs max_turns unsent reading turn old new c.number streams between c.connection state × ClosesAs turn c.number between streams' × SlotFollows turn time c state now ended)

-- ---- everything so far

-- this client is in this slot
abbrev pub IsIn : List (Option Client) → ℕ → Client → Type 0
IsIn slots key c = get_or slots key None ≡ Some c

-- no slot has a client
abbrev pub HasNone : List (Option Client) → Type 0
HasNone slots = (key : ℕ) → get_or slots key None ≡ None

-- the connection with this number is served
abbrev pub IsServed : List (Option Client) → ℕ → Type 0
IsServed slots n = (key : ℕ) × (c : Client) × IsIn slots key c × (c.number ≡ n)

-- the service with the owners of its sessions, the streams of all connections, and the ends that
-- were reported
pub record Now : Type 0 where
  pub state : OwnedService
  pub streams : ℕ → StreamState
  pub reported : Option (List ReportedEnd)

abbrev pub at_now : OwnedService → (ℕ → StreamState) → Option (List ReportedEnd) → Now
at_now state streams reported = record { state = state; streams = streams; reported = reported }

abbrev pub world_now : Now → World
world_now now = world now.state.service now.streams now.reported

-- what happened since the first connection was accepted: each connection in a slot is as its events
-- left it; no two have the same number; this number was accepted; each of these is served, or was
-- reported as ended once; the sessions have their owners; and no session was closed for a
-- connection that was not reported as ended
pub record ServedSoFar (limits : Limits) (reading : Reading) (first : World) (now : Now) (accepted : ℕ) (slots : List (Option Client)) : Type 0 where
  pub so_far : ServesMany limits reading first (world_now now)
  pub within : accepted ≤ limits.connections
  pub few : (key : ℕ) (c : Client) → IsIn slots key c → (0 < c.number) × (c.number ≤ accepted)
  pub each : (key : ℕ) (c : Client) → IsIn slots key c → c.connection ≡ so_far.after c.number
  pub apart : (j k : ℕ) (b c : Client) → IsIn slots j b → IsIn slots k c → b.number ≡ c.number → j ≡ k
  pub later : (n : ℕ) → accepted < n → so_far.after n ≡ new_connection
  pub unreported : (n : ℕ) → accepted < n → times_reported n so_far.ends ≡ 0
  pub served : (n : ℕ) → IsServed slots n → times_reported n so_far.ends ≡ 0
  pub ended : (n : ℕ) → 0 < n → n ≤ accepted → IsServed slots n ⊎ (times_reported n so_far.ends ≡ 1)
  pub owners : now.state.owners ≡ owners_of so_far.all
  pub none_closed : (n : ℕ) → times_reported n so_far.ends ≡ 0 → ClosedNone n so_far.all

-- what was true of all that happened stays true when the connections go on this way
abbrev pub GoesOnServing : Limits → Reading → Now → Now → ℕ → ℕ → List (Option Client) → List (Option Client) → Type 0
GoesOnServing limits reading old new accepted accepted' slots slots' =
    (first : World) → ServedSoFar limits reading first old accepted slots → ServedSoFar limits reading first new accepted' slots'

-- everything that happened, whether or not its last end was reported
abbrev pub HasServed : Limits → Reading → Now → World → ℕ → List (Option Client) → Type 0
HasServed limits reading old new accepted slots = (first : World) → ServedSoFar limits reading first old accepted slots → ServesMany limits reading first new
