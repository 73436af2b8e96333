-- The owners of the open sessions, and which sessions are closed when a connection ends (this
-- project's profile).
use Rattle.std.specs.Prelude.{◌≡◌, ◌⊎◌, ℕ, ◌==◌, Bool, true, false, not, if◌then◌else◌, List, [], ◌∷◌, ◌++◌, map, filter, fold, Option, Some, None, IsSome}
use Rattle.std.specs.Option.{option_or}
use Rattle.std.specs.List.{IsDistinct}
use Rattle.compose_wire.specs.Messages.{Body, open_session, close, ReplyBody, opened}
use Rattle.compose_wire.specs.declared.request.Body.{Body as ProgramBody}
use Rattle.compose_wire.specs.declared.request.Body.TheVariants.{Open, Close}
use Rattle.compose_wire.specs.declared.reply.ReplyBody.{ReplyBody as ProgramAnswer}
use Rattle.compose_wire.specs.declared.reply.ReplyBody.TheVariants.{Opened}
use Rattle.compose_machine.specs.Machine.{ServiceState, Reading, session_of}
use Rattle.compose_machine.specs.Laws.{Exchange, IsHistory}
use Rattle.compose_many.specs.Connection.{closes, exchange_of, exchanges, closings}
use Rattle.compose_many.specs.Service.{NumberedEvent, events_of, numbered}
use Rattle.compose_many.specs.declared.owners.Owner.{Owner}

-- ---- owners

-- the owners of the open sessions, in the order in which they were opened, and how many more there
-- is room for without taking memory
pub record OwnersState : Type 0 where
  pub list : List Owner
  pub room : ℕ

-- no session has two owners
abbrev pub EachOnce : List Owner → Type 0
EachOnce owners = IsDistinct (λ (o p : Owner). o.session == p.session) owners

-- the owners of all sessions but this one
abbrev pub without : ℕ → List Owner → List Owner
without n owners = filter (λ o. not (o.session == n)) owners

-- the owners of the sessions of all connections but this one
abbrev pub of_others : ℕ → List Owner → List Owner
of_others c owners = filter (λ o. not (o.connection == c)) owners

-- a session that is opened on the connection c is owned by c; the others stay in the order in which
-- they were opened
abbrev pub with_owner : ℕ → ℕ → List Owner → List Owner
with_owner n c owners = without n owners ++ record { session = n; connection = c } ∷ []

-- the owners after this answer to a request for the session n on the connection c: a session that
-- was opened is owned by c, and one for which a Close was answered has no owner, whoever opened it
abbrev pub owners_when : ℕ → ℕ → List Owner → Body → ReplyBody → List Owner
owners_when c n owners open_session opened = with_owner n c owners
owners_when c n owners close answer = without n owners
owners_when c n owners _ _ = owners

abbrev pub owners_after : ℕ → List Owner → Exchange → List Owner
owners_after c owners x = owners_when c x.request.session owners x.request.body x.reply.answer

-- the owners after these exchanges on the connection c
abbrev pub owners_by : ℕ → List Owner → List Exchange → List Owner
owners_by c owners h = fold (owners_after c) owners h

-- the owners after everything that happened, if no session had an owner before
abbrev pub owners_of : List NumberedEvent → List Owner
owners_of all = fold (λ owners (e : NumberedEvent). owners_by e.connection owners (exchange_of e.event)) [] all

-- the same for the program's values
abbrev pub owners_noted : ℕ → ℕ → List Owner → ProgramBody → ProgramAnswer → List Owner
owners_noted c n owners Open Opened = with_owner n c owners
owners_noted c n owners Close answer = without n owners
owners_noted c n owners _ _ = owners

-- ---- what is closed when a connection ends

-- the session of this connection that was opened last
abbrev pub last_own : ℕ → List Owner → Option ℕ
last_own c [] = None
last_own c (o ∷ owners) = option_or (last_own c owners) (if o.connection == c then Some o.session else None)

-- a Close is answered for the last session of the connection c, and so on, until it has none
abbrev pub ClosesOwn : ℕ → List Owner → List Exchange → Type 0
ClosesOwn c owners [] = last_own c owners ≡ None
ClosesOwn c owners (x ∷ h) = (last_own c owners ≡ Some x.request.session) × (x.request.body ≡ close) × ClosesOwn c (owners_after c owners x) h

-- a Close was answered for each session of the connection c, and nothing else happened
abbrev pub ClosesAs : ℕ → List Owner → List Owner → Reading → ServiceState → ServiceState → Type 0
ClosesAs c owners owners' reading old new = (h : List Exchange) × ClosesOwn c owners h × IsHistory reading old h new × (owners' ≡ owners_by c owners h)

-- the connection c ended, and then a Close was answered for each of its open sessions, the one that
-- was opened last first; no session was closed for it before, and nothing happened on it later
pub record EndedWithItsSessions (c : ℕ) (all : List NumberedEvent) : Type 0 where
  pub before : List NumberedEvent
  pub closed : List Exchange
  pub later : List NumberedEvent
  pub parts : all ≡ before ++ (numbered c (map closes closed) ++ later)
  pub none_before : closings (events_of c before) ≡ []
  pub each : ClosesOwn c (owners_of before) closed
  pub last : events_of c later ≡ []

-- no session was closed for the connection c
abbrev pub ClosedNone : ℕ → List NumberedEvent → Type 0
ClosedNone c all = closings (events_of c all) ≡ []

-- the sessions that were closed for a connection c that ended: with true, sessions end with their
-- connection, and with false, they do not
abbrev pub ClosedAtEnd : Bool → ℕ → List NumberedEvent → Type 0
ClosedAtEnd true c all = EndedWithItsSessions c all
ClosedAtEnd false c all = ClosedNone c all

-- ---- the laws

-- a connection that ended with its sessions owns none, whatever happened on others since
abbrev pub EndedOwnNone : Type 0
EndedOwnNone = (c : ℕ) (all : List NumberedEvent) → EndedWithItsSessions c all → last_own c (owners_of all) ≡ None

-- if each connection ended with its sessions, or nothing happened on it, no session is open but
-- those that were open before
abbrev pub NoSessionStays : Type 0
NoSessionStays = (reading : Reading) (first now : ServiceState) (all : List NumberedEvent) → IsHistory reading first (exchanges (map (λ (e : NumberedEvent). e.event) all)) now
    → ((c : ℕ) → EndedWithItsSessions c all ⊎ (events_of c all ≡ [])) → (n : ℕ) → IsSome (session_of now.sessions n) → IsSome (session_of first.sessions n)
