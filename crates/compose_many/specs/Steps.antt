-- The parts of a turn: answering what is held, sending what is unsent, and reading a piece.
use Rattle.std.specs.Prelude.{◌≡◌, ◌≢◌, ℕ, ◌+◌, ◌<◌, ◌≤◌, Bool, true, false, List, [], ◌∷◌, ◌++◌, length, Option, Some, None, Result, Ok, Err, IsSome, ⊤, ◌⊎◌}
use Rattle.std.specs.Io.KnownBytes.{IsAtEnd}
use Rattle.compose_wire.specs.Messages.{Fits}
use Rattle.compose_wire.specs.Requests.{request_of}
use Rattle.compose_wire.specs.declared.request.Request.{Request}
use Rattle.compose_wire.specs.Frames.{frame, fault_at, BeginsWithFrame, IsBegun}
use Rattle.compose_machine.specs.Machine.{ServiceState, Reading}
use Rattle.compose_machine.specs.Laws.{Exchange, IsHistory, is_load}
use Rattle.compose_serve.specs.Ends.{max_frames}
use Rattle.compose_serve.specs.declared.ends.StreamEnd.{StreamEnd}
use Rattle.compose_serve.specs.declared.ends.StreamEnd.TheVariants.{InputEnd}
use Rattle.compose_serve.specs.declared.ends.ServeFault.{ServeFault}
use Rattle.compose_serve.specs.declared.ends.ServeFault.TheVariants.{Read, Write, Cut, NoMemory as EndsNoMemory}
use Rattle.compose_many.specs.Connection.{ConnectionState, Event, Answers, AllHappen, Refuses, received, exchanges, closings, sent, loads, max_reply, max_piece}
use Rattle.compose_many.specs.Ends.{IsQuiet}
use Rattle.compose_many.specs.Owners.{owners_after, owners_by}
use Rattle.compose_many.specs.declared.owners.Owner.{Owner}
use Rattle.compose_many.specs.declared.connection.Stop.{Stop}
use Rattle.compose_many.specs.declared.connection.Stop.TheVariants.{Loaded, NeedsBytes, Full, Refused, NoMemory, TooManyFrames}
use Rattle.compose_many.specs.declared.streams.TryError.{TryError}
use Rattle.compose_many.specs.declared.streams.TryError.TheVariants.{WouldBlock, Failed}
use Rattle.compose_many.specs.declared.turn.Turn.{Turn}
use Rattle.compose_many.specs.declared.turn.Turn.TheVariants.{GoesOn, Loaded as LoadedThen, Waits, NeedsRoom, Ends}

-- the request that was taken from the held bytes, or why there is none
abbrev pub IsNextRequest : Result Request Stop → List ℕ → List ℕ → Type 0
IsNextRequest (Ok q) held held' = Fits (request_of q) × (held ≡ frame (request_of q) ++ held')
IsNextRequest (Err NeedsBytes) held held' = IsBegun held × (held' ≡ held)
IsNextRequest (Err Refused) held held' = IsSome (fault_at held) × (held' ≡ held)
IsNextRequest (Err NoMemory) held held' = (held ≢ []) × (held' ≡ held)
IsNextRequest (Err _) held held' = ⊥

-- there is room for a reply after the unsent bytes, if one is due
abbrev pub HasRoom : Result Request Stop → ℕ → ℕ → Type 0
HasRoom (Ok q) len capacity = len + max_reply ≤ capacity
HasRoom (Err Refused) len capacity = len + max_reply ≤ capacity
HasRoom (Err _) len capacity = ⊤

-- there is room for the owner of one more session, if a request is answered
abbrev pub HasSpace : Result Request Stop → ℕ → Type 0
HasSpace (Ok q) room = 1 ≤ room
HasSpace (Err _) room = ⊤

-- the state of a connection when no further request is answered, by the reason for that
abbrev pub StopsAs : ℕ → Stop → ConnectionState → Type 0
StopsAs limit Loaded now = now.unsent ≢ []
StopsAs limit NeedsBytes now = IsBegun now.held × (now.refused ≡ false)
StopsAs limit Full now = (limit ≤ length now.unsent) ⊎ (now.unsent ≢ [])
StopsAs limit Refused now = (now.refused ≡ true) × (now.unsent ≢ [])
StopsAs limit NoMemory now = (now.held ≢ []) × (now.refused ≡ false)
StopsAs limit TooManyFrames now = (max_frames ≤ now.answered) × BeginsWithFrame now.held × IsQuiet now

-- this state is kept, except that the frame that is one too many is dropped
abbrev pub KeptAs : Stop → ConnectionState → ConnectionState → Type 0
KeptAs TooManyFrames after now = now.unsent ≡ []
KeptAs _ after now = now ≡ after

-- the number of loads that were answered before this stop
abbrev pub loads_before : Stop → ℕ
loads_before Loaded = 1
loads_before _ = 0

-- what follows a reply, by whether it is one to a load
abbrev pub after_reply : Bool → Result (Unit {0}) Stop
after_reply true = Err Loaded
after_reply false = Ok tt

-- one request was answered; whether it is a load is given, and its session may have another owner
-- from then on
abbrev pub OneAnswered : ℕ → ℕ → List Owner → List Owner → Reading → ServiceState → ServiceState → ConnectionState → ConnectionState → Bool → Type 0
OneAnswered limit number owners owners' reading old new before now load =
    (x : Exchange) × Answers limit before x now × IsHistory reading old (x ∷ []) new × (is_load x.request.body ≡ load) × (owners' ≡ owners_after number owners x)

-- one request was answered, which is a load only if the result is Loaded; or none was, and a faulty
-- frame may have been refused
abbrev pub NextAs : ℕ → ℕ → List Owner → List Owner → Reading → ServiceState → ServiceState → ConnectionState → ConnectionState → Result (Unit {0}) Stop → Type 0
NextAs limit number owners owners' reading old new before now (Ok _) = OneAnswered limit number owners owners' reading old new before now false
NextAs limit number owners owners' reading old new before now (Err Loaded) = OneAnswered limit number owners owners' reading old new before now true
NextAs limit number owners owners' reading old new before now (Err Refused) = (new ≡ old) × Refuses limit before now × (owners' ≡ owners)
NextAs limit number owners owners' reading old new before now (Err stop) = (new ≡ old) × StopsAs limit stop before × KeptAs stop before now × (owners' ≡ owners)

-- events in which nothing came, nothing was sent and no session was closed without a request
pub record AreAnswers (limit : ℕ) (reading : Reading) (old new : ServiceState) (before after : ConnectionState) (events : List Event) : Type 0 where
  pub happen : AllHappen limit before events after
  pub run : IsHistory reading old (exchanges events) new
  pub none_came : received events ≡ []
  pub none_sent : sent events ≡ []
  pub none_closed : closings events ≡ []

-- the answers up to this stop
abbrev pub AnswersAs : ℕ → ℕ → List Owner → List Owner → Reading → ServiceState → ServiceState → ConnectionState → ConnectionState → Stop → Type 0
AnswersAs limit number owners owners' reading old new before now stop =
    (events : List Event) × (after : ConnectionState) × AreAnswers limit reading old new before after events × StopsAs limit stop after × KeptAs stop after now × (loads events ≡ loads_before stop)
    × (owners' ≡ owners_by number owners (exchanges events))

-- all is sent, or the reason why not
abbrev pub SendsAs : Option Turn → List ℕ → ConnectionState → Option TryError → Type 0
SendsAs None bytes now mark' = now.unsent ≡ []
SendsAs (Some GoesOn) bytes now mark' = bytes ≢ []
SendsAs (Some Waits) bytes now mark' = (mark' ≡ Some WouldBlock) × (now.unsent ≢ [])
SendsAs (Some (Ends (Err Write))) bytes now mark' = (mark' ≡ Some Failed) × (now.unsent ≢ [])
SendsAs (Some _) bytes now mark' = ⊥

-- what follows a turn in which requests were answered until this stop
abbrev pub behind_answers : Stop → Turn
behind_answers Loaded = LoadedThen
behind_answers _ = GoesOn

-- how a connection ends at the end of the input, if this number of bytes is held
abbrev pub EndsAt : ℕ → Result StreamEnd ServeFault → Type 0
EndsAt held (Ok InputEnd) = held ≡ 0
EndsAt held (Err Cut) = held ≢ 0
EndsAt held _ = ⊥

-- a piece is read only if fewer bytes are held than the limit
abbrev pub IsRoomFor : ℕ → List ℕ → List ℕ → Type 0
IsRoomFor most held piece = (piece ≡ []) ⊎ ((length held < most) × (length piece ≤ max_piece))

-- a piece is read, or the reason why none is
abbrev pub ReadsAs : ℕ → Turn → ConnectionState → List ℕ → ConnectionState → Option (List ℕ) → Option TryError → Type 0
ReadsAs most GoesOn s piece s' left' mark' = (piece ≢ []) × (s' ≡ record s { held = s.held ++ piece })
ReadsAs most LoadedThen s piece s' left' mark' = ⊥
ReadsAs most Waits s piece s' left' mark' = (mark' ≡ Some WouldBlock) × (piece ≡ []) × (s' ≡ s)
ReadsAs most NeedsRoom s piece s' left' mark' = (piece ≡ []) × (s' ≡ s) × (most ≤ length s.held)
ReadsAs most (Ends (Ok InputEnd)) s piece s' left' mark' = (piece ≡ []) × IsAtEnd left' × (s.held ≡ [])
ReadsAs most (Ends (Err Cut)) s piece s' left' mark' = (piece ≡ []) × IsAtEnd left' × (s.held ≢ [])
ReadsAs most (Ends (Err Read)) s piece s' left' mark' = (piece ≡ []) × (mark' ≡ Some Failed)
ReadsAs most (Ends (Err EndsNoMemory)) s piece s' left' mark' = s.held ++ piece ≢ []
ReadsAs most (Ends _) s piece s' left' mark' = ⊥
