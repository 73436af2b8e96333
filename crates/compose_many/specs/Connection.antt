-- A connection: what is kept of it, and what happens on it (this project's profile).
use Rattle.std.specs.Prelude.{◌≡◌, ℕ, ◌+◌, ◌<◌, ◌≤◌, Bool, true, false, List, [], ◌∷◌, ◌++◌, length, map, flat_map, filter, IsSome}
use Rattle.std.specs.List.{AllByRecursion}
use Rattle.compose_wire.specs.Messages.{close, Request, Fits, Reply}
use Rattle.compose_wire.specs.Frames.{frame, frames, reply_bytes, fault_at}
use Rattle.compose_machine.specs.Laws.{Exchange, is_load}
use Rattle.compose_serve.specs.Ends.{max_frames, replies_bytes, malformed_reply}

-- the bytes that came and are not answered, the bytes of replies that are not sent, the number of
-- requests that were answered, and whether a faulty frame was refused
pub record ConnectionState : Type 0 where
  pub held : List ℕ
  pub unsent : List ℕ
  pub answered : ℕ
  pub refused : Bool

abbrev pub new_connection : ConnectionState
new_connection = record { held = []; unsent = []; answered = 0; refused = false }

-- the maximum length of a reply, in bytes
abbrev pub max_reply : ℕ
max_reply = 272

-- the maximum number of bytes that are read at once
abbrev pub max_piece : ℕ
max_piece = 4096

-- ---- events

-- a piece comes, a request is answered, a faulty frame is refused, or bytes are sent; or a Close
-- that nobody sent is answered and its reply dropped
pub data Event : Type 0 where
  receives : List ℕ → Event
  answers : Exchange → Event
  refuses : Event
  sends : List ℕ → Event
  closes : Exchange → Event

-- a piece comes only if all is sent; it follows what is held
pub record Receives (s : ConnectionState) (piece : List ℕ) (s' : ConnectionState) : Type 0 where
  pub goes_on : s.refused ≡ false
  pub all_sent : s.unsent ≡ []
  pub after : s' ≡ record s { held = s.held ++ piece }

-- the request whose frame is held first is answered, if fewer bytes than the limit are unsent; its
-- reply follows what is unsent
pub record Answers (limit : ℕ) (s : ConnectionState) (x : Exchange) (s' : ConnectionState) : Type 0 where
  pub goes_on : s.refused ≡ false
  pub below : length s.unsent < limit
  pub few : s.answered < max_frames
  pub fit : Fits x.request
  pub short : length (reply_bytes x.reply) ≤ max_reply
  pub first : s.held ≡ frame x.request ++ s'.held
  pub after : s' ≡ record s { held = s'.held; unsent = s.unsent ++ reply_bytes x.reply; answered = s.answered + 1 }

-- the faulty frame that is held first is refused; from then on nothing comes and nothing is
-- answered
pub record Refuses (limit : ℕ) (s s' : ConnectionState) : Type 0 where
  pub goes_on : s.refused ≡ false
  pub below : length s.unsent < limit
  pub faulty : IsSome (fault_at s.held)
  pub after : s' ≡ record s { unsent = s.unsent ++ reply_bytes malformed_reply; refused = true }

-- the first unsent bytes are sent
pub record Sends (s : ConnectionState) (bytes : List ℕ) (s' : ConnectionState) : Type 0 where
  pub first : s.unsent ≡ bytes ++ s'.unsent
  pub after : s' ≡ record s { unsent = s'.unsent }

-- a session is closed on behalf of a client that is gone; the connection stays as before
pub record Closes (s : ConnectionState) (x : Exchange) (s' : ConnectionState) : Type 0 where
  pub close : x.request.body ≡ close
  pub after : s' ≡ s

abbrev pub Happens : ℕ → ConnectionState → Event → ConnectionState → Type 0
Happens limit s (receives piece) s' = Receives s piece s'
Happens limit s (answers x) s' = Answers limit s x s'
Happens limit s refuses s' = Refuses limit s s'
Happens limit s (sends bytes) s' = Sends s bytes s'
Happens limit s (closes x) s' = Closes s x s'

-- these events happen, one after another
abbrev pub AllHappen : ℕ → ConnectionState → List Event → ConnectionState → Type 0
AllHappen limit s [] s' = s' ≡ s
AllHappen limit s (e ∷ events) s' = (mid : ConnectionState) × Happens limit s e mid × AllHappen limit mid events s'

-- ---- what the events are together

abbrev pub piece_of : Event → List ℕ
piece_of (receives piece) = piece
piece_of _ = []

abbrev pub exchange_of : Event → List Exchange
exchange_of (answers x) = x ∷ []
exchange_of (closes x) = x ∷ []
exchange_of _ = []

abbrev pub asked_of : Event → List Exchange
asked_of (answers x) = x ∷ []
asked_of _ = []

abbrev pub closed_of : Event → List Exchange
closed_of (closes x) = x ∷ []
closed_of _ = []

abbrev pub sent_of : Event → List ℕ
sent_of (sends bytes) = bytes
sent_of _ = []

-- the bytes that came, all exchanges, the exchanges whose requests came, their requests and
-- replies, the Closes that nobody sent, and the bytes that were sent
abbrev pub received : List Event → List ℕ
received events = flat_map piece_of events

abbrev pub exchanges : List Event → List Exchange
exchanges events = flat_map exchange_of events

abbrev pub asked : List Event → List Exchange
asked events = flat_map asked_of events

abbrev pub requests : List Event → List Request
requests events = map (λ x. x.request) (asked events)

abbrev pub replies : List Event → List Reply
replies events = map (λ x. x.reply) (asked events)

abbrev pub closings : List Event → List Exchange
closings events = flat_map closed_of events

abbrev pub sent : List Event → List ℕ
sent events = flat_map sent_of events

-- the number of loads that were answered
abbrev pub loads : List Event → ℕ
loads events = length (filter (λ x. is_load x.request.body) (exchanges events))

-- the reply to a faulty frame, if one was refused
abbrev pub refusal : Bool → List Reply
refusal false = []
refusal true = malformed_reply ∷ []

-- a connection that was new and on which these events happened: its requests are the first frames
-- of what came, in order; the sent and the unsent bytes together are the replies to exactly these
-- requests, and to the faulty frame if one was refused
pub record HasItsOwn (limit : ℕ) (events : List Event) (now : ConnectionState) : Type 0 where
  pub fit : AllByRecursion Fits (requests events)
  pub counted : now.answered ≡ length (requests events)
  pub few : now.answered ≤ max_frames
  pub read : received events ≡ frames (requests events) ++ now.held
  pub written : sent events ++ now.unsent ≡ replies_bytes (replies events ++ refusal now.refused)
  pub faulty : now.refused ≡ true → IsSome (fault_at now.held)
  -- the number of unsent bytes is bounded
  pub bounded : length now.unsent < limit + max_reply
