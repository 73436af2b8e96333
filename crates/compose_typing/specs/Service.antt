-- A client, and a service that types over one table: what happens at a key, even if connections are
-- lost.
use Rattle.std.specs.Prelude.{◌≡◌, ℕ, Bool, true, false, not, if◌then◌else◌, List, [], ◌∷◌, ◌++◌, Option, Some, None}
use Rattle.keysym_core.specs.Keysym.{is_ignored}
use Rattle.keysym_core.specs.Names.{KeysymNames}
use Rattle.compose_model.specs.Table.{Definition}
use Rattle.compose_model.specs.Step.{step, pending}
use Rattle.compose_model.specs.Session.{Session, rest, fed as session_fed}
use Rattle.compose_wire.specs.Messages.{Body, key, reset, ask, ReplyBody, opened, fed, was_reset, state, refused, session_taken, no_session}
use Rattle.compose_typing.specs.declared.action.Action.{Action}
use Rattle.compose_typing.specs.declared.action.Action.TheVariants.{Tell, Abandon}
use Rattle.compose_typing.specs.declared.action.KeyVerdict.{KeyVerdict}
use Rattle.compose_typing.specs.declared.action.KeyVerdict.TheVariants.{Pass}
use Rattle.compose_typing.specs.declared.stage.Waiting.{Waiting}
use Rattle.compose_typing.specs.declared.stage.KeyAnswer.{KeyAnswer}
use Rattle.compose_typing.specs.declared.stage.Stage.{Stage}
use Rattle.compose_typing.specs.declared.stage.Stage.TheVariants.{Ready, Opening, Feeding, Asking}
use Rattle.compose_typing.specs.TypingSession.{Client, asks, bodies_for, verdict_on, is_cancelled}
use Rattle.compose_typing.specs.Laws.{Event, connect, reply, lose, happens, after}

-- ---- the service

-- the answer of a service with this session open, and the session after it; the client sends no
-- other request than these
abbrev pub answer_of : KeysymNames → List Definition → Session → Body → ReplyBody
answer_of names table s (key k) = fed (session_fed table s k).status (not (is_ignored k)) (step names table s.pending k).text
answer_of names table s reset = was_reset
answer_of names table s ask = state s.status s.pending
answer_of names table s _ = refused session_taken

abbrev pub session_after : List Definition → Session → Body → Session
session_after table s (key k) = session_fed table s k
session_after table s reset = rest
session_after table s _ = s

-- the replies to requests of the session n, one after another
abbrev pub replies : KeysymNames → List Definition → ℕ → Session → List Body → List Event
replies names table n s [] = []
replies names table n s (b ∷ bs) = reply (record { session = n; answer = answer_of names table s b }) ∷ replies names table n (session_after table s b) bs

-- the session after these keys
abbrev pub typed : List Definition → Session → List ℕ → Session
typed table s [] = s
typed table s (k ∷ ks) = typed table (session_fed table s k) ks

-- ---- the verdicts

abbrev pub verdicts_in : Action → List KeyVerdict
verdicts_in (Tell verdict) = verdict ∷ []
verdicts_in Abandon = Pass ∷ []
verdicts_in _ = []

-- the verdicts at these events
abbrev pub verdicts_at : Client → List Event → List KeyVerdict
verdicts_at c [] = []
verdicts_at c (e ∷ es) = verdicts_in (happens c e).action ++ verdicts_at (happens c e).client es

-- the service's answer to the key in the session
abbrev pub heard : KeysymNames → List Definition → Session → ℕ → KeyAnswer
heard names table s k = record { status = (session_fed table s k).status; accepted = not (is_ignored k); text = (step names table s.pending k).text }

-- the client, once it has read the session's state after the key
abbrev pub moved : List Definition → Client → Session → ℕ → Client
moved table c s k = record c {
  pending = (session_fed table s k).pending;
  is_stale = is_cancelled (session_fed table s k).status;
  stage = Ready;
}

-- at these events the key has its one verdict, by its step in the session s, and the client then
-- agrees with that session
pub record Types (names : KeysymNames) (table : List Definition) (c : Client) (es : List Event) (s : Session) (k : ℕ) : Type 0 where
  pub client : after c es ≡ moved table c s k
  pub verdict : verdicts_at c es ≡ verdict_on k (heard names table s k) ∷ []

-- ---- laws

-- the session in which the key is typed: this one or, if it is stale, that of the pending keys
-- alone
abbrev pub session_for : List Definition → Client → Session → Session
session_for table c s = if c.is_stale then typed table rest c.pending else s

-- a key that is asked about is typed once, in that session
abbrev pub AskedOnce : Type 0
AskedOnce = (names : KeysymNames) (table : List Definition) (c : Client) (w : Waiting) (s : Session)
    → Types names table (asks c w).client (replies names table c.session s (bodies_for c w.key)) (session_for table c s) w.key

-- the key that waits for a reply
abbrev pub key_at : Stage → Option Waiting
key_at (Opening w) = Some w
key_at (Feeding w n) = Some w
key_at (Asking w h) = Some w
key_at _ = None

-- the connection is lost, a new one is made (with a number for another session), the session is
-- found open there, and every request is answered
abbrev pub reconnected : KeysymNames → List Definition → Client → ℕ → Session → ℕ → List Event
reconnected names table c n s k =
    lose ∷ connect n ∷ reply (record { session = c.session; answer = refused session_taken }) ∷ replies names table c.session s (bodies_for (record c { is_stale = true }) k)

-- whatever replies have come to a key when its connection is lost, and whatever session the service
-- is left with, the key is typed once, in the session of the keys that were pending before it
abbrev pub LostOnce : Type 0
LostOnce = (names : KeysymNames) (table : List Definition) (c : Client) (w : Waiting) (n : ℕ) (s : Session) → key_at c.stage ≡ Some w → w.is_again ≡ false → c.is_opened ≡ true
    → Types names table c (reconnected names table c n s w.key) (typed table rest c.pending) w.key

-- the key waits for its own reply or for the state of the session after it
abbrev pub is_fed : Stage → Bool
is_fed (Feeding w n) = true
is_fed (Asking w h) = true
is_fed _ = false

-- the session turns out to be closed, a new connection is made (with a number for another session),
-- the session is opened there, and every request is answered
abbrev pub reopened : KeysymNames → List Definition → Client → ℕ → ℕ → List Event
reopened names table c n k =
    reply (record { session = c.session; answer = refused no_session }) ∷ connect n ∷ reply (record { session = c.session; answer = opened })
    ∷ replies names table c.session rest (bodies_for (record c { is_stale = true }) k)

-- a key whose session another client closed is typed once, in the session of the keys that were
-- pending before it
abbrev pub ClosedOnce : Type 0
ClosedOnce = (names : KeysymNames) (table : List Definition) (c : Client) (w : Waiting) (n : ℕ) → key_at c.stage ≡ Some w → is_fed c.stage ≡ true → w.is_again ≡ false → c.is_opened ≡ true
    → Types names table c (reopened names table c n w.key) (typed table rest c.pending) w.key

-- the pending keys of a session are pending again after they are typed anew
abbrev pub PendingAgain : Type 0
PendingAgain = (table : List Definition) (keys : List ℕ) → (typed table rest (pending table keys)).pending ≡ pending table keys
