-- A client of the typing service as a machine: what it does at each event (this project's protocol,
-- "What a client does with a reply").
use Rattle.std.specs.Prelude.{ℕ, ◌-◌, ◌==◌, ◌||◌, ◌&&◌, Bool, true, false, if◌then◌else◌, List, [], ◌∷◌, ◌++◌, length, map, take}
use Rattle.compose_text.specs.Numbers.{is_between}
use Rattle.compose_model.specs.declared.Status.{Status}
use Rattle.compose_model.specs.declared.Status.TheVariants.{Nothing, Composing, Composed, Cancelled}
use Rattle.compose_wire.specs.Messages.{Body, open_session, key, reset, close, ask, ReplyBody, opened, fed, was_reset, closed, state, refused, Refusal, session_taken, no_session, code, Reply}
use Rattle.compose_wire.specs.Frames.{frames}
use Rattle.compose_typing.specs.declared.action.KeyVerdict.{KeyVerdict}
use Rattle.compose_typing.specs.declared.action.KeyVerdict.TheVariants.{Pass, Take, Commit}
use Rattle.compose_typing.specs.declared.action.Action.{Action}
use Rattle.compose_typing.specs.declared.action.Action.TheVariants.{Wait, Send, Connect, Tell, Abandon, Close}
use Rattle.compose_typing.specs.declared.stage.Waiting.{Waiting}
use Rattle.compose_typing.specs.declared.stage.KeyAnswer.{KeyAnswer}
use Rattle.compose_typing.specs.declared.stage.Stage.{Stage}
use Rattle.compose_typing.specs.declared.stage.Stage.TheVariants.{Apart, Ready, Connecting, Opening, Feeding, Asking, Refreshing, Closing}

-- a client: the number of its session, and whether the service has confirmed it; its pending keys;
-- whether a Reset and these keys have to be sent before the next key; and what the client waits for
pub record Client : Type 0 where
  pub session : ℕ
  pub is_opened : Bool
  pub pending : List ℕ
  pub is_stale : Bool
  pub stage : Stage

-- the outcome of an event: the client after it, and what to do
pub record Outcome : Type 0 where
  pub client : Client
  pub action : Action

abbrev pub does : Client → Action → Outcome
does c action = record { client = c; action = action }

-- no key was typed, and no connection was made
abbrev pub start : Client
start = record { session = 0; is_opened = false; pending = []; is_stale = true; stage = Apart }

-- ---- what is sent

-- the bytes of requests with these bodies
abbrev pub sent : ℕ → List Body → List ℕ
sent n bodies = frames (map (λ body. record { session = n; body = body }) bodies)

-- the requests that make exactly these keys pending in the session
abbrev pub typed_anew : List ℕ → List Body
typed_anew keys = reset ∷ map key keys

-- the requests that are sent before the next key
abbrev pub before_key : Client → List Body
before_key c = if c.is_stale then typed_anew c.pending else []

abbrev pub bodies_for : Client → ℕ → List Body
bodies_for c k = before_key c ++ key k ∷ ask ∷ []

-- the requests that make exactly the pending keys pending in the session, and report its state
abbrev pub refreshing_bodies : Client → List Body
refreshing_bodies c = typed_anew c.pending ++ ask ∷ []

-- sends the requests for the key, with those that go before it
abbrev pub asks : Client → Waiting → Outcome
asks c w = does (record c { is_stale = true; stage = Feeding w (length (before_key c)) }) (Send (sent c.session (bodies_for c w.key)))

-- sends the requests that make the pending keys pending in the session, and asks for its state
abbrev pub refreshes : Client → Outcome
refreshes c = does (record c { is_stale = true; stage = Refreshing (length (typed_anew c.pending)) }) (Send (sent c.session (refreshing_bodies c)))

-- ---- the verdict on a key

-- dead keys and Multi_key (keysymdef.h): at these a toolkit starts a compose sequence of its own
abbrev pub begins_sequences : ℕ → Bool
begins_sequences k = is_between 0xfe50 0xfe93 k || k == 0xff20

-- at rest, a key that gave no text is passed, except for a dead key
abbrev pub verdict_at_rest : ℕ → List ℕ → KeyVerdict
verdict_at_rest k [] = if begins_sequences k then Take else Pass
verdict_at_rest k (byte ∷ text) = Pass

abbrev pub status_verdict : Status → ℕ → List ℕ → KeyVerdict
status_verdict Nothing k text = verdict_at_rest k text
status_verdict Composing k text = Take
status_verdict Composed k text = Commit text
status_verdict Cancelled k text = Take

-- the verdict on a key with this answer
abbrev pub verdict_on : ℕ → KeyAnswer → KeyVerdict
verdict_on k h = if h.accepted then status_verdict h.status k h.text else Pass

-- ---- the key that waits

abbrev pub waits : Stage → Bool
waits Apart = false
waits Ready = false
waits (Connecting w) = true
waits (Opening w) = true
waits (Feeding w n) = true
waits (Asking w h) = true
waits (Refreshing n) = false
waits Closing = false

-- neither a connection nor a reply is waited for
abbrev pub is_idle : Stage → Bool
is_idle Apart = true
is_idle Ready = true
is_idle _ = false

-- the connection is given up: the key that waits passes, and what was pending is dropped
abbrev pub abandon_outcome : Client → Outcome
abandon_outcome c = does (record c { pending = []; is_stale = true; stage = Apart }) Abandon

abbrev pub give_up_outcome : Client → Outcome
give_up_outcome c = if waits c.stage then abandon_outcome c else does (record c { is_stale = true; stage = Apart }) Close

-- ---- events

-- a key is pressed; one that comes while another one waits passes at once
abbrev pub pressed_at : Stage → Client → ℕ → Outcome
pressed_at Apart c k = does (record c { stage = Connecting (record { key = k; is_again = false }) }) Connect
pressed_at Ready c k = asks c (record { key = k; is_again = false })
pressed_at _ c k = does c (Tell Pass)

abbrev pub press_outcome : Client → ℕ → Outcome
press_outcome c k = pressed_at c.stage c k

-- the connection was lost, or none could be made: for each key it is made again once
abbrev pub lost_with : Client → Waiting → Outcome
lost_with c w = if w.is_again then abandon_outcome c else does (record c { is_stale = true; stage = Connecting (record { key = w.key; is_again = true }) }) Connect

-- a session that was opened keeps its number, any other gets this one
abbrev pub number_for : Client → ℕ → ℕ
number_for c n = if c.is_opened then c.session else n

-- a connection was made, with a number for the session; it is closed if no key waits for it
abbrev pub connected_at : Stage → Client → ℕ → Outcome
connected_at (Connecting w) c n = does (record c { session = number_for c n; stage = Opening w }) (Send (sent (number_for c n) (open_session ∷ [])))
connected_at _ c n = give_up_outcome c

abbrev pub connected : Client → ℕ → Outcome
connected c n = connected_at c.stage c n

-- the answer to an Open: if a session is already open, it is this client's only if the client
-- opened it before
abbrev pub opened_at : Client → Waiting → ReplyBody → Outcome
opened_at c w opened = asks (record c { is_opened = true; is_stale = true }) w
opened_at c w (refused why) = if c.is_opened && (code why == code session_taken) then asks (record c { is_stale = true }) w else abandon_outcome c
opened_at c w _ = abandon_outcome c

-- a session that another client closed is opened again, like one whose connection was lost; any
-- other refusal gives the connection up
abbrev pub refused_at : Client → Waiting → Refusal → Outcome
refused_at c w why = if code why == code no_session then lost_with c w else abandon_outcome c

-- the answers to a Reset and to keys that are typed again are skipped, and then the key is answered
abbrev pub fed_at : Client → Waiting → ℕ → ReplyBody → Outcome
fed_at c w n (fed status accepted text) =
    if n == 0 then does (record c { is_stale = true; stage = Asking w (record { status = status; accepted = accepted; text = text }) }) Wait else
    does (record c { is_stale = true; stage = Feeding w (n - 1) }) Wait
fed_at c w n was_reset = if n == 0 then abandon_outcome c else does (record c { is_stale = true; stage = Feeding w (n - 1) }) Wait
fed_at c w n (refused why) = refused_at c w why
fed_at c w n _ = abandon_outcome c

abbrev pub is_cancelled : Status → Bool
is_cancelled Cancelled = true
is_cancelled _ = false

-- the session's state is what the service reports; after a cancelled sequence it is reset before
-- the next key
abbrev pub asked_at : Client → Waiting → KeyAnswer → ReplyBody → Outcome
asked_at c w h (state status pending) = does (record c { pending = pending; is_stale = is_cancelled status; stage = Ready }) (Tell (verdict_on w.key h))
asked_at c w h (refused why) = refused_at c w why
asked_at c w h _ = abandon_outcome c

-- the answers while no key waits: those to a Reset and to keys that are typed again are skipped,
-- and then the session's state is what the service reports
abbrev pub skipped_at : Client → ℕ → Outcome
skipped_at c n = if n == 0 then give_up_outcome c else does (record c { stage = Refreshing (n - 1) }) Wait

abbrev pub refreshed_at : Client → ℕ → ReplyBody → Outcome
refreshed_at c n (fed status accepted text) = skipped_at c n
refreshed_at c n was_reset = skipped_at c n
refreshed_at c n (state status pending) = if n == 0 then does (record c { pending = pending; is_stale = is_cancelled status; stage = Ready }) Wait else give_up_outcome c
refreshed_at c n _ = give_up_outcome c

-- a session that is closed, or was not open, leaves the connection as it is
abbrev pub closed_at : Client → ReplyBody → Outcome
closed_at c closed = does (record c { stage = Apart }) Wait
closed_at c (refused why) = does (record c { stage = Apart }) Wait
closed_at c _ = give_up_outcome c

abbrev pub answered_at : Stage → Client → ReplyBody → Outcome
answered_at (Opening w) c answer = opened_at c w answer
answered_at (Feeding w n) c answer = fed_at c w n answer
answered_at (Asking w h) c answer = asked_at c w h answer
answered_at (Refreshing n) c answer = refreshed_at c n answer
answered_at Closing c answer = closed_at c answer
answered_at _ c answer = give_up_outcome c

-- a reply came
abbrev pub answered : Client → Reply → Outcome
answered c r = if r.session == c.session then answered_at c.stage c r.answer else give_up_outcome c

abbrev pub lost_at : Stage → Client → Outcome
lost_at Apart c = does c Wait
lost_at Ready c = does (record c { is_stale = true; stage = Apart }) Wait
lost_at (Connecting w) c = abandon_outcome c
lost_at (Opening w) c = lost_with c w
lost_at (Feeding w n) c = lost_with c w
lost_at (Asking w h) c = lost_with c w
lost_at (Refreshing n) c = does (record c { is_stale = true; stage = Apart }) Wait
lost_at Closing c = does (record c { is_stale = true; stage = Apart }) Wait

abbrev pub lost : Client → Outcome
lost c = lost_at c.stage c

-- the time allowed for a key is over
abbrev pub timeout_outcome : Client → Outcome
timeout_outcome c = if is_idle c.stage then does c Wait else give_up_outcome c

-- ---- events without a key; while a reply is waited for they change nothing

-- the last pending key is taken back, and the service is asked what is pending then; without a
-- connection the next key is typed after the others
abbrev pub erased_at : Stage → Client → Outcome
erased_at Apart c = does (record c { pending = take (length c.pending - 1) c.pending; is_stale = true }) Wait
erased_at Ready c = refreshes (record c { pending = take (length c.pending - 1) c.pending })
erased_at _ c = does c Wait

abbrev pub erase_outcome : Client → Outcome
erase_outcome c = erased_at c.stage c

-- the pending keys are dropped, and the session is reset before the next key
abbrev pub dropped : Client → Client
dropped c = if is_idle c.stage then record c { pending = []; is_stale = true } else c

-- the session is closed, if there is one on a connection; the next key opens another one
abbrev pub closes : Client → Outcome
closes c = does (record c { is_opened = false; pending = []; is_stale = true; stage = Closing }) (Send (sent c.session (close ∷ [])))

abbrev pub left_at : Stage → Client → Outcome
left_at Apart c = does (record c { is_opened = false; pending = []; is_stale = true }) Wait
left_at Ready c = closes c
left_at _ c = does c Wait

abbrev pub close_outcome : Client → Outcome
close_outcome c = left_at c.stage c
