-- A client, and a service whose table is replaced by other ones: what is typed while tables are
-- loaded and connections are lost.
use Rattle.std.specs.Prelude.{◌≡◌, ℕ, ◌+◌, Bool, true, false, not, ◌&&◌, nat_lt, if◌then◌else◌, List, [], ◌∷◌, ◌++◌, map, flat_map, Option, Some, None, option_map, IsTrue}
use Rattle.keysym_core.specs.Keysym.{is_ignored}
use Rattle.keysym_core.specs.Names.{KeysymNames, text}
use Rattle.compose_model.specs.Table.{Definition, same, avoids}
use Rattle.compose_model.specs.Step.{effect, is_cancel, step, pending, pending_after, uncancelled}
use Rattle.compose_model.specs.Session.{Session, rest, loaded as session_loaded}
use Rattle.compose_model.specs.Follows.{Follows}
use Rattle.compose_wire.specs.Messages.{Body, open_session, ReplyBody, opened, refused, no_session}
use Rattle.compose_typing.specs.declared.action.Action.{Action}
use Rattle.compose_typing.specs.declared.action.Action.TheVariants.{Send, Connect, Abandon, Close}
use Rattle.compose_typing.specs.declared.action.KeyVerdict.{KeyVerdict}
use Rattle.compose_typing.specs.declared.action.KeyVerdict.TheVariants.{Pass, Take, Commit}
use Rattle.compose_typing.specs.declared.stage.Stage.{Stage}
use Rattle.compose_typing.specs.declared.stage.Stage.TheVariants.{Apart, Ready, Connecting, Opening, Feeding, Asking}
use Rattle.compose_typing.specs.TypingSession.{Client, Outcome, sent, bodies_for, is_idle}
use Rattle.compose_typing.specs.Laws.{press, connect, reply, lose, time_out, happens}
use Rattle.compose_typing.specs.Service.{answer_of, session_after, verdicts_in}

-- ---- a client, its connection and the service

-- the client's connection: none; one that it asked for and that is not made yet; or one that
-- stands, with the requests on it that have no answer yet
pub data Link : Type 0 where
  none : Link
  wanted : Link
  stands : List Body → Link

-- a client and its connection; the table over which the service types, and the client's session
-- there, if it is open; and how often, since the last key was pressed, the connection was lost or
-- the session turned out to be closed
pub record World : Type 0 where
  pub client : Client
  pub link : Link
  pub table : List Definition
  pub session : Option Session
  pub losses : ℕ

-- what may happen at any time. A reply counts as read when it is given: that the client reads it
-- after a load makes no difference
pub data Incident : Type 0 where
  -- a key is pressed
  pressed : ℕ → Incident
  -- the connection is made, with a number for a session that is not open; the session that the
  -- client opened before is this one by then, whatever was typed there, or it is closed
  connected : ℕ → Option Session → Incident
  -- the service answers the next request, and the client reads the reply
  answered : Incident
  -- the connection is lost, or cannot be made
  lost : Incident
  -- the time allowed for a key is over
  timed_out : Incident
  -- another client closes the session
  closed : Incident
  -- this table is loaded into the service
  loaded : List Definition → Incident

-- the service's answer to a request
abbrev pub answer_by : KeysymNames → List Definition → Option Session → Body → ReplyBody
answer_by names table (Some s) b = answer_of names table s b
answer_by names table None open_session = opened
answer_by names table None _ = refused no_session

-- the session after a request
abbrev pub session_by : List Definition → Option Session → Body → Option Session
session_by table (Some s) b = Some (session_after table s b)
session_by table None open_session = Some rest
session_by table None _ = None

-- a session that turns out to be closed counts as a loss
abbrev pub losses_by : Option Session → Body → ℕ → ℕ
losses_by (Some s) b n = n
losses_by None open_session n = n
losses_by None _ n = n + 1

-- ---- what the client does

-- what a key types by itself
abbrev pub own_text : KeysymNames → ℕ → List ℕ
own_text names k = if is_ignored k then [] else text names k

-- what is typed at a verdict on the key
abbrev pub verdict_text : KeysymNames → ℕ → KeyVerdict → List ℕ
verdict_text names k Pass = own_text names k
verdict_text names k Take = []
verdict_text names k (Commit committed) = committed

-- a key that has its verdict, what was typed at it, and whether there was a second loss before
pub record KeyText : Type 0 where
  pub key : ℕ
  pub text : List ℕ
  pub is_lost : Bool

-- the key that waits, if one does
abbrev pub waiting_keys : Stage → List ℕ
waiting_keys (Connecting w) = w.key ∷ []
waiting_keys (Opening w) = w.key ∷ []
waiting_keys (Feeding w n) = w.key ∷ []
waiting_keys (Asking w h) = w.key ∷ []
waiting_keys _ = []

-- the requests that the client sends when it hears that its session is open
abbrev pub requests_then : Stage → Client → List Body
requests_then (Opening w) c = bodies_for (record c { is_stale = true }) w.key
requests_then _ c = []

abbrev pub unanswered : Link → List Body
unanswered (stands bs) = bs
unanswered _ = []

-- the connection after an action; the service reads what is sent as these requests of the session
-- n, and gives the connection up if their bytes are others
abbrev pub link_after : Link → ℕ → Action → List Body → Link
link_after link n (Send bytes) bs = if same bytes (sent n bs) then stands (unanswered link ++ bs) else none
link_after link n Connect bs = wanted
link_after link n Abandon bs = none
link_after link n Close bs = none
link_after link n _ bs = link

-- the texts of these keys at an action, after so many losses
abbrev pub texts_at : KeysymNames → ℕ → List ℕ → Action → List KeyText
texts_at names losses ks action = flat_map (λ k. map (λ v. record { key = k; text = verdict_text names k v; is_lost = nat_lt 1 losses }) (verdicts_in action)) ks

-- the world after the client acts, and what it types: the key that waits is one of these, and what
-- it sends are these requests
abbrev pub acts : KeysymNames → World → Outcome → List ℕ → List Body → World × List KeyText
acts names w o ks bs = (record w { client = o.client; link = link_after w.link o.client.session o.action bs }, texts_at names w.losses ks o.action)

-- ---- incidents

-- a key that is pressed while another one waits passes at once, and is left out here
abbrev pub at_press : KeysymNames → World → ℕ → World × List KeyText
at_press names w k = if is_idle w.client.stage then acts names (record w { losses = 0 }) (happens w.client (press k)) (k ∷ []) (bodies_for w.client k) else (w, [])

abbrev pub at_connected : Link → KeysymNames → World → ℕ → Option Session → World × List KeyText
at_connected wanted names w n left =
    acts names (record w { link = stands []; session = if w.client.is_opened then left else None }) (happens w.client (connect n)) (waiting_keys w.client.stage) (open_session ∷ [])
at_connected _ names w n left = (w, [])

abbrev pub at_answer : Link → KeysymNames → World → World × List KeyText
at_answer (stands (b ∷ bs)) names w =
    acts names (record w { link = stands bs; session = session_by w.table w.session b; losses = losses_by w.session b w.losses })
    (happens w.client (reply (record { session = w.client.session; answer = answer_by names w.table w.session b })))
    (waiting_keys w.client.stage) (requests_then w.client.stage w.client)
at_answer _ names w = (w, [])

-- a connection that cannot be made counts as the second loss
abbrev pub losses_after : Link → ℕ → ℕ
losses_after none n = n
losses_after wanted n = 2
losses_after (stands bs) n = n + 1

-- the world after an incident, and the keys that have their verdicts at it; a time that is over
-- counts as a second loss too
abbrev pub at_incident : KeysymNames → World → Incident → World × List KeyText
at_incident names w (pressed k) = at_press names w k
at_incident names w (connected n left) = at_connected w.link names w n left
at_incident names w answered = at_answer w.link names w
at_incident names w lost = acts names (record w { link = none; losses = losses_after w.link w.losses }) (happens w.client lose) (waiting_keys w.client.stage) []
at_incident names w timed_out = acts names (record w { losses = 2 }) (happens w.client time_out) (waiting_keys w.client.stage) []
at_incident names w closed = (record w { session = None }, [])
at_incident names w (loaded table) = (record w { table = table; session = option_map (session_loaded table) w.session }, [])

-- the world after these incidents
abbrev pub world_after : KeysymNames → World → List Incident → World
world_after names w [] = w
world_after names w (i ∷ is) = world_after names (at_incident names w i).0 is

-- the keys that have their verdicts at these incidents, one after another
abbrev pub texts_in : KeysymNames → World → List Incident → List KeyText
texts_in names w [] = []
texts_in names w (i ∷ is) = (at_incident names w i).1 ++ texts_in names (at_incident names w i).0 is

-- the key that is pressed, unless another one waits
abbrev pub key_in : World → Incident → List ℕ
key_in w (pressed k) = if is_idle w.client.stage then k ∷ [] else []
key_in w _ = []

-- the keys that are pressed at these incidents
abbrev pub keys_in : KeysymNames → World → List Incident → List ℕ
keys_in names w [] = []
keys_in names w (i ∷ is) = key_in w i ++ keys_in names (at_incident names w i).0 is

-- ---- the law

-- no key waits; the pending keys can be typed with the service's table; and unless they have to be
-- typed again, the session is where they lead
abbrev pub IsIdleAt : Stage → World → Type 0
IsIdleAt Apart w = (w.link ≡ none) × (w.client.is_stale ≡ true)
IsIdleAt Ready w =
    (w.link ≡ stands []) × (w.client.is_opened ≡ true)
    × ((s : Session) → w.session ≡ Some s → w.client.is_stale ≡ false → s.pending ≡ pending w.table w.client.pending)
IsIdleAt _ w = ⊥

pub record IsIdleWorld (w : World) : Type 0 where
  pub goes_on : IsTrue (uncancelled w.table w.client.pending)
  pub stage : IsIdleAt w.client.stage w

-- each table that is loaded follows the one before it, except for these fresh keysyms
abbrev pub LoadsFollow : KeysymNames → List ℕ → List Definition → List Incident → Type 0
LoadsFollow names fresh table [] = Unit {0}
LoadsFollow names fresh table (loaded new ∷ is) = Follows names fresh table new × LoadsFollow names fresh new is
LoadsFollow names fresh table (_ ∷ is) = LoadsFollow names fresh table is

-- the texts of the table's run over these keys, with u pending; it begins anew after a key whose
-- connection was lost a second time, which types its own text
abbrev pub run_texts : KeysymNames → List Definition → List ℕ → List KeyText → List (List ℕ)
run_texts names table u [] = []
run_texts names table u (y ∷ ys) =
    if y.is_lost then own_text names y.key ∷ run_texts names table [] ys else
    (step names table u y.key).text ∷ run_texts names table (pending_after table u y.key) ys

-- the table cancels at none of these keys in that run
abbrev pub run_goes_on : List Definition → List ℕ → List KeyText → Bool
run_goes_on table u [] = true
run_goes_on table u (y ∷ ys) = if y.is_lost then run_goes_on table [] ys else not (is_cancel (effect table u y.key)) && run_goes_on table (pending_after table u y.key) ys

-- no connection is waited for, and no answer
abbrev pub is_quiet : Link → Bool
is_quiet none = true
is_quiet (stands []) = true
is_quiet _ = false

-- at these incidents the client types what the opening table types, which is the one that the
-- service has at their beginning
pub record TypesAsOpening (names : KeysymNames) (w : World) (is : List Incident) : Type 0 where
  -- each key that was pressed has one verdict, in this order, or it is the last one and waits
  pub keys : map (λ y. y.key) (texts_in names w is) ++ waiting_keys (world_after names w is).client.stage ≡ keys_in names w is
  -- the texts are those of the table's run
  pub texts : map (λ y. y.text) (texts_in names w is) ≡ run_texts names w.table (pending w.table w.client.pending) (texts_in names w is)
  -- where nothing is waited for, no key waits, and what the law says holds from there on too
  pub idle : is_quiet (world_after names w is).link ≡ true → IsIdleWorld (world_after names w is)

-- whatever tables are loaded and whatever connections are lost, what is typed is what the opening
-- table types: if each table follows the one before, no pressed or pending key is fresh, and the
-- opening table does not cancel
abbrev pub TypesOpening : Type 0
TypesOpening = (names : KeysymNames) (fresh : List ℕ) (w : World) (is : List Incident) → IsIdleWorld w → LoadsFollow names fresh w.table is
    → IsTrue (avoids fresh (w.client.pending ++ keys_in names w is)) → IsTrue (run_goes_on w.table (pending w.table w.client.pending) (texts_in names w is)) → TypesAsOpening names w is
