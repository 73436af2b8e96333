-- A client's verdicts over many keys, with a service that types over one table, while connections
-- are lost.
use Rattle.std.specs.Prelude.{◌≡◌, ℕ, ◌<◌, true, false, List, [], ◌∷◌, ◌++◌, length, map, take, Option, Some, None}
use Rattle.keysym_core.specs.Names.{KeysymNames}
use Rattle.compose_model.specs.Table.{Definition}
use Rattle.compose_model.specs.Step.{Effect, ignores, extends, completes, passes, cancels, effect, step, pending, pending_after}
use Rattle.compose_model.specs.Session.{Session, rest, fed as session_fed}
use Rattle.compose_typing.specs.declared.action.KeyVerdict.{KeyVerdict}
use Rattle.compose_typing.specs.declared.action.KeyVerdict.TheVariants.{Pass, Take, Commit}
use Rattle.compose_typing.specs.declared.stage.Stage.TheVariants.{Ready}
use Rattle.compose_typing.specs.TypingSession.{Client, bodies_for, verdict_at_rest}
use Rattle.compose_typing.specs.Laws.{Event, press}
use Rattle.compose_typing.specs.Service.{replies, typed, verdicts_at, moved, session_for, reconnected}

-- ---- verdicts by the table

-- the verdict on a key with this effect and text
abbrev pub effect_verdict : Effect → ℕ → List ℕ → KeyVerdict
effect_verdict ignores k text = Pass
effect_verdict extends k text = Take
effect_verdict completes k text = Commit text
effect_verdict passes k text = verdict_at_rest k text
effect_verdict cancels k text = Take

-- the verdicts on these keys, with u pending: by the steps of the table's run over them
abbrev pub run_verdicts : KeysymNames → List Definition → List ℕ → List ℕ → List KeyVerdict
run_verdicts names table u [] = []
run_verdicts names table u (k ∷ ks) = effect_verdict (effect table u k) k (step names table u k).text ∷ run_verdicts names table (pending_after table u k) ks

-- ---- keys

-- a connection was lost after this number of replies, and the service was left with this session;
-- the next connection brought this number
pub record Loss : Type 0 where
  pub read : ℕ
  pub number : ℕ
  pub left : Session

-- a key, and how its connection was lost, if it was
pub record Press : Type 0 where
  pub key : ℕ
  pub loss : Option Loss

-- what happens from the press of the key to its verdict, in the session s
abbrev pub key_events : KeysymNames → List Definition → Client → Session → ℕ → Option Loss → List Event
key_events names table c s k None = press k ∷ replies names table c.session s (bodies_for c k)
key_events names table c s k (Some l) = press k ∷ take l.read (replies names table c.session s (bodies_for c k)) ++ reconnected names table c l.number l.left k

-- the session in which the key is typed
abbrev pub key_session : List Definition → Client → Session → Option Loss → Session
key_session table c s None = session_for table c s
key_session table c s (Some l) = typed table rest c.pending

-- a connection is lost before the last reply is read
abbrev pub IsInTime : Client → ℕ → Option Loss → Type 0
IsInTime c k None = Unit {0}
IsInTime c k (Some l) = l.read < length (bodies_for c k)

-- what happens at these keys, one after another
abbrev pub all_events : KeysymNames → List Definition → Client → Session → List Press → List Event
all_events names table c s [] = []
all_events names table c s (p ∷ ps) =
    key_events names table c s p.key p.loss
    ++ all_events names table (moved table c (key_session table c s p.loss) p.key) (session_fed table (key_session table c s p.loss) p.key) ps

abbrev pub AllInTime : List Definition → Client → Session → List Press → Type 0
AllInTime table c s [] = Unit {0}
AllInTime table c s (p ∷ ps) =
    IsInTime c p.key p.loss × AllInTime table (moved table c (key_session table c s p.loss) p.key) (session_fed table (key_session table c s p.loss) p.key) ps

-- no key waits, the session is open, some keys led to what is pending, and unless it has to be
-- typed again it is pending in the session
pub record IsReady (table : List Definition) (c : Client) (s : Session) : Type 0 where
  pub stage : c.stage ≡ Ready
  pub opened : c.is_opened ≡ true
  pub keys : List ℕ
  pub reached : c.pending ≡ pending table keys
  pub same : c.is_stale ≡ false → s.pending ≡ c.pending

-- over all keys the verdicts are those of the table's run, whichever connections are lost
abbrev pub TypesRun : Type 0
TypesRun = (names : KeysymNames) (table : List Definition) (c : Client) (s : Session) (ps : List Press) → IsReady table c s → AllInTime table c s ps
    → verdicts_at c (all_events names table c s ps) ≡ run_verdicts names table c.pending (map (λ p. p.key) ps)
