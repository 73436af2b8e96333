-- The verdicts of a client are those of the table's run, whichever connections are lost.
use Rattle.std.proofs.Common.{◌≡◌, ℕ, zero, suc, ◌+◌, ◌<◌, Bool, true, false, cond, refl, ap, sym, ◌∙◌, List, [], ◌∷◌, ◌++◌, length, map, take, append_assoc, length-append, arith}
use Rattle.std.specs.Prelude.{Option, Some, None}
use Rattle.keysym_core.specs.Keysym.{is_ignored}
use Rattle.keysym_core.specs.Names.{KeysymNames}
use Rattle.compose_model.specs.Table.{Definition, is_extended, is_sequence}
use Rattle.compose_model.specs.Step.{effect, step, is_empty, pending, pending_after}
use Rattle.compose_model.specs.Session.{Session, rest, fed as session_fed}
use Rattle.compose_model.proofs.Steps.{pending_from-append}
use Rattle.compose_wire.specs.Messages.{key, ask, ReplyBody, was_reset}
use Rattle.compose_typing.specs.declared.action.KeyVerdict.{KeyVerdict}
use Rattle.compose_typing.specs.declared.action.Action.TheVariants.{Wait}
use Rattle.compose_typing.specs.declared.stage.Waiting.{Waiting}
use Rattle.compose_typing.specs.declared.stage.KeyAnswer.{KeyAnswer}
use Rattle.compose_typing.specs.declared.stage.Stage.{Stage}
use Rattle.compose_typing.specs.declared.stage.Stage.TheVariants.{Ready, Feeding, Asking}
use Rattle.compose_typing.specs.TypingSession.{Client, Outcome, does, asks, bodies_for, typed_anew, verdict_on, answered, answered_at}
use Rattle.compose_typing.specs.Laws.{Event, press, reply, happens, after}
use Rattle.compose_typing.specs.Service.{answer_of, replies, typed, verdicts_in, verdicts_at, heard, moved, Types, session_for, key_at, reconnected}
use Rattle.compose_typing.specs.Runs.{effect_verdict, run_verdicts, Loss, Press, key_events, key_session, IsInTime, all_events, IsReady, TypesRun}
use Rattle.compose_typing.proofs.TypedOnce.{feeding, heard_here, fed_next, reset_next, asked_once, lost_once, pending_again}

-- ---- one key

-- the verdict on a key depends only on its effect
heard_verdict : (names : KeysymNames) (table : List Definition) (s : Session) (k : ℕ) (i e q m : Bool) → is_ignored k ≡ i → is_extended table (s.pending ++ k ∷ []) ≡ e
    → is_sequence table (s.pending ++ k ∷ []) ≡ q → is_empty s.pending ≡ m
    → verdict_on k (heard names table s k) ≡ effect_verdict (effect table s.pending k) k (step names table s.pending k).text
heard_verdict names table s k true e q m hi he hq hm = rw hi refl
heard_verdict names table s k false true q m hi he hq hm = rw hi (rw he refl)
heard_verdict names table s k false false true m hi he hq hm = rw hi (rw he (rw hq refl))
heard_verdict names table s k false false false true hi he hq hm = rw hi (rw he (rw hq (rw hm refl)))
heard_verdict names table s k false false false false hi he hq hm = rw hi (rw he (rw hq (rw hm refl)))

-- ---- events in a row

after_append : (c : Client) (xs ys : List Event) → after c (xs ++ ys) ≡ after (after c xs) ys
after_append c [] ys = refl
after_append c (x ∷ xs) ys = after_append (happens c x).client xs ys

verdicts_append : (c : Client) (xs ys : List Event) → verdicts_at c (xs ++ ys) ≡ verdicts_at c xs ++ verdicts_at (after c xs) ys
verdicts_append c [] ys = refl
verdicts_append c (x ∷ xs) ys =
    ap (λ (v : List KeyVerdict). verdicts_in (happens c x).action ++ v) (verdicts_append (happens c x).client xs ys)
    ∙ sym (append_assoc (verdicts_in (happens c x).action) (verdicts_at (happens c x).client xs) (verdicts_at (after (happens c x).client xs) ys))

-- ---- replies that were read before a connection was lost

-- after these events there is no verdict yet, and the key still waits for a reply
record StillWaits (d c : Client) (w : Waiting) (es : List Event) : Type 0 where
  stage : Stage
  at : key_at stage ≡ Some w
  client : after d es ≡ record c { is_stale = true; stage = stage }
  quiet : verdicts_at d es ≡ []

next : (c d : Client) (w : Waiting) (a : ReplyBody) (o : Client) (es : List Event) → answered_at d.stage d a ≡ does o Wait → d.session ≡ c.session → StillWaits o c w es
    → StillWaits d c w (reply (record { session = c.session; answer = a }) ∷ es)
next c d w a o es e same g =
    let h : answered d (record { session = c.session; answer = a }) ≡ does o Wait = rw (sym same) (heard_here d a ∙ e) in record {
      stage = g.stage;
      at = g.at;
      client = ap (λ (x : Outcome). after x.client es) h ∙ g.client;
      quiet = ap (λ (x : Outcome). verdicts_in x.action ++ verdicts_at x.client es) h ∙ g.quiet;
    }

keys_read : (names : KeysymNames) (table : List Definition) (ks : List ℕ) (c : Client) (w : Waiting) (s : Session) (j : ℕ) → j < length (map key ks) + 2
    → StillWaits (feeding c w (length (map key ks))) c w (take j (replies names table c.session s (map key ks ++ key w.key ∷ ask ∷ [])))
keys_read names table ks c w s zero h = record { stage = Feeding w (length (map key ks)); at = refl; client = refl; quiet = refl }
keys_read names table [] c w s (suc zero) h =
    let heard_so : KeyAnswer = heard names table s w.key in
    let asking : Client = record c { is_stale = true; stage = Asking w heard_so } in
    next c (feeding c w 0) w (answer_of names table s (key w.key)) asking [] refl refl (record { stage = Asking w heard_so; at = refl; client = refl; quiet = refl })
keys_read names table [] c w s (suc (suc j)) h = absurd (omega (arith, h))
keys_read names table (k ∷ ks) c w s (suc j) h =
    let fewer : j < length (map key ks) + 2 = omega (arith, h) in
    next c (feeding c w (suc (length (map key ks)))) w (answer_of names table s (key k)) (feeding c w (length (map key ks)))
    (take j (replies names table c.session (session_fed table s k) (map key ks ++ key w.key ∷ ask ∷ []))) (fed_next c w (length (map key ks)) _ _ _) refl
    (keys_read names table ks c w (session_fed table s k) j fewer)

all_read : (names : KeysymNames) (table : List Definition) (c : Client) (w : Waiting) (s : Session) (j : ℕ) (stale : Bool) → c.is_stale ≡ stale
    → j < length (cond stale (typed_anew c.pending) [] ++ key w.key ∷ ask ∷ [])
    → StillWaits (feeding c w (length (cond stale (typed_anew c.pending) []))) c w
    (take j (replies names table c.session s (cond stale (typed_anew c.pending) [] ++ key w.key ∷ ask ∷ [])))
all_read names table c w s j false e h = keys_read names table [] c w s j (omega (arith, h))
all_read names table c w s zero true e h = record { stage = Feeding w (length (typed_anew c.pending)); at = refl; client = refl; quiet = refl }
all_read names table c w s (suc j) true e h =
    let fewer : j < length (map key c.pending) + 2 = omega (arith, h, length-append (map key c.pending) (key w.key ∷ ask ∷ [])) in
    next c (feeding c w (suc (length (map key c.pending)))) w was_reset (feeding c w (length (map key c.pending)))
    (take j (replies names table c.session rest (map key c.pending ++ key w.key ∷ ask ∷ []))) (reset_next c w (length (map key c.pending))) refl
    (keys_read names table c.pending c w rest j fewer)

-- ---- a key with its loss

key_typed : (names : KeysymNames) (table : List Definition) (c : Client) (s : Session) (k : ℕ) (loss : Option Loss) → c.stage ≡ Ready → c.is_opened ≡ true → IsInTime c k loss
    → Types names table c (key_events names table c s k loss) (key_session table c s loss) k
key_typed names table c s k None ready opened h =
    let w : Waiting = record { key = k; is_again = false } in
    let rs : List Event = replies names table c.session s (bodies_for c k) in
    let pressed_so : happens c (press k) ≡ asks c w = rw ready refl in
    let t : Types names table (asks c w).client rs (session_for table c s) k = asked_once names table c w s in record {
      client = ap (λ (x : Outcome). after x.client rs) pressed_so ∙ t.client;
      verdict = ap (λ (x : Outcome). verdicts_in x.action ++ verdicts_at x.client rs) pressed_so ∙ t.verdict;
    }
key_typed names table c s k (Some l) ready opened h =
    let w : Waiting = record { key = k; is_again = false } in
    let rs : List Event = take l.read (replies names table c.session s (bodies_for c k)) in
    let later : List Event = reconnected names table c l.number l.left k in
    let pressed_so : happens c (press k) ≡ asks c w = rw ready refl in
    let d : Client = (asks c w).client in
    let read : StillWaits d c w rs = all_read names table c w s l.read c.is_stale refl h in
    let there : Client = record c { is_stale = true; stage = read.stage } in
    let t : Types names table there later (typed table rest c.pending) k = lost_once names table there w l.number l.left read.at refl opened in record {
      client = ap (λ (x : Outcome). after x.client (rs ++ later)) pressed_so ∙ after_append d rs later ∙ ap (λ (x : Client). after x later) read.client ∙ t.client;
      verdict = ap (λ (x : Outcome). verdicts_in x.action ++ verdicts_at x.client (rs ++ later)) pressed_so ∙ verdicts_append d rs later
          ∙ ap (λ (v : List KeyVerdict). v ++ verdicts_at (after d rs) later) read.quiet ∙ ap (λ (x : Client). verdicts_at x later) read.client ∙ t.verdict;
    }

-- ---- all keys

-- the key is typed where the client's keys are pending
session_pending : (table : List Definition) (c : Client) (s : Session) (loss : Option Loss) (stale : Bool) → c.is_stale ≡ stale → IsReady table c s
    → (key_session table c s loss).pending ≡ c.pending
session_pending table c s (Some l) stale e r =
    let again : (typed table rest (pending table r.keys)).pending ≡ pending table r.keys = pending_again table r.keys in
    ap (λ (u : List ℕ). (typed table rest u).pending) r.reached ∙ again ∙ sym r.reached
session_pending table c s None true e r =
    let again : (typed table rest (pending table r.keys)).pending ≡ pending table r.keys = pending_again table r.keys in
    rw e (ap (λ (u : List ℕ). (typed table rest u).pending) r.reached ∙ again ∙ sym r.reached)
session_pending table c s None false e r = rw e (r.same e)

still_ready : (table : List Definition) (c : Client) (s at : Session) (k : ℕ) → IsReady table c s → at.pending ≡ c.pending → IsReady table (moved table c at k) (session_fed table at k)
still_ready table c s at k r e = record {
  stage = refl;
  opened = r.opened;
  keys = r.keys ++ k ∷ [];
  reached = ap (λ (u : List ℕ). pending_after table u k) (e ∙ r.reached) ∙ sym (pending_from-append table [] r.keys (k ∷ []));
  same = λ h. refl;
}

pub types_run : TypesRun
types_run names table c s [] r t = refl
types_run names table c s (p ∷ ps) r t =
    let at : Session = key_session table c s p.loss in
    let e : at.pending ≡ c.pending = session_pending table c s p.loss c.is_stale refl r in
    let one : Types names table c (key_events names table c s p.key p.loss) at p.key = key_typed names table c s p.key p.loss r.stage r.opened t.0 in
    let now : Client = moved table c at p.key in
    let then_s : Session = session_fed table at p.key in
    let more : List Event = all_events names table now then_s ps in
    let rest_is = types_run names table now then_s ps (still_ready table c s at p.key r e) t.1 in
    let here : verdict_on p.key (heard names table at p.key) ≡ effect_verdict (effect table c.pending p.key) p.key (step names table c.pending p.key).text =
    heard_verdict names table at p.key (is_ignored p.key) (is_extended table (at.pending ++ p.key ∷ [])) (is_sequence table (at.pending ++ p.key ∷ [])) (is_empty at.pending) refl refl refl refl
    ∙ ap (λ (u : List ℕ). effect_verdict (effect table u p.key) p.key (step names table u p.key).text) e in
    verdicts_append c (key_events names table c s p.key p.loss) more ∙ ap (λ (v : List KeyVerdict). v ++ verdicts_at (after c (key_events names table c s p.key p.loss)) more) one.verdict
    ∙ ap (λ (x : Client). (verdict_on p.key (heard names table at p.key) ∷ []) ++ verdicts_at x more) one.client
    ∙ ap (λ (v : KeyVerdict). v ∷ verdicts_at now more) here
    ∙ ap (λ (vs : List KeyVerdict). effect_verdict (effect table c.pending p.key) p.key (step names table c.pending p.key).text ∷ vs)
    (rest_is ∙ ap (λ (u : List ℕ). run_verdicts names table (pending_after table u p.key) (map (λ (q : Press). q.key) ps)) e)
