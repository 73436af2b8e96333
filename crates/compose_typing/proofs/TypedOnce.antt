-- A key that is asked about is typed once.
use Rattle.std.proofs.Common.{◌≡◌, ℕ, suc, Bool, true, false, cond, refl, ap, sym, ◌∙◌, List, [], ◌∷◌, ◌++◌, length, map}
use Rattle.std.specs.Prelude.{Some}
use Rattle.std.proofs.lemmas.Bool.{eq-eqb}
use Rattle.std.proofs.Math.Dec.{eqb-suc-zero}
use Rattle.std.proofs.Math.Numerals.{sub-one}
use Rattle.keysym_core.specs.Names.{KeysymNames}
use Rattle.compose_model.specs.Table.{Definition}
use Rattle.compose_model.specs.Step.{pending, pending_from}
use Rattle.compose_model.specs.Session.{Session, rest, fed as session_fed}
use Rattle.compose_model.specs.declared.Status.{Status}
use Rattle.compose_model.proofs.Reached.{pending_reached}
use Rattle.compose_wire.specs.Messages.{Body, open_session, key, ask, ReplyBody, opened, fed, was_reset, refused, session_taken, no_session}
use Rattle.compose_typing.specs.declared.action.KeyVerdict.{KeyVerdict}
use Rattle.compose_typing.specs.declared.action.Action.TheVariants.{Wait, Send, Connect, Tell}
use Rattle.compose_typing.specs.declared.stage.Waiting.{Waiting}
use Rattle.compose_typing.specs.declared.stage.KeyAnswer.{KeyAnswer}
use Rattle.compose_typing.specs.declared.stage.Stage.{Stage}
use Rattle.compose_typing.specs.declared.stage.Stage.TheVariants.{Apart, Ready, Connecting, Opening, Feeding, Asking, Refreshing, Closing}
use Rattle.compose_typing.specs.TypingSession.{Client, Outcome, does, sent, asks, bodies_for, before_key, typed_anew, verdict_on, connected, answered, answered_at, fed_at, lost, lost_at, lost_with}
use Rattle.compose_typing.specs.Laws.{Event, connect, reply, lose, happens, after}
use Rattle.compose_typing.specs.Service.{answer_of, replies, typed, verdicts_in, verdicts_at, heard, moved, Types, session_for, key_at, is_fed, AskedOnce, LostOnce, ClosedOnce, PendingAgain}

-- at these events the client becomes this one, and reports these verdicts
pub record Goes (c : Client) (es : List Event) (end : Client) (verdicts : List KeyVerdict) : Type 0 where
  pub client : after c es ≡ end
  pub verdict_on : verdicts_at c es ≡ verdicts

happened : (c : Client) (e : Event) (o : Outcome) (es : List Event) (end : Client) (verdicts : List KeyVerdict) → happens c e ≡ o → Goes o.client es end verdicts
    → Goes c (e ∷ es) end (verdicts_in o.action ++ verdicts)
happened c e o es end verdicts h g = record {
  client = ap (λ (x : Outcome). after x.client es) h ∙ g.client;
  verdict_on = ap (λ (x : Outcome). verdicts_in x.action ++ verdicts_at x.client es) h ∙ ap (λ (v : List KeyVerdict). verdicts_in o.action ++ v) g.verdict_on;
}

pub heard_here : (c : Client) (a : ReplyBody) → answered c (record { session = c.session; answer = a }) ≡ answered_at c.stage c a
heard_here c a = rw (eq-eqb c.session c.session refl) refl

goes_on : (c : Client) (a : ReplyBody) (o : Outcome) (es : List Event) (end : Client) (verdicts : List KeyVerdict) → answered_at c.stage c a ≡ o → Goes o.client es end verdicts
    → Goes c (reply (record { session = c.session; answer = a }) ∷ es) end (verdicts_in o.action ++ verdicts)
goes_on c a o es end verdicts e g = happened c (reply (record { session = c.session; answer = a })) o es end verdicts (heard_here c a ∙ e) g

-- the client while it still has to skip this number of replies
abbrev pub feeding : Client → Waiting → ℕ → Client
feeding c w n = record c { is_stale = true; stage = Feeding w n }

pub fed_next : (c : Client) (w : Waiting) (n : ℕ) (status : Status) (accepted : Bool) (text : List ℕ)
    → fed_at (feeding c w (suc n)) w (suc n) (fed status accepted text) ≡ does (feeding c w n) Wait
fed_next c w n status accepted text = rw (eqb-suc-zero n) (rw (sub-one (suc n)) refl)

pub reset_next : (c : Client) (w : Waiting) (n : ℕ) → fed_at (feeding c w (suc n)) w (suc n) was_reset ≡ does (feeding c w n) Wait
reset_next c w n = rw (eqb-suc-zero n) (rw (sub-one (suc n)) refl)

-- the replies to keys that are typed again are skipped
passed_over : (names : KeysymNames) (table : List Definition) (ks : List ℕ) (c : Client) (w : Waiting) (s : Session) (bs : List Body) (end : Client) (verdicts : List KeyVerdict)
    → Goes (feeding c w 0) (replies names table c.session (typed table s ks) bs) end verdicts
    → Goes (feeding c w (length (map key ks))) (replies names table c.session s (map key ks ++ bs)) end verdicts
passed_over names table [] c w s bs end verdicts g = g
passed_over names table (k ∷ ks) c w s bs end verdicts g =
    let m : ℕ = length (map key ks) in
    let a : ReplyBody = answer_of names table s (key k) in
    goes_on (feeding c w (suc m)) a (does (feeding c w m) Wait) (replies names table c.session (session_fed table s k) (map key ks ++ bs)) end verdicts (fed_next c w m _ _ _)
    (passed_over names table ks c w (session_fed table s k) bs end verdicts g)

-- the key itself
key_verdict : (names : KeysymNames) (table : List Definition) (c : Client) (w : Waiting) (s : Session)
    → Goes (feeding c w 0) (replies names table c.session s (key w.key ∷ ask ∷ [])) (moved table c s w.key) (verdict_on w.key (heard names table s w.key) ∷ [])
key_verdict names table c w s =
    let h : KeyAnswer = heard names table s w.key in
    let asking : Client = record c { is_stale = true; stage = Asking w h } in
    let now : Session = session_fed table s w.key in
    goes_on (feeding c w 0) (answer_of names table s (key w.key)) (does asking Wait) (replies names table c.session now (ask ∷ [])) (moved table c s w.key) (verdict_on w.key h ∷ []) refl
    (goes_on asking (answer_of names table now ask) (does (moved table c s w.key) (Tell (verdict_on w.key h))) [] (moved table c s w.key) [] refl (record { client = refl; verdict_on = refl }))

asked_by : (names : KeysymNames) (table : List Definition) (c : Client) (w : Waiting) (s : Session) (stale : Bool) → c.is_stale ≡ stale
    → Goes (feeding c w (length (cond stale (typed_anew c.pending) []))) (replies names table c.session s (cond stale (typed_anew c.pending) [] ++ key w.key ∷ ask ∷ []))
    (moved table c (cond stale (typed table rest c.pending) s) w.key) (verdict_on w.key (heard names table (cond stale (typed table rest c.pending) s) w.key) ∷ [])
asked_by names table c w s false e = key_verdict names table c w s
asked_by names table c w s true e =
    let m : ℕ = length (map key c.pending) in
    let end : Session = typed table rest c.pending in
    goes_on (feeding c w (suc m)) was_reset (does (feeding c w m) Wait) (replies names table c.session rest (map key c.pending ++ key w.key ∷ ask ∷ [])) (moved table c end w.key)
    (verdict_on w.key (heard names table end w.key) ∷ []) (reset_next c w m)
    (passed_over names table c.pending c w rest (key w.key ∷ ask ∷ []) (moved table c end w.key) (verdict_on w.key (heard names table end w.key) ∷ []) (key_verdict names table c w end))

pub asked_once : AskedOnce
asked_once names table c w s =
    let g : Goes (feeding c w (length (before_key c))) (replies names table c.session s (bodies_for c w.key)) (moved table c (session_for table c s) w.key) (verdict_on w.key (heard names table (session_for table c s) w.key) ∷ [])
    = asked_by names table c w s c.is_stale refl in
    record { client = g.client; verdict = g.verdict_on }

lost_is : (c : Client) (s : Stage) (w : Waiting) → key_at s ≡ Some w → lost_at s c ≡ lost_with c w
lost_is c Apart w e = cc
lost_is c Ready w e = cc
lost_is c (Connecting v) w e = cc
lost_is c (Opening v) w e = cc
lost_is c (Feeding v n) w e = cc
lost_is c (Asking v h) w e = cc
lost_is c (Refreshing n) w e = cc
lost_is c Closing w e = cc

pub lost_once : LostOnce
lost_once names table c w n s is first was_open =
    let v : Waiting = record { key = w.key; is_again = true } in
    let connecting : Client = record c { is_stale = true; stage = Connecting v } in
    let opening : Client = record c { is_stale = true; stage = Opening v } in
    let end : Session = typed table rest c.pending in
    let verdicts : List KeyVerdict = verdict_on w.key (heard names table end w.key) ∷ [] in
    let lost_so : lost c ≡ does connecting Connect = lost_is c c.stage w is ∙ rw first refl in
    let opening_so : connected connecting n ≡ does opening (Send (sent c.session (open_session ∷ []))) = rw was_open refl in
    let opened_so : answered_at (Opening v) opening (refused session_taken) ≡ asks opening v = rw was_open refl in
    let last : Types names table (asks opening v).client (replies names table c.session s (bodies_for opening w.key)) end w.key = asked_once names table opening v s in
    let asked : List Event = replies names table c.session s (bodies_for opening w.key) in
    let taken : Event = reply (record { session = c.session; answer = refused session_taken }) in
    let g = happened c lose (does connecting Connect) (connect n ∷ taken ∷ asked) (moved table c end w.key) verdicts lost_so
    (happened connecting (connect n) (does opening (Send (sent c.session (open_session ∷ [])))) (taken ∷ asked) (moved table c end w.key) verdicts opening_so
    (goes_on opening (refused session_taken) (asks opening v) asked (moved table c end w.key) verdicts opened_so (record { client = last.client; verdict_on = last.verdict }))) in
    record { client = g.client; verdict = g.verdict_on }

closed_is : (c : Client) (s : Stage) (w : Waiting) → key_at s ≡ Some w → is_fed s ≡ true → answered_at s c (refused no_session) ≡ lost_with c w
closed_is c Apart w e f = cc
closed_is c Ready w e f = cc
closed_is c (Connecting v) w e f = cc
closed_is c (Opening v) w e f = cc
closed_is c (Feeding v n) w e f = cc
closed_is c (Asking v h) w e f = cc
closed_is c (Refreshing n) w e f = cc
closed_is c Closing w e f = cc

pub closed_once : ClosedOnce
closed_once names table c w n is waits_for_it first was_open =
    let v : Waiting = record { key = w.key; is_again = true } in
    let connecting : Client = record c { is_stale = true; stage = Connecting v } in
    let opening : Client = record c { is_stale = true; stage = Opening v } in
    let end : Session = typed table rest c.pending in
    let verdicts : List KeyVerdict = verdict_on w.key (heard names table end w.key) ∷ [] in
    let closed_so : answered_at c.stage c (refused no_session) ≡ does connecting Connect = closed_is c c.stage w is waits_for_it ∙ rw first refl in
    let opening_so : connected connecting n ≡ does opening (Send (sent c.session (open_session ∷ []))) = rw was_open refl in
    let same : record opening { is_opened = true; is_stale = true } ≡ opening = λ i. record opening { is_opened = sym was_open i } in
    let opened_so : answered_at (Opening v) opening opened ≡ asks opening v = ap (λ (x : Client). asks x v) same in
    let last : Types names table (asks opening v).client (replies names table c.session rest (bodies_for opening w.key)) end w.key = asked_once names table opening v rest in
    let asked : List Event = replies names table c.session rest (bodies_for opening w.key) in
    let answer : Event = reply (record { session = c.session; answer = opened }) in
    let g = goes_on c (refused no_session) (does connecting Connect) (connect n ∷ answer ∷ asked) (moved table c end w.key) verdicts closed_so
    (happened connecting (connect n) (does opening (Send (sent c.session (open_session ∷ [])))) (answer ∷ asked) (moved table c end w.key) verdicts opening_so
    (goes_on opening opened (asks opening v) asked (moved table c end w.key) verdicts opened_so (record { client = last.client; verdict_on = last.verdict }))) in
    record { client = g.client; verdict = g.verdict_on }

typed_pending : (table : List Definition) (s : Session) (ks : List ℕ) → (typed table s ks).pending ≡ pending_from table s.pending ks
typed_pending table s [] = refl
typed_pending table s (k ∷ ks) = typed_pending table (session_fed table s k) ks

pub pending_again : PendingAgain
pending_again table keys = typed_pending table rest (pending table keys) ∙ (pending_reached table keys).again
