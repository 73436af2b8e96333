-- What is typed while tables are loaded and connections are lost.
use Rattle.std.proofs.Common.{◌≡◌, ◌≢◌, ℕ, suc, ◌+◌, Bool, true, false, cond, not, refl, ap, sym, ◌∙◌, subst, List, [], ◌∷◌, ◌++◌, length, map, append_assoc, append-nil}
use Rattle.std.specs.Prelude.{Option, Some, None, option_map}
use Rattle.std.proofs.lemmas.Bool.{and_parts, and_from, not-true, not_from_false}
use Rattle.keysym_core.specs.Keysym.{is_ignored}
use Rattle.keysym_core.specs.Names.{KeysymNames, text}
use Rattle.compose_model.specs.Table.{Definition, has_key, avoids, is_extended, is_sequence}
use Rattle.compose_model.specs.Step.{Effect, ignores, extends, completes, passes, cancels, effect, is_cancel, is_empty, step, pending_by, pending_after, pending_from, pending, uncancelled, uncancelled_from}
use Rattle.compose_model.specs.Session.{Session, rest, fed as session_fed, loaded as session_loaded}
use Rattle.compose_model.specs.Follows.{Agrees, AgreeAlong, Follows}
use Rattle.compose_model.proofs.Steps.{no_cancel, uncancelled_head, uncancelled_rest}
use Rattle.compose_model.proofs.NodeLemmas.{same_from}
use Rattle.compose_model.proofs.Avoids.{avoids_both}
use Rattle.compose_model.proofs.Chain.{joined_along, still_uncancelled, refeed}
use Rattle.compose_model.proofs.Reached.{IsReached, root_reached, reached_step, pending_reached, uncancelled_from-append, agree-append}
use Rattle.compose_model.proofs.InStep.{InStep, step_in_step}
use Rattle.compose_wire.specs.Messages.{Body, open_session, key, reset, close, load, ask, ReplyBody, opened, was_reset, state, refused, session_taken, no_session}
use Rattle.compose_typing.specs.declared.action.KeyVerdict.TheVariants.{Pass, Take}
use Rattle.compose_typing.specs.declared.action.Action.TheVariants.{Wait, Send}
use Rattle.compose_typing.specs.declared.stage.Waiting.{Waiting}
use Rattle.compose_typing.specs.declared.stage.KeyAnswer.{KeyAnswer}
use Rattle.compose_typing.specs.declared.stage.Stage.{Stage}
use Rattle.compose_typing.specs.declared.stage.Stage.TheVariants.{Apart, Ready, Connecting, Opening, Feeding, Asking}
use Rattle.compose_typing.specs.TypingSession.{Client, Outcome, does, sent, typed_anew, bodies_for, asks, opened_at, lost_with, begins_sequences, verdict_at_rest, verdict_on, asked_at, answered_at, is_cancelled}
use Rattle.compose_typing.specs.Laws.{reply, happens}
use Rattle.compose_typing.specs.Service.{answer_of, heard}
use Rattle.compose_typing.specs.Loads.{Link, none, wanted, stands, World, Incident, pressed, connected, answered, lost, timed_out, closed, loaded, own_text, verdict_text, KeyText, waiting_keys, unanswered, acts, at_incident, world_after, texts_in, key_in, keys_in, IsIdleAt, IsIdleWorld, LoadsFollow, run_texts, run_goes_on, is_quiet, TypesOpening}
use Rattle.compose_typing.proofs.TypedOnce.{heard_here, fed_next, reset_next}

-- ---- keys that are not fresh

-- the pending keys stay without fresh ones at a key that is not fresh
absent_step : (fresh : List ℕ) (table : List Definition) (v : List ℕ) (k : ℕ) → avoids fresh v ≡ true → has_key fresh k ≡ false → avoids fresh (pending_after table v k) ≡ true
absent_step fresh table v k a f = go (effect table v k)
  where
    go : (x : Effect) → avoids fresh (pending_by x v k) ≡ true
    go ignores = a
    go extends = avoids_both fresh v (k ∷ []) a (and_from (not (has_key fresh k)) true (not_from_false (has_key fresh k) f) refl)
    go completes = refl
    go passes = refl
    go cancels = refl

absent_from : (fresh : List ℕ) (table : List Definition) (v w : List ℕ) → avoids fresh v ≡ true → avoids fresh w ≡ true → avoids fresh (pending_from table v w) ≡ true
absent_from fresh table v [] a b = a
absent_from fresh table v (k ∷ w) a b =
    let parts = and_parts (not (has_key fresh k)) (avoids fresh w) b in
    absent_from fresh table (pending_after table v k) w (absent_step fresh table v k a (not-true (has_key fresh k) parts.0)) parts.1

-- the first part of a list without fresh keys, and the rest
absent_parts : (fresh v w : List ℕ) → avoids fresh (v ++ w) ≡ true → (avoids fresh v ≡ true) × (avoids fresh w ≡ true)
absent_parts fresh [] w a = (refl, a)
absent_parts fresh (k ∷ v) w a =
    let parts = and_parts (not (has_key fresh k)) (avoids fresh (v ++ w)) a in
    let more = absent_parts fresh v w parts.1 in
    (and_from (not (has_key fresh k)) (avoids fresh v) parts.0 more.0, more.1)

-- ---- tables that agree

-- after a load the new table agrees with the old one from what is pending on, if no pending key is
-- fresh
agrees_from : (names : KeysymNames) (fresh : List ℕ) (old new : List Definition) (v w : List ℕ) → Follows names fresh old new → IsReached old v → avoids fresh v ≡ true → avoids fresh w ≡ true
    → uncancelled_from old v w ≡ true → AgreeAlong names old new v (pending new v) w
agrees_from names fresh old new v w f r av aw h =
    let all =
    f (v ++ w) (avoids_both fresh v w av aw)
    (uncancelled_from-append old [] v w ∙ and_from (uncancelled old v) (uncancelled_from old (pending old v) w) r.goes_on (ap (λ y. uncancelled_from old y w) r.again ∙ h)) in
    subst (λ (y : List ℕ). AgreeAlong names old new y (pending new v) w) r.again (agree-append names old new [] [] v w all).1

-- every table agrees with itself
alike : (names : KeysymNames) (table : List Definition) (u w : List ℕ) → uncancelled_from table u w ≡ true → AgreeAlong names table table u u w
alike names table u [] h = tt
alike names table u (k ∷ w) h = (
  record { not_cancelled = uncancelled_head table u k w h; same_text = refl; nothing_pending = λ e. e },
  alike names table (pending_after table u k) w (uncancelled_rest table u k w h),
)

-- ---- the text of a verdict

own_ignored : (names : KeysymNames) (k : ℕ) → is_ignored k ≡ true → own_text names k ≡ []
own_ignored names k i = ap (λ b. cond b [] (text names k)) i

own_typed : (names : KeysymNames) (k : ℕ) → is_ignored k ≡ false → own_text names k ≡ text names k
own_typed names k i = ap (λ b. cond b [] (text names k)) i

taken_or_passed : (names : KeysymNames) (k : ℕ) (b : Bool) → own_text names k ≡ [] → verdict_text names k (cond b Take Pass) ≡ []
taken_or_passed names k true e = refl
taken_or_passed names k false e = e

-- a key at rest types its own text, also if it is taken because it would begin a sequence
text_at_rest : (names : KeysymNames) (k : ℕ) (t : List ℕ) → own_text names k ≡ t → verdict_text names k (verdict_at_rest k t) ≡ t
text_at_rest names k [] e = taken_or_passed names k (begins_sequences k) e
text_at_rest names k (byte ∷ t) e = e

heard_by : (names : KeysymNames) (table : List Definition) (s : Session) (k : ℕ) (i e q m : Bool) → is_ignored k ≡ i → is_extended table (s.pending ++ k ∷ []) ≡ e
    → is_sequence table (s.pending ++ k ∷ []) ≡ q → is_empty s.pending ≡ m
    → verdict_text names k (verdict_on k (heard names table s k)) ≡ (step names table s.pending k).text
heard_by names table s k true e q m hi he hq hm = let own = own_ignored names k hi in rw hi own
heard_by names table s k false true q m hi he hq hm = rw hi (rw he refl)
heard_by names table s k false false true m hi he hq hm = rw hi (rw he (rw hq refl))
heard_by names table s k false false false true hi he hq hm =
    let own = text_at_rest names k (text names k) (own_typed names k hi) in
    rw hi (rw he (rw hq (rw hm own)))
heard_by names table s k false false false false hi he hq hm = rw hi (rw he (rw hq (rw hm refl)))

-- the text of the verdict on a key is that of its step in the session
heard_text : (names : KeysymNames) (table : List Definition) (s : Session) (k : ℕ) → verdict_text names k (verdict_on k (heard names table s k)) ≡ (step names table s.pending k).text
heard_text names table s k =
    heard_by names table s k (is_ignored k) (is_extended table (s.pending ++ k ∷ [])) (is_sequence table (s.pending ++ k ∷ [])) (is_empty s.pending) refl refl refl refl

map-append : {X Y : Type 0} (f : X → Y) (xs ys : List X) → map f (xs ++ ys) ≡ map f xs ++ map f ys
map-append f [] ys = refl
map-append f (x ∷ xs) ys = ap (λ r. f x ∷ r) (map-append f xs ys)

-- ---- worlds

abbrev client_of : ℕ → Bool → List ℕ → Bool → Stage → Client
client_of n is_opened pending is_stale stage = record { session = n; is_opened = is_opened; pending = pending; is_stale = is_stale; stage = stage }

-- a client that opened its session, while a key waits
abbrev busy : ℕ → List ℕ → Stage → Client
busy n p stage = client_of n true p true stage

abbrev world_of : Client → Link → List Definition → Option Session → ℕ → World
world_of c link table session losses = record { client = c; link = link; table = table; session = session; losses = losses }

abbrev waits_for : ℕ → Bool → Waiting
waits_for k again = record { key = k; is_again = again }

-- how often the connection of the key that waits was lost
abbrev lost_before : Bool → ℕ
lost_before false = 0
lost_before true = 1

-- the table after an incident
abbrev table_after : List Definition → Incident → List Definition
table_after table (loaded new) = new
table_after table _ = table

-- a request that is refused if the session is not open
abbrev IsShut : Body → Type 0
IsShut open_session = ⊥
IsShut _ = Unit {0}

abbrev IsGood : KeysymNames → List ℕ → List Definition → Incident → Type 0
IsGood names fresh table (loaded new) = Follows names fresh table new
IsGood names fresh table _ = Unit {0}

module _ (names : KeysymNames) (fresh : List ℕ) (first : List Definition) where
  -- with u pending in the first table and v in the current one, these keys can be typed in the
  -- current one, and lead to where the tables agree
  record Leads (u : List ℕ) (table : List Definition) (v more : List ℕ) : Type 0 where
    reached : IsReached table v
    absent : avoids fresh v ≡ true
    more_absent : avoids fresh more ≡ true
    goes_on : uncancelled_from table v more ≡ true
    in_step : InStep names fresh first table u (pending_from table v more)

  -- a load
  load_leads : (u : List ℕ) (old new : List Definition) (v more : List ℕ) → Leads u old v more → Follows names fresh old new → Leads u new (pending new v) more
  load_leads u old new v more l f =
      let agree : (z : List ℕ) → avoids fresh z ≡ true → uncancelled_from old (pending_from old v more) z ≡ true → AgreeAlong names old new v (pending new v) (more ++ z) =
      λ z a h.
      agrees_from names fresh old new v (more ++ z) f l.reached l.absent (avoids_both fresh more z l.more_absent a)
      (uncancelled_from-append old v more z ∙ and_from (uncancelled_from old v more) (uncancelled_from old (pending_from old v more) z) l.goes_on h) in
      record {
        reached = pending_reached new v;
        absent = absent_from fresh new [] v refl l.absent;
        more_absent = l.more_absent;
        goes_on = still_uncancelled names old new v (pending new v) more (agree-append names old new v (pending new v) more [] (agree [] refl refl)).0;
        in_step = λ z a h.
            let before = l.in_step z a h in
            joined_along names first old new u (pending_from old v more) (pending_from new (pending new v) more) z before
            (agree-append names old new v (pending new v) more z (agree z a (still_uncancelled names first old u (pending_from old v more) z before))).1;
      }

  -- the first of the keys
  key_leads : (u : List ℕ) (table : List Definition) (v : List ℕ) (k : ℕ) (more : List ℕ) → Leads u table v (k ∷ more) → Leads u table (pending_after table v k) more
  key_leads u table v k more l =
      let parts = and_parts (not (has_key fresh k)) (avoids fresh more) l.more_absent in
      record {
        reached = reached_step table v k l.reached;
        absent = absent_step fresh table v k l.absent (not-true (has_key fresh k) parts.0);
        more_absent = parts.1;
        goes_on = uncancelled_rest table v k more l.goes_on;
        in_step = l.in_step;
      }

  -- what is pending can be typed again from rest
  anew_leads : (u : List ℕ) (table : List Definition) (v : List ℕ) → Leads u table v [] → Leads u table [] v
  anew_leads u table v l = record {
    reached = root_reached table;
    absent = refl;
    more_absent = l.absent;
    goes_on = l.reached.goes_on;
    in_step = subst (λ (y : List ℕ). InStep names fresh first table u y) (sym l.reached.again) l.in_step;
  }

  -- and then it is pending
  there_leads : (u : List ℕ) (table : List Definition) (p : List ℕ) → Leads u table [] p → Leads u table (pending table p) []
  there_leads u table p l = record { reached = pending_reached table p; absent = absent_from fresh table [] p refl l.more_absent; more_absent = refl; goes_on = refl; in_step = l.in_step }

  -- a key that is not fresh, and that the first table does not cancel
  typed_leads : (u : List ℕ) (table : List Definition) (v : List ℕ) (k : ℕ) → Leads u table v [] → has_key fresh k ≡ false → effect first u k ≢ cancels
      → Agrees (step names first u k) (step names table v k) × Leads (pending_after first u k) table (pending_after table v k) []
  typed_leads u table v k l f n =
      let now = step_in_step names fresh first table u v k l.in_step f n in (
        now.0,
        record { reached = reached_step table v k l.reached; absent = absent_step fresh table v k l.absent f; more_absent = refl; goes_on = refl; in_step = now.1 },
      )

  -- ---- the shapes of a world

  -- the current table agrees with the first one from rest, and the pending keys lead to where they
  -- agree
  record Base (u : List ℕ) (table : List Definition) (p : List ℕ) : Type 0 where
    anew : Leads [] table [] []
    again : Leads u table [] p

  load_base : (u : List ℕ) (old new : List Definition) (p : List ℕ) → Base u old p → Follows names fresh old new → Base u new p
  load_base u old new p b f = record { anew = load_leads [] old new [] [] b.anew f; again = load_leads u old new [] p b.again f }

  -- with u pending in the first table
  data Shape (u : List ℕ) : World → Type 0 where
    apart : (n : ℕ) (o : Bool) (p : List ℕ) (table : List Definition) (session : Option Session) (losses : ℕ) → Base u table p
        → Shape u (world_of (client_of n o p true Apart) none table session losses)
    between : (n : ℕ) (p : List ℕ) (stale : Bool) (table : List Definition) (session : Option Session) (losses : ℕ) → Base u table p
        → ((s : Session) → session ≡ Some s → stale ≡ false → s.pending ≡ pending table p) → Shape u (world_of (client_of n true p stale Ready) (stands []) table session losses)
    connecting : (n : ℕ) (o : Bool) (p : List ℕ) (table : List Definition) (session : Option Session) (k : ℕ) (again : Bool) → Base u table p → has_key fresh k ≡ false
        → Shape u (world_of (client_of n o p true (Connecting (waits_for k again))) wanted table session (lost_before again))
    opening : (n : ℕ) (p : List ℕ) (table : List Definition) (session : Option Session) (k : ℕ) (again : Bool) → Base u table p → has_key fresh k ≡ false
        → Shape u (world_of (busy n p (Opening (waits_for k again))) (stands (open_session ∷ [])) table session (lost_before again))
    opening_first : (n : ℕ) (p : List ℕ) (table : List Definition) (k : ℕ) (again : Bool) → Base u table p → has_key fresh k ≡ false
        → Shape u (world_of (client_of n false p true (Opening (waits_for k again))) (stands (open_session ∷ [])) table None (lost_before again))
    resetting : (n : ℕ) (p : List ℕ) (table : List Definition) (s : Session) (k : ℕ) (again : Bool) → Base u table p → has_key fresh k ≡ false
        → Shape u
        (world_of (busy n p (Feeding (waits_for k again) (suc (length (map key p))))) (stands (reset ∷ map key p ++ key k ∷ ask ∷ [])) table (Some s) (lost_before again))
    feeding : (n : ℕ) (p : List ℕ) (table : List Definition) (s : Session) (k : ℕ) (again : Bool) (more : List ℕ) → Base u table p → has_key fresh k ≡ false → Leads u table s.pending more
        → Shape u (world_of (busy n p (Feeding (waits_for k again) (length (map key more)))) (stands (map key more ++ key k ∷ ask ∷ [])) table (Some s) (lost_before again))
    asking : (n : ℕ) (p : List ℕ) (table : List Definition) (s : Session) (k : ℕ) (again : Bool) (h : KeyAnswer) → Base u table p → has_key fresh k ≡ false
        → (effect first u k ≢ cancels → (verdict_text names k (verdict_on k h) ≡ (step names first u k).text) × Leads (pending_after first u k) table s.pending [])
        → Shape u (world_of (busy n p (Asking (waits_for k again) h)) (stands (ask ∷ [])) table (Some s) (lost_before again))
    -- another client closed the session
    shut_feeding : (n : ℕ) (p : List ℕ) (table : List Definition) (k : ℕ) (again : Bool) (m : ℕ) (r : Body) (rs : List Body) → Base u table p → has_key fresh k ≡ false → IsShut r
        → Shape u (world_of (busy n p (Feeding (waits_for k again) m)) (stands (r ∷ rs)) table None (lost_before again))
    shut_asking : (n : ℕ) (p : List ℕ) (table : List Definition) (k : ℕ) (again : Bool) (h : KeyAnswer) → Base u table p → has_key fresh k ≡ false
        → Shape u (world_of (busy n p (Asking (waits_for k again) h)) (stands (ask ∷ [])) table None (lost_before again))

  -- ---- what is typed

  -- what a key with its text leads to
  abbrev Gives : Bool → List ℕ → ℕ → List ℕ → (List ℕ → Type 0) → Type 0
  Gives true u k t next = (t ≡ own_text names k) × next []
  Gives false u k t next = effect first u k ≢ cancels → (t ≡ (step names first u k).text) × next (pending_after first u k)

  abbrev Carries : List ℕ → List KeyText → World → Type 0
  Carries u [] w = Shape u w
  Carries u (y ∷ ys) w = Gives y.is_lost u y.key y.text (λ v. Carries v ys w)

  -- the world after an incident and what is typed at it
  record Fine (u ks : List ℕ) (table : List Definition) (r : World × List KeyText) : Type 0 where
    carries : Carries u r.1 r.0
    keys : map (λ y. y.key) r.1 ++ waiting_keys r.0.client.stage ≡ ks
    table_is : r.0.table ≡ table

  not_fresh : (k : ℕ) → avoids fresh (k ∷ []) ≡ true → has_key fresh k ≡ false
  not_fresh k a = not-true (has_key fresh k) (and_parts (not (has_key fresh k)) true a).0

  -- nothing is pending any more
  dropped : (u : List ℕ) (table : List Definition) (p : List ℕ) → Base u table p → Base [] table []
  dropped u table p b = record { anew = b.anew; again = b.anew }

  -- the bytes of these requests are sent
  sends : (u ks : List ℕ) (table : List Definition) (w : World) (c : Client) (k : ℕ) (rs : List Body) → Fine u ks table (record w { client = c; link = stands (unanswered w.link ++ rs) }, [])
      → Fine u ks table (acts names w (does c (Send (sent c.session rs))) (k ∷ []) rs)
  sends u ks table w c k rs g =
      subst (λ (b : Bool). Fine u ks table (record w { client = c; link = cond b (stands (unanswered w.link ++ rs)) none }, []))
      (sym (same_from (sent c.session rs) (sent c.session rs) refl)) g

  -- ---- each incident

  on_press : (u : List ℕ) (w : World) (k : ℕ) → Shape u w → avoids fresh (key_in w (pressed k)) ≡ true
      → Fine u (waiting_keys w.client.stage ++ key_in w (pressed k)) w.table (at_incident names w (pressed k))
  on_press u w k (apart n o p table session losses b) a = record { carries = connecting n o p table session k false b (not_fresh k a); keys = refl; table_is = refl }
  on_press u w k (between n p stale table session losses b e) a =
      let c = client_of n true p stale Ready in
      sends u (k ∷ []) table (world_of c (stands []) table session 0) (asks c (waits_for k false)).client k (bodies_for c k)
      (record { carries = go stale session e; keys = refl; table_is = refl })
    where
      f : has_key fresh k ≡ false
      f = not_fresh k a

      go : (x : Bool) (y : Option Session) → ((s : Session) → y ≡ Some s → x ≡ false → s.pending ≡ pending table p)
          → Shape u (world_of (asks (client_of n true p x Ready) (waits_for k false)).client (stands (bodies_for (client_of n true p x Ready) k)) table y 0)
      go true (Some s) e = resetting n p table s k false b f
      go false (Some s) e = feeding n p table s k false [] b f (subst (λ (y : List ℕ). Leads u table y []) (sym (e s refl refl)) (there_leads u table p b.again))
      go true None e = shut_feeding n p table k false (suc (length (map key p))) reset (map key p ++ key k ∷ ask ∷ []) b f tt
      go false None e = shut_feeding n p table k false 0 (key k) (ask ∷ []) b f tt
  on_press u w k h a = record { carries = h; keys = refl; table_is = refl }

  on_connected : (u : List ℕ) (w : World) (n : ℕ) (left : Option Session) → Shape u w → Fine u (waiting_keys w.client.stage ++ []) w.table (at_incident names w (connected n left))
  on_connected u w n left (connecting m true p table session k again b f) =
      let there = world_of (busy m p (Connecting (waits_for k again))) (stands []) table left (lost_before again) in
      sends u (k ∷ []) table there (busy m p (Opening (waits_for k again))) k (open_session ∷ [])
      (record { carries = opening m p table left k again b f; keys = refl; table_is = refl })
  on_connected u w n left (connecting m false p table session k again b f) =
      let there = world_of (client_of m false p true (Connecting (waits_for k again))) (stands []) table None (lost_before again) in
      sends u (k ∷ []) table there (client_of n false p true (Opening (waits_for k again))) k (open_session ∷ [])
      (record { carries = opening_first n p table k again b f; keys = refl; table_is = refl })
  on_connected u w n left h = record { carries = h; keys = refl; table_is = refl }

  -- a reply leads to this outcome
  hears : (u ks : List ℕ) (table : List Definition) (w : World) (a : ReplyBody) (o : Outcome) (zs : List ℕ) (bs : List Body) → answered_at w.client.stage w.client a ≡ o
      → Fine u ks table (acts names w o zs bs) → Fine u ks table (acts names w (happens w.client (reply (record { session = w.client.session; answer = a }))) zs bs)
  hears u ks table w a o zs bs e g = subst (λ (x : Outcome). Fine u ks table (acts names w x zs bs)) (sym (heard_here w.client a ∙ e)) g

  -- the session is open, and the key is asked about
  opens : (u : List ℕ) (n : ℕ) (o : Bool) (p : List ℕ) (table : List Definition) (s : Session) (k : ℕ) (again : Bool) (a : ReplyBody) → Base u table p → has_key fresh k ≡ false
      → opened_at (client_of n o p true (Opening (waits_for k again))) (waits_for k again) a ≡ asks (busy n p (Opening (waits_for k again))) (waits_for k again)
      → Fine u (k ∷ []) table
      (acts names (world_of (client_of n o p true (Opening (waits_for k again))) (stands []) table (Some s) (lost_before again))
      (happens (client_of n o p true (Opening (waits_for k again))) (reply (record { session = n; answer = a }))) (k ∷ []) (typed_anew p ++ key k ∷ ask ∷ []))
  opens u n o p table s k again a b f e =
      let rs = typed_anew p ++ key k ∷ ask ∷ [] in
      let c = client_of n o p true (Opening (waits_for k again)) in
      let w = world_of c (stands []) table (Some s) (lost_before again) in
      let asked = asks (busy n p (Opening (waits_for k again))) (waits_for k again) in
      hears u (k ∷ []) table w a asked (k ∷ []) rs e
      (sends u (k ∷ []) table w asked.client k rs (record { carries = resetting n p table s k again b f; keys = refl; table_is = refl }))

  -- the session turns out to be closed
  shut : (u : List ℕ) (n : ℕ) (p : List ℕ) (table : List Definition) (k : ℕ) (again : Bool) (stage : Stage) (rs : List Body) → Base u table p → has_key fresh k ≡ false
      → answered_at stage (busy n p stage) (refused no_session) ≡ lost_with (busy n p stage) (waits_for k again)
      → Fine u (k ∷ []) table
      (acts names (world_of (busy n p stage) (stands rs) table None (lost_before again + 1))
      (happens (busy n p stage) (reply (record { session = n; answer = refused no_session }))) (k ∷ []) [])
  shut u n p table k again stage rs b f e =
      hears u (k ∷ []) table (world_of (busy n p stage) (stands rs) table None (lost_before again + 1)) (refused no_session)
      (lost_with (busy n p stage) (waits_for k again)) (k ∷ []) [] e (go again)
    where
      go : (x : Bool)
          → Fine u (k ∷ []) table (acts names (world_of (busy n p stage) (stands rs) table None (lost_before x + 1)) (lost_with (busy n p stage) (waits_for k x)) (k ∷ []) [])
      go true = record { carries = (refl, apart n true [] table None 2 (dropped u table p b)); keys = refl; table_is = refl }
      go false = record { carries = connecting n true p table None k true b f; keys = refl; table_is = refl }

  -- the key itself is answered
  key_heard : (u : List ℕ) (table : List Definition) (s : Session) (k : ℕ) → Leads u table s.pending [] → has_key fresh k ≡ false → effect first u k ≢ cancels
      → (verdict_text names k (verdict_on k (heard names table s k)) ≡ (step names first u k).text) × Leads (pending_after first u k) table (session_fed table s k).pending []
  key_heard u table s k l f n =
      let now = typed_leads u table s.pending k l f n in
      (heard_text names table s k ∙ now.0.same_text, now.1)

  same_pending : (table : List Definition) (s : Session) → pending table s.pending ≡ s.pending → (z : Session) → Some s ≡ Some z → is_cancelled s.status ≡ false → z.pending ≡ pending table s.pending
  same_pending table s e z q h = let is : s ≡ z = cc in ap (λ (y : Session). y.pending) (sym is) ∙ sym e

  on_answer : (u : List ℕ) (w : World) → Shape u w → Fine u (waiting_keys w.client.stage ++ []) w.table (at_incident names w answered)
  on_answer u w (opening n p table (Some s) k again b f) = opens u n true p table s k again (refused session_taken) b f refl
  on_answer u w (opening n p table None k again b f) = opens u n true p table rest k again opened b f refl
  on_answer u w (opening_first n p table k again b f) = opens u n false p table rest k again opened b f refl
  on_answer u w (resetting n p table s k again b f) =
      let m = length (map key p) in
      let c = busy n p (Feeding (waits_for k again) (suc m)) in
      let there = world_of c (stands (map key p ++ key k ∷ ask ∷ [])) table (Some rest) (lost_before again) in
      hears u (k ∷ []) table there was_reset (does (record c { stage = Feeding (waits_for k again) m }) Wait) (k ∷ []) [] (reset_next c (waits_for k again) m)
      (record { carries = feeding n p table rest k again p b f b.again; keys = refl; table_is = refl })
  on_answer u w (feeding n p table s k again [] b f l) =
      let c = busy n p (Feeding (waits_for k again) 0) in
      let h = heard names table s k in
      hears u (k ∷ []) table (world_of c (stands (ask ∷ [])) table (Some (session_fed table s k)) (lost_before again)) (answer_of names table s (key k))
      (does (record c { stage = Asking (waits_for k again) h }) Wait) (k ∷ []) [] refl
      (record { carries = asking n p table (session_fed table s k) k again h b f (key_heard u table s k l f); keys = refl; table_is = refl })
  on_answer u w (feeding n p table s k again (j ∷ more) b f l) =
      let m = length (map key more) in
      let c = busy n p (Feeding (waits_for k again) (suc m)) in
      hears u (k ∷ []) table (world_of c (stands (map key more ++ key k ∷ ask ∷ [])) table (Some (session_fed table s j)) (lost_before again)) (answer_of names table s (key j))
      (does (record c { stage = Feeding (waits_for k again) m }) Wait) (k ∷ []) [] (fed_next c (waits_for k again) m _ _ _)
      (record { carries = feeding n p table (session_fed table s j) k again more b f (key_leads u table s.pending j more l); keys = refl; table_is = refl })
  on_answer u w (asking n p table s k again h b f l) =
      let c = busy n p (Asking (waits_for k again) h) in
      let o = asked_at c (waits_for k again) h (state s.status s.pending) in
      let after : (losses : ℕ) → effect first u k ≢ cancels →
      (verdict_text names k (verdict_on k h) ≡ (step names first u k).text) × Shape (pending_after first u k) (world_of o.client (stands []) table (Some s) losses) =
      λ losses e.
      let now = l e in (
        now.0,
        between n s.pending (is_cancelled s.status) table (Some s) losses (record { anew = b.anew; again = anew_leads (pending_after first u k) table s.pending now.1 })
            (same_pending table s now.1.reached.again),
      ) in
      hears u (k ∷ []) table (world_of c (stands []) table (Some s) (lost_before again)) (state s.status s.pending) o (k ∷ []) [] refl (go again after)
    where
      go : (a : Bool)
          → ((losses : ℕ) → effect first u k ≢ cancels → (verdict_text names k (verdict_on k h) ≡ (step names first u k).text)
          × Shape (pending_after first u k) (world_of (client_of n true s.pending (is_cancelled s.status) Ready) (stands []) table (Some s) losses))
          → Fine u (k ∷ []) table
          (acts names (world_of (busy n p (Asking (waits_for k again) h)) (stands []) table (Some s) (lost_before a))
          (asked_at (busy n p (Asking (waits_for k again) h)) (waits_for k again) h (state s.status s.pending))
          (k ∷ []) [])
      go true d = record { carries = d 1; keys = refl; table_is = refl }
      go false d = record { carries = d 0; keys = refl; table_is = refl }
  on_answer u w (shut_feeding n p table k again m open_session rs b f c) = absurd c
  on_answer u w (shut_feeding n p table k again m (key j) rs b f c) = shut u n p table k again (Feeding (waits_for k again) m) rs b f refl
  on_answer u w (shut_feeding n p table k again m reset rs b f c) = shut u n p table k again (Feeding (waits_for k again) m) rs b f refl
  on_answer u w (shut_feeding n p table k again m close rs b f c) = shut u n p table k again (Feeding (waits_for k again) m) rs b f refl
  on_answer u w (shut_feeding n p table k again m (load rule bytes) rs b f c) = shut u n p table k again (Feeding (waits_for k again) m) rs b f refl
  on_answer u w (shut_feeding n p table k again m ask rs b f c) = shut u n p table k again (Feeding (waits_for k again) m) rs b f refl
  on_answer u w (shut_asking n p table k again h b f) = shut u n p table k again (Asking (waits_for k again) h) [] b f refl
  on_answer u w h = record { carries = h; keys = refl; table_is = refl }

  on_loss : (u : List ℕ) (w : World) → Shape u w → Fine u (waiting_keys w.client.stage ++ []) w.table (at_incident names w lost)
  on_loss u w (apart n o p table session losses b) = record { carries = apart n o p table session losses b; keys = refl; table_is = refl }
  on_loss u w (between n p stale table session losses b e) = record { carries = apart n true p table session (losses + 1) b; keys = refl; table_is = refl }
  on_loss u w (connecting n o p table session k again b f) = record { carries = (refl, apart n o [] table session 2 (dropped u table p b)); keys = refl; table_is = refl }
  on_loss u w (opening n p table session k true b f) = record { carries = (refl, apart n true [] table session 2 (dropped u table p b)); keys = refl; table_is = refl }
  on_loss u w (opening n p table session k false b f) = record { carries = connecting n true p table session k true b f; keys = refl; table_is = refl }
  on_loss u w (opening_first n p table k true b f) = record { carries = (refl, apart n false [] table None 2 (dropped u table p b)); keys = refl; table_is = refl }
  on_loss u w (opening_first n p table k false b f) = record { carries = connecting n false p table None k true b f; keys = refl; table_is = refl }
  on_loss u w (resetting n p table s k true b f) = record { carries = (refl, apart n true [] table (Some s) 2 (dropped u table p b)); keys = refl; table_is = refl }
  on_loss u w (resetting n p table s k false b f) = record { carries = connecting n true p table (Some s) k true b f; keys = refl; table_is = refl }
  on_loss u w (feeding n p table s k true more b f l) = record { carries = (refl, apart n true [] table (Some s) 2 (dropped u table p b)); keys = refl; table_is = refl }
  on_loss u w (feeding n p table s k false more b f l) = record { carries = connecting n true p table (Some s) k true b f; keys = refl; table_is = refl }
  on_loss u w (asking n p table s k true h b f l) = record { carries = (refl, apart n true [] table (Some s) 2 (dropped u table p b)); keys = refl; table_is = refl }
  on_loss u w (asking n p table s k false h b f l) = record { carries = connecting n true p table (Some s) k true b f; keys = refl; table_is = refl }
  on_loss u w (shut_feeding n p table k true m r rs b f c) = record { carries = (refl, apart n true [] table None 2 (dropped u table p b)); keys = refl; table_is = refl }
  on_loss u w (shut_feeding n p table k false m r rs b f c) = record { carries = connecting n true p table None k true b f; keys = refl; table_is = refl }
  on_loss u w (shut_asking n p table k true h b f) = record { carries = (refl, apart n true [] table None 2 (dropped u table p b)); keys = refl; table_is = refl }
  on_loss u w (shut_asking n p table k false h b f) = record { carries = connecting n true p table None k true b f; keys = refl; table_is = refl }

  on_time : (u : List ℕ) (w : World) → Shape u w → Fine u (waiting_keys w.client.stage ++ []) w.table (at_incident names w timed_out)
  on_time u w (apart n o p table session losses b) = record { carries = apart n o p table session 2 b; keys = refl; table_is = refl }
  on_time u w (between n p stale table session losses b e) = record { carries = between n p stale table session 2 b e; keys = refl; table_is = refl }
  on_time u w (connecting n o p table session k again b f) = record { carries = (refl, apart n o [] table session 2 (dropped u table p b)); keys = refl; table_is = refl }
  on_time u w (opening n p table session k again b f) = record { carries = (refl, apart n true [] table session 2 (dropped u table p b)); keys = refl; table_is = refl }
  on_time u w (opening_first n p table k again b f) = record { carries = (refl, apart n false [] table None 2 (dropped u table p b)); keys = refl; table_is = refl }
  on_time u w (resetting n p table s k again b f) = record { carries = (refl, apart n true [] table (Some s) 2 (dropped u table p b)); keys = refl; table_is = refl }
  on_time u w (feeding n p table s k again more b f l) = record { carries = (refl, apart n true [] table (Some s) 2 (dropped u table p b)); keys = refl; table_is = refl }
  on_time u w (asking n p table s k again h b f l) = record { carries = (refl, apart n true [] table (Some s) 2 (dropped u table p b)); keys = refl; table_is = refl }
  on_time u w (shut_feeding n p table k again m r rs b f c) = record { carries = (refl, apart n true [] table None 2 (dropped u table p b)); keys = refl; table_is = refl }
  on_time u w (shut_asking n p table k again h b f) = record { carries = (refl, apart n true [] table None 2 (dropped u table p b)); keys = refl; table_is = refl }

  on_close : (u : List ℕ) (w : World) → Shape u w → Fine u (waiting_keys w.client.stage ++ []) w.table (at_incident names w closed)
  on_close u w (apart n o p table session losses b) = record { carries = apart n o p table None losses b; keys = refl; table_is = refl }
  on_close u w (between n p stale table session losses b e) = record { carries = between n p stale table None losses b (λ s q h. cc); keys = refl; table_is = refl }
  on_close u w (connecting n o p table session k again b f) = record { carries = connecting n o p table None k again b f; keys = refl; table_is = refl }
  on_close u w (opening n p table session k again b f) = record { carries = opening n p table None k again b f; keys = refl; table_is = refl }
  on_close u w (resetting n p table s k again b f) =
      record { carries = shut_feeding n p table k again (suc (length (map key p))) reset (map key p ++ key k ∷ ask ∷ []) b f tt; keys = refl; table_is = refl }
  on_close u w (feeding n p table s k again [] b f l) = record { carries = shut_feeding n p table k again 0 (key k) (ask ∷ []) b f tt; keys = refl; table_is = refl }
  on_close u w (feeding n p table s k again (j ∷ more) b f l) =
      record { carries = shut_feeding n p table k again (suc (length (map key more))) (key j) (map key more ++ key k ∷ ask ∷ []) b f tt; keys = refl; table_is = refl }
  on_close u w (asking n p table s k again h b f l) = record { carries = shut_asking n p table k again h b f; keys = refl; table_is = refl }
  on_close u w h = record { carries = h; keys = refl; table_is = refl }

  on_load : (u : List ℕ) (w : World) (new : List Definition) → Shape u w → Follows names fresh w.table new → Fine u (waiting_keys w.client.stage ++ []) new (at_incident names w (loaded new))
  on_load u w new (apart n o p table session losses b) g =
      record { carries = apart n o p new (option_map (session_loaded new) session) losses (load_base u table new p b g); keys = refl; table_is = refl }
  on_load u w new (between n p stale table None losses b e) g =
      record { carries = between n p stale new None losses (load_base u table new p b g) (λ s q h. cc); keys = refl; table_is = refl }
  on_load u w new (between n p stale table (Some s) losses b e) g =
      let same : (z : Session) → Some (session_loaded new s) ≡ Some z → stale ≡ false → z.pending ≡ pending new p =
      λ z q h.
      let is : session_loaded new s ≡ z = cc in
      ap (λ (y : Session). y.pending) (sym is) ∙ ap (pending new) (e s refl h) ∙ sym (refeed names fresh table new p g b.again.more_absent b.again.goes_on) in
      record { carries = between n p stale new (Some (session_loaded new s)) losses (load_base u table new p b g) same; keys = refl; table_is = refl }
  on_load u w new (connecting n o p table session k again b f) g =
      record { carries = connecting n o p new (option_map (session_loaded new) session) k again (load_base u table new p b g) f; keys = refl; table_is = refl }
  on_load u w new (opening n p table session k again b f) g =
      record { carries = opening n p new (option_map (session_loaded new) session) k again (load_base u table new p b g) f; keys = refl; table_is = refl }
  on_load u w new (opening_first n p table k again b f) g = record { carries = opening_first n p new k again (load_base u table new p b g) f; keys = refl; table_is = refl }
  on_load u w new (resetting n p table s k again b f) g = record { carries = resetting n p new (session_loaded new s) k again (load_base u table new p b g) f; keys = refl; table_is = refl }
  on_load u w new (feeding n p table s k again more b f l) g =
      record { carries = feeding n p new (session_loaded new s) k again more (load_base u table new p b g) f (load_leads u table new s.pending more l g); keys = refl; table_is = refl }
  on_load u w new (asking n p table s k again h b f l) g =
      let after : effect first u k ≢ cancels → (verdict_text names k (verdict_on k h) ≡ (step names first u k).text) × Leads (pending_after first u k) new (pending new s.pending) [] =
      λ e. let now = l e in (now.0, load_leads (pending_after first u k) table new s.pending [] now.1 g) in
      record { carries = asking n p new (session_loaded new s) k again h (load_base u table new p b g) f after; keys = refl; table_is = refl }
  on_load u w new (shut_feeding n p table k again m r rs b f c) g = record { carries = shut_feeding n p new k again m r rs (load_base u table new p b g) f c; keys = refl; table_is = refl }
  on_load u w new (shut_asking n p table k again h b f) g = record { carries = shut_asking n p new k again h (load_base u table new p b g) f; keys = refl; table_is = refl }

  on_incident : (u : List ℕ) (w : World) (i : Incident) → Shape u w → IsGood names fresh w.table i → avoids fresh (key_in w i) ≡ true
      → Fine u (waiting_keys w.client.stage ++ key_in w i) (table_after w.table i) (at_incident names w i)
  on_incident u w (pressed k) h g a = on_press u w k h a
  on_incident u w (connected n left) h g a = on_connected u w n left h
  on_incident u w answered h g a = on_answer u w h
  on_incident u w lost h g a = on_loss u w h
  on_incident u w timed_out h g a = on_time u w h
  on_incident u w closed h g a = on_close u w h
  on_incident u w (loaded new) h g a = on_load u w new h g

  -- ---- all incidents

  -- the texts, the keys, and the world in the end
  record Ends (u ks : List ℕ) (ys : List KeyText) (e : World) : Type 0 where
    texts : map (λ y. y.text) ys ≡ run_texts names first u ys
    keys : map (λ y. y.key) ys ++ waiting_keys e.client.stage ≡ ks
    now : List ℕ
    shape : Shape now e

  one_more : (b : Bool) (u : List ℕ) (k : ℕ) (t ks : List ℕ) (ys : List KeyText) (e : World) (next : List ℕ → Type 0) → Gives b u k t next
      → run_goes_on first u (record { key = k; text = t; is_lost = b } ∷ ys) ≡ true → ((v : List ℕ) → next v → run_goes_on first v ys ≡ true → Ends v ks ys e)
      → Ends u (k ∷ ks) (record { key = k; text = t; is_lost = b } ∷ ys) e
  one_more true u k t ks ys e next g h f =
      let r = f [] g.1 h in
      record {
        texts = ap (λ (x : List ℕ). x ∷ map (λ (y : KeyText). y.text) ys) g.0 ∙ ap (λ (xs : List (List ℕ)). own_text names k ∷ xs) r.texts;
        keys = ap (λ xs. k ∷ xs) r.keys;
        now = r.now;
        shape = r.shape;
      }
  one_more false u k t ks ys e next g h f =
      let parts = and_parts (not (is_cancel (effect first u k))) (run_goes_on first (pending_after first u k) ys) h in
      let here = g (no_cancel (effect first u k) parts.0) in
      let r = f (pending_after first u k) here.1 parts.1 in
      record {
        texts = ap (λ (x : List ℕ). x ∷ map (λ (y : KeyText). y.text) ys) here.0 ∙ ap (λ (xs : List (List ℕ)). (step names first u k).text ∷ xs) r.texts;
        keys = ap (λ xs. k ∷ xs) r.keys;
        now = r.now;
        shape = r.shape;
      }

  carried : (u ks : List ℕ) (ys zs : List KeyText) (w e : World) → Carries u ys w → run_goes_on first u (ys ++ zs) ≡ true
      → ((v : List ℕ) → Shape v w → run_goes_on first v zs ≡ true → Ends v ks zs e) → Ends u (map (λ y. y.key) ys ++ ks) (ys ++ zs) e
  carried u ks [] zs w e c g f = f u c g
  carried u ks (y ∷ ys) zs w e c g f =
      one_more y.is_lost u y.key y.text (map (λ (x : KeyText). x.key) ys ++ ks) (ys ++ zs) e (λ v. Carries v ys w) c g (λ v d h. carried v ks ys zs w e d h f)

  follows_parts : (table : List Definition) (i : Incident) (is : List Incident) → LoadsFollow names fresh table (i ∷ is) → IsGood names fresh table i × LoadsFollow names fresh (table_after table i) is
  follows_parts table (loaded new) is l = l
  follows_parts table (pressed k) is l = (tt, l)
  follows_parts table (connected n left) is l = (tt, l)
  follows_parts table answered is l = (tt, l)
  follows_parts table lost is l = (tt, l)
  follows_parts table timed_out is l = (tt, l)
  follows_parts table closed is l = (tt, l)

  run_ends : (u : List ℕ) (w : World) (is : List Incident) → Shape u w → LoadsFollow names fresh w.table is → avoids fresh (keys_in names w is) ≡ true
      → run_goes_on first u (texts_in names w is) ≡ true
      → Ends u (waiting_keys w.client.stage ++ keys_in names w is) (texts_in names w is) (world_after names w is)
  run_ends u w [] h l a g = record { texts = refl; keys = sym (append-nil (waiting_keys w.client.stage)); now = u; shape = h }
  run_ends u w (i ∷ is) h l a g =
      let after : World = (at_incident names w i).0 in
      let ys : List KeyText = (at_incident names w i).1 in
      let follow = follows_parts w.table i is l in
      let absent = absent_parts fresh (key_in w i) (keys_in names after is) a in
      let fine = on_incident u w i h follow.0 absent.0 in
      let later : LoadsFollow names fresh after.table is = subst (λ (t : List Definition). LoadsFollow names fresh t is) (sym fine.table_is) follow.1 in
      let more : List ℕ = keys_in names after is in
      let r = carried u (waiting_keys after.client.stage ++ more) ys (texts_in names after is) after (world_after names after is) fine.carries g (λ v s q. run_ends v after is s later absent.1 q) in
      record {
        texts = r.texts;
        keys = r.keys ∙ sym (append_assoc (map (λ (y : KeyText). y.key) ys) (waiting_keys after.client.stage) more) ∙ ap (λ (x : List ℕ). x ++ more) fine.keys
            ∙ append_assoc (waiting_keys w.client.stage) (key_in w i) more;
        now = r.now;
        shape = r.shape;
      }

  -- ---- the beginning and the end

  idle_end : (u : List ℕ) (w : World) → Shape u w → is_quiet w.link ≡ true → IsIdleWorld w
  idle_end u w (apart n o p table session losses b) q = record { goes_on = b.again.goes_on; stage = (refl, refl) }
  idle_end u w (between n p stale table session losses b e) q = record { goes_on = b.again.goes_on; stage = (refl, refl, e) }
  idle_end u w (feeding n p table s k again [] b f l) q = cc
  idle_end u w (feeding n p table s k again (j ∷ more) b f l) q = cc
  idle_end u w h q = cc

idle_waits : (s : Stage) (w : World) → IsIdleAt s w → waiting_keys s ≡ []
idle_waits Apart w h = refl
idle_waits Ready w h = refl
idle_waits _ w h = absurd h

first_base : (names : KeysymNames) (fresh : List ℕ) (table : List Definition) (p : List ℕ) → avoids fresh p ≡ true → uncancelled table p ≡ true
    → Base names fresh table (pending table p) table p
first_base names fresh table p a g = record {
  anew = record { reached = root_reached table; absent = refl; more_absent = refl; goes_on = refl; in_step = λ z b h. alike names table [] z h };
  again = record { reached = root_reached table; absent = refl; more_absent = a; goes_on = g; in_step = λ z b h. alike names table (pending table p) z h };
}

-- at the beginning the first table is the current one
begins_at : (names : KeysymNames) (fresh : List ℕ) (n : ℕ) (o : Bool) (p : List ℕ) (stale : Bool) (stage : Stage) (link : Link) (table : List Definition) (session : Option Session) (losses : ℕ)
    → IsIdleAt stage (world_of (client_of n o p stale stage) link table session losses) → Base names fresh table (pending table p) table p
    → Shape names fresh table (pending table p) (world_of (client_of n o p stale stage) link table session losses)
begins_at names fresh n o p stale Apart link table session losses h b =
    subst (λ (l : Link). Shape names fresh table (pending table p) (world_of (client_of n o p stale Apart) l table session losses)) (sym h.0)
    (subst (λ (x : Bool). Shape names fresh table (pending table p) (world_of (client_of n o p x Apart) none table session losses)) (sym h.1) (apart n o p table session losses b))
begins_at names fresh n o p stale Ready link table session losses h b =
    subst (λ (l : Link). Shape names fresh table (pending table p) (world_of (client_of n o p stale Ready) l table session losses)) (sym h.0)
    (subst (λ (x : Bool). Shape names fresh table (pending table p) (world_of (client_of n x p stale Ready) (stands []) table session losses)) (sym h.1)
    (between n p stale table session losses b h.2))
begins_at names fresh n o p stale _ link table session losses h b = absurd h

pub types_opening : TypesOpening
types_opening names fresh w is idle l a g =
    let absent = absent_parts fresh w.client.pending (keys_in names w is) a in
    let b = first_base names fresh w.table w.client.pending absent.0 idle.goes_on in
    let u : List ℕ = pending w.table w.client.pending in
    let c : Client = w.client in
    let h : Shape names fresh w.table u w = begins_at names fresh c.session c.is_opened c.pending c.is_stale c.stage w.link w.table w.session w.losses idle.stage b in
    let r = run_ends names fresh w.table u w is h l absent.1 g in
    record {
      keys = r.keys ∙ ap (λ (x : List ℕ). x ++ keys_in names w is) (idle_waits w.client.stage w idle.stage);
      texts = r.texts;
      idle = idle_end names fresh w.table r.now (world_after names w is) r.shape;
    }
