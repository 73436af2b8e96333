-- The owners of the open sessions.
use Rattle.std.proofs.Common.{◌≡◌, ℕ, List, [], ◌∷◌, ◌++◌, Bool, true, false, cond, length, map, refl, sym, ◌∙◌, ap, subst, append-nil, append_assoc, eq-eqb, eqb-true, inl, inr}
use Rattle.std.specs.Prelude.{not, Option, Some, None}
use Rattle.std.specs.Option.{option_or}
use Rattle.compose_wire.specs.Messages.{Body, close, ReplyBody, opened, fed, was_reset, closed, loaded, state, refused}
use Rattle.compose_wire.specs.Requests.{body_of}
use Rattle.compose_wire.specs.Replies.{HasAnswerValue}
use Rattle.compose_wire.specs.declared.request.Body.{Body as ProgramBody}
use Rattle.compose_wire.specs.declared.request.Body.TheVariants.{Open, Key, Reset, Close, Load, LoadLongest, Ask}
use Rattle.compose_wire.specs.declared.reply.ReplyBody.{ReplyBody as ProgramAnswer}
use Rattle.compose_wire.specs.declared.reply.ReplyBody.TheVariants.{Opened, Fed, WasReset, Closed, Loaded, State, Refused}
use Rattle.std.specs.Prelude.{◌==◌, fold}
use Rattle.std.specs.Io.KnownBytes.{Consumes, Appends}
use Rattle.std.proofs.KnownBytes.{Consumes-nil, Appends-nil}
use Rattle.std.proofs.lemmas.Bool.{cases_Bool}
use Rattle.std.proofs.lemmas.List.Elements.{filter-append}
use Rattle.std.proofs.lemmas.List.Sums.{fold-append}
use Rattle.compose_machine.specs.Machine.{ServiceState, Reading, Step}
use Rattle.compose_machine.specs.Laws.{Exchange, IsHistory}
use Rattle.compose_many.specs.Connection.{ConnectionState, Event, closes, AllHappen, exchange_of, closed_of, received, exchanges, closings, sent}
use Rattle.compose_many.specs.Service.{NumberedEvent, events_of, numbered}
use Rattle.compose_many.specs.Turns.{IsTurn}
use Rattle.compose_many.specs.Owners.{owners_noted, owners_when, owners_after, owners_by, owners_of, EachOnce, without, of_others, last_own, ClosesOwn, ClosesAs, EndedWithItsSessions, ClosedNone, ClosedAtEnd}
use Rattle.compose_many.specs.declared.owners.Owner.{Owner}
use Rattle.compose_many.proofs.Happening.{flat-both, map-both, history-both}
use Rattle.compose_many.proofs.Serving.{those_of, none_of, events_of-both}
use Rattle.compose_many.proofs.Once.{once_filter, once_before, without_last, others_without, others_all}

-- what is noted for the program's reply is what is noted for its meaning
opened_is : (c n : ℕ) (owners : List Owner) (a : ProgramAnswer) (v : ReplyBody) → HasAnswerValue a v → owners_noted c n owners Open a ≡ owners_when c n owners (body_of Open) v
opened_is c n owners Opened opened h = refl
opened_is c n owners (Fed s a t) (fed s' a' t') h = refl
opened_is c n owners WasReset was_reset h = refl
opened_is c n owners Closed closed h = refl
opened_is c n owners (Loaded m) (loaded m') h = refl
opened_is c n owners (State s p) (state s' p') h = refl
opened_is c n owners (Refused m) (refused m') h = refl
opened_is c n owners _ _ h = absurd h

pub noted_is : (c n : ℕ) (owners : List Owner) (b : ProgramBody) (a : ProgramAnswer) (v : ReplyBody) → HasAnswerValue a v → owners_noted c n owners b a ≡ owners_when c n owners (body_of b) v
noted_is c n owners Open a v h = opened_is c n owners a v h
noted_is c n owners (Key k) a v h = refl
noted_is c n owners Reset a v h = refl
noted_is c n owners Close a v h = refl
noted_is c n owners (Load p) a v h = refl
noted_is c n owners (LoadLongest p) a v h = refl
noted_is c n owners Ask a v h = refl

-- ---- what is closed without a request

-- these Closes are exactly the exchanges of their events
pub exchanges_closed : (h : List Exchange) → exchanges (map closes h) ≡ h
exchanges_closed [] = refl
exchanges_closed (x ∷ h) = ap (λ (g : List Exchange). x ∷ g) (exchanges_closed h)

pub closings_closed : (h : List Exchange) → closings (map closes h) ≡ h
closings_closed [] = refl
closings_closed (x ∷ h) = ap (λ (g : List Exchange). x ∷ g) (closings_closed h)

pub received_closed : (h : List Exchange) → received (map closes h) ≡ []
received_closed [] = refl
received_closed (x ∷ h) = received_closed h

pub sent_closed : (h : List Exchange) → sent (map closes h) ≡ []
sent_closed [] = refl
sent_closed (x ∷ h) = sent_closed h

happen_closed : (limit c : ℕ) (owners : List Owner) (s : ConnectionState) (h : List Exchange) → ClosesOwn c owners h → AllHappen limit s (map closes h) s
happen_closed limit c owners s [] own = refl
happen_closed limit c owners s (x ∷ h) own = (s, record { close = own.1; after = refl }, happen_closed limit c (owners_after c owners x) s h own.2)

-- they are a turn in which the connection and its stream stay as they are
pub turn_closed : (limit : ℕ) (reading : Reading) (old new : ServiceState) (c : ℕ) (owners : List Owner) (s : ConnectionState) (left written : Option (List ℕ)) (h : List Exchange) → ClosesOwn c owners h
    → IsHistory reading old h new → IsTurn limit reading old new s s left left written written (map closes h)
turn_closed limit reading old new c owners s left written h own run = record {
  happen = happen_closed limit c owners s h own;
  run = subst (λ (g : List Exchange). IsHistory reading old g new) (sym (exchanges_closed h)) run;
  read = subst (λ (l : List ℕ). Consumes left left l) (sym (received_closed h)) (Consumes-nil left);
  wrote = subst (λ (l : List ℕ). Appends written written l) (sym (sent_closed h)) (Appends-nil written);
}

-- ---- owners after more events

-- the owners after these events and then those
pub owners_both : (c : ℕ) (owners : List Owner) (es fs : List Event) → owners_by c owners (exchanges (es ++ fs)) ≡ owners_by c (owners_by c owners (exchanges es)) (exchanges fs)
owners_both c owners es fs =
    ap (owners_by c owners) (flat-both exchange_of es fs) ∙ fold-append (owners_after c) owners (exchanges es) (exchanges fs)

-- the owners after events of one connection
pub owners_on : (c : ℕ) (owners : List Owner) (events : List Event)
    → fold (λ (o : List Owner) (e : NumberedEvent). owners_by e.connection o (exchange_of e.event)) owners (numbered c events) ≡ owners_by c owners (exchanges events)
owners_on c owners [] = refl
owners_on c owners (e ∷ events) =
    owners_on c (owners_by c owners (exchange_of e)) events ∙ sym (fold-append (owners_after c) owners (exchange_of e) (exchanges events))

-- the owners after these events on one further connection
pub owners_more : (c : ℕ) (all : List NumberedEvent) (events : List Event) → owners_of (all ++ numbered c events) ≡ owners_by c (owners_of all) (exchanges events)
owners_more c all events =
    fold-append (λ (o : List Owner) (e : NumberedEvent). owners_by e.connection o (exchange_of e.event)) [] all (numbered c events) ∙ owners_on c (owners_of all) events

-- ---- what was closed for a connection

-- the events on another connection
pub events_other : (c n : ℕ) (all : List NumberedEvent) (events : List Event) → c == n ≡ false → events_of n (all ++ numbered c events) ≡ events_of n all
events_other c n all events e =
    events_of-both n all (numbered c events) ∙ ap (λ (es : List Event). events_of n all ++ es) (none_of c n events e) ∙ append-nil (events_of n all)

pub events_own : (c : ℕ) (all : List NumberedEvent) (events : List Event) → events_of c (all ++ numbered c events) ≡ events_of c all ++ events
events_own c all events = events_of-both c all (numbered c events) ∙ ap (λ (es : List Event). events_of c all ++ es) (those_of c c events (eq-eqb c c refl))

module _ (c : ℕ) (all : List NumberedEvent) (events : List Event) where
  pub none_closed_other : (n : ℕ) → c == n ≡ false → ClosedNone n all → ClosedNone n (all ++ numbered c events)
  none_closed_other n e none = ap closings (events_other c n all events e) ∙ none

  pub none_closed_own : ClosedNone c all → closings events ≡ [] → ClosedNone c (all ++ numbered c events)
  none_closed_own none more =
      ap closings (events_own c all events) ∙ flat-both closed_of (events_of c all) events ∙ ap (λ (h : List Exchange). h ++ closings events) none ∙ more

  ended_other : (n : ℕ) → c == n ≡ false → EndedWithItsSessions n all → EndedWithItsSessions n (all ++ numbered c events)
  ended_other n e p = record {
    before = p.before;
    closed = p.closed;
    later = p.later ++ numbered c events;
    parts =
        ap (λ (es : List NumberedEvent). es ++ numbered c events) p.parts ∙ append_assoc p.before (numbered n (map closes p.closed) ++ p.later) (numbered c events)
        ∙ ap (λ (es : List NumberedEvent). p.before ++ es) (append_assoc (numbered n (map closes p.closed)) p.later (numbered c events));
    none_before = p.none_before;
    each = p.each;
    last = events_other c n p.later events e ∙ p.last;
  }

  -- the sessions that were closed for a connection that ended stay the same, whatever happens on
  -- another one
  pub closed_other : (own : Bool) (n : ℕ) → c == n ≡ false → ClosedAtEnd own n all → ClosedAtEnd own n (all ++ numbered c events)
  closed_other true n e p = ended_other n e p
  closed_other false n e p = none_closed_other n e p

-- a connection ends once a Close was answered for each of its sessions, after what was asked on it
pub ended_own : (c : ℕ) (all : List NumberedEvent) (before : List Event) (h : List Exchange) → ClosedNone c all → closings before ≡ []
    → ClosesOwn c (owners_by c (owners_of all) (exchanges before)) h → EndedWithItsSessions c (all ++ numbered c (before ++ map closes h))
ended_own c all before h none none_more own = record {
  before = all ++ numbered c before;
  closed = h;
  later = [];
  parts =
      ap (λ (es : List NumberedEvent). all ++ es) (map-both (λ (e : Event). record { connection = c; event = e }) before (map closes h)) ∙ sym (append_assoc all (numbered c before) (numbered c (map closes h)))
      ∙ ap (λ (es : List NumberedEvent). (all ++ numbered c before) ++ es) (sym (append-nil (numbered c (map closes h))));
  none_before = none_closed_own c all before none none_more;
  each = subst (λ (o : List Owner). ClosesOwn c o h) (sym (owners_more c all before)) own;
  last = refl;
}

-- ---- closing one session after another

-- after a Close its session has no owner
after_close : (c : ℕ) (owners : List Owner) (x : Exchange) → x.request.body ≡ close → owners_after c owners x ≡ without x.request.session owners
after_close c owners x e = ap (λ (b : Body). owners_when c x.request.session owners b x.reply.answer) e

-- of owners and one after them, a connection's last session is that of the one after them, if it is
-- the connection's
last_of_more : (c : ℕ) (owners : List Owner) (o : Owner) → last_own c (owners ++ o ∷ []) ≡ cond (o.connection == c) (Some o.session) (last_own c owners)
last_of_more c [] o = refl
last_of_more c (first ∷ owners) o =
    ap (λ (l : Option ℕ). option_or l (cond (first.connection == c) (Some first.session) None)) (last_of_more c owners o) ∙ by (o.connection == c)
  where
    by : (b : Bool) → option_or (cond b (Some o.session) (last_own c owners)) (cond (first.connection == c) (Some first.session) None)
        ≡ cond b (Some o.session) (option_or (last_own c owners) (cond (first.connection == c) (Some first.session) None))
    by true = refl
    by false = refl

-- numbers that differ aren't equal
apart : (a b : ℕ) → (a ≡ b → ⊥) → a == b ≡ false
apart a b differ = elim (cases_Bool (a == b)) [ inl t ↦ absurd (differ (eqb-true a b t)) | inr f ↦ f ]

-- what is closed of the owners before one of another connection is what is closed of all of them
closes_before : (c : ℕ) (o : Owner) → o.connection == c ≡ false → (owners : List Owner) (h : List Exchange) → ClosesOwn c owners h → ClosesOwn c (owners ++ o ∷ []) h
closes_before c o e owners [] own = last_of_more c owners o ∙ ap (λ (b : Bool). cond b (Some o.session) (last_own c owners)) e ∙ own
closes_before c o e owners (x ∷ h) own = (
  last_of_more c owners o ∙ ap (λ (b : Bool). cond b (Some o.session) (last_own c owners)) e ∙ own.0,
  own.1,
  subst (λ (os : List Owner). ClosesOwn c os h) (sym (after_close c (owners ++ o ∷ []) x own.1 ∙ filter-append (λ (p : Owner). not (p.session == x.request.session)) owners (o ∷ [])))
      (by (o.session == x.request.session) (closes_before c o e (without x.request.session owners) h) (subst (λ (os : List Owner). ClosesOwn c os h) (after_close c owners x own.1) own.2)),
)
  where
    by : (b : Bool) → (ClosesOwn c (without x.request.session owners) h → ClosesOwn c (without x.request.session owners ++ o ∷ []) h) → ClosesOwn c (without x.request.session owners) h
        → ClosesOwn c (without x.request.session owners ++ cond (not b) (o ∷ []) []) h
    by true f r = subst (λ (os : List Owner). ClosesOwn c os h) (sym (append-nil (without x.request.session owners))) r
    by false f r = f r

-- the last owner's session is closed first, and then what is closed of the owners before it
closes_last : (c : ℕ) (owners : List Owner) (o : Owner) → o.connection == c ≡ true → EachOnce (owners ++ o ∷ []) → (x : Exchange) → x.request.session ≡ o.session → x.request.body ≡ close
    → (h : List Exchange) → ClosesOwn c owners h → ClosesOwn c (owners ++ o ∷ []) (x ∷ h)
closes_last c owners o e once x same body h own = (
  last_of_more c owners o ∙ ap (λ (b : Bool). cond b (Some o.session) (last_own c owners)) e ∙ ap (λ (n : ℕ). Some n) (sym same),
  body,
  subst (λ (os : List Owner). ClosesOwn c os h) (sym (after_close c (owners ++ o ∷ []) x body ∙ ap (λ (n : ℕ). without n (owners ++ o ∷ [])) same ∙ without_last owners o once)) own,
)

-- once a Close was answered for each of a connection's sessions, the owners of the others are left
closed_others : (c : ℕ) (owners : List Owner) (h : List Exchange) → EachOnce owners → ClosesOwn c owners h → owners_by c owners h ≡ of_others c owners
closed_others c owners [] once own = sym (others_all c owners own)
closed_others c owners (x ∷ h) once own =
    let after : owners_after c owners x ≡ without x.request.session owners = after_close c owners x own.1 in
    let once_after : EachOnce (owners_after c owners x) = subst (λ (os : List Owner). EachOnce os) (sym after) (once_filter (λ (o : Owner). not (o.session == x.request.session)) owners once) in
    closed_others c (owners_after c owners x) h once_after own.2 ∙ ap (of_others c) after ∙ others_without c x.request.session owners once own.0

-- these sessions were closed, each the connection's last; those of the owners that are left are
-- closed after them
pub record ClosedSoFar (c : ℕ) (reading : Reading) (old now : ServiceState) (first rest : List Owner) : Type 0 where
  pub closed : List Exchange
  pub run : IsHistory reading old closed now
  pub once : EachOnce rest
  pub each : (more : List Exchange) → ClosesOwn c rest more → ClosesOwn c first (closed ++ more)

-- no session was closed
pub closed_at_first : (c : ℕ) (reading : Reading) (old : ServiceState) (owners : List Owner) → EachOnce owners → ClosedSoFar c reading old old owners owners
closed_at_first c reading old owners once = record { closed = []; run = refl; once = once; each = λ more h. h }

module _ (c : ℕ) (reading : Reading) (old now : ServiceState) (first rest before : List Owner) (o : Owner) (are : rest ≡ before ++ o ∷ []) (s : ClosedSoFar c reading old now first rest) where
  once_rest : EachOnce (before ++ o ∷ [])
  once_rest = subst (λ (os : List Owner). EachOnce os) are s.once

  -- the last owner's session is closed
  pub closed_more : (new : ServiceState) → o.connection ≡ c → (x : Exchange) → x.request.session ≡ o.session → x.request.body ≡ close → Step reading now x.request x.reply new
      → ClosedSoFar c reading old new first before
  closed_more new own x same body step = record {
    closed = s.closed ++ x ∷ [];
    run = history-both reading old now new s.closed (x ∷ []) s.run (new, step, refl);
    once = (once_before before o once_rest).0;
    each = λ more h.
        subst (λ (g : List Exchange). ClosesOwn c first g) (sym (append_assoc s.closed (x ∷ []) more))
        (s.each (x ∷ more) (subst (λ (os : List Owner). ClosesOwn c os (x ∷ more)) (sym are) (closes_last c before o (eq-eqb o.connection c own) once_rest x same body more h)));
  }

  -- the last owner is that of another connection
  pub closed_same : (o.connection ≡ c → ⊥) → ClosedSoFar c reading old now first before
  closed_same other = record {
    closed = s.closed;
    run = s.run;
    once = (once_before before o once_rest).0;
    each = λ more h. s.each more (subst (λ (os : List Owner). ClosesOwn c os more) (sym are) (closes_before c o (apart o.connection c other) before more h));
  }

-- no owner is left
pub closed_all : (c : ℕ) (reading : Reading) (old now : ServiceState) (first rest : List Owner) → length rest ≡ 0 → ClosedSoFar c reading old now first rest
    → (closed : List Exchange) × ClosesOwn c first closed × IsHistory reading old closed now
closed_all c reading old now first [] none s = (s.closed, subst (λ (h : List Exchange). ClosesOwn c first h) (append-nil s.closed) (s.each [] refl), s.run)
closed_all c reading old now first (o ∷ rest) none s = absurd (cc)

-- a Close was answered for each of a connection's sessions, and the owners of the others are kept
pub closes_as : (c : ℕ) (reading : Reading) (old new : ServiceState) (first owners owners' : List Owner) → EachOnce first → first ≡ owners → owners' ≡ of_others c first → (h : List Exchange) → ClosesOwn c first h
    → IsHistory reading old h new → ClosesAs c owners owners' reading old new
closes_as c reading old new first owners owners' once are rest h own run = (
  h,
  subst (λ (os : List Owner). ClosesOwn c os h) are own,
  run,
  rest ∙ sym (closed_others c first h once own) ∙ ap (λ (os : List Owner). owners_by c os h) are,
)
