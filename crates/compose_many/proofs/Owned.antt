-- A connection that ended with its sessions owns none.
use Rattle.std.proofs.Common.{◌≡◌, ℕ, List, [], ◌∷◌, ◌++◌, Bool, true, false, cond, map, refl, ◌∙◌, ap, ap₂}
use Rattle.std.specs.Prelude.{◌==◌, not, Option, Some, None, fold, filter}
use Rattle.std.specs.Option.{option_or}
use Rattle.std.proofs.lemmas.List.Sums.{fold-append}
use Rattle.compose_wire.specs.Messages.{Body, open_session, key, reset, close, load, ask, ReplyBody, opened, fed, was_reset, closed, loaded, state, refused}
use Rattle.compose_machine.specs.Laws.{Exchange}
use Rattle.compose_many.specs.Connection.{closes, exchange_of}
use Rattle.compose_many.specs.Service.{NumberedEvent, events_of, numbered}
use Rattle.compose_many.specs.Owners.{owners_when, owners_after, owners_by, owners_of, without, last_own, ClosesOwn, EndedOwnNone}
use Rattle.compose_many.specs.declared.owners.Owner.{Owner}
use Rattle.compose_many.proofs.Owning.{exchanges_closed, owners_on}

-- what is no session of a connection is not owned by it
pub not_own : {X : Type 0} (b : Bool) (x : X) (r : Option X) → option_or r (cond b (Some x) None) ≡ None → (b ≡ false) × (r ≡ None)
not_own b x (Some y) h = absurd (cc)
not_own true x None h = absurd (cc)
not_own false x None h = (refl, refl)

module _ (c : ℕ) where
  -- if the connection owns none, it owns none of fewer sessions
  none_without : (n : ℕ) (owners : List Owner) → last_own c owners ≡ None → last_own c (without n owners) ≡ None
  none_without n [] h = refl
  none_without n (o ∷ owners) h =
      let p = not_own (o.connection == c) o.session (last_own c owners) h in
      by (o.session == n) p.0 (none_without n owners p.1)
    where
      by : (b : Bool) → o.connection == c ≡ false → last_own c (without n owners) ≡ None → last_own c (cond (not b) (o ∷ without n owners) (without n owners)) ≡ None
      by true e r = r
      by false e r = ap₂ (λ (l : Option ℕ) (b : Bool). option_or l (cond b (Some o.session) None)) r e

  -- nor once a session is opened on another connection
  none_with : (d n : ℕ) (owners : List Owner) → d == c ≡ false → last_own c owners ≡ None → last_own c (owners ++ record { session = n; connection = d } ∷ []) ≡ None
  none_with d n [] e h = ap (λ (b : Bool). cond b (Some n) None) e
  none_with d n (o ∷ owners) e h =
      let p = not_own (o.connection == c) o.session (last_own c owners) h in
      ap₂ (λ (l : Option ℕ) (b : Bool). option_or l (cond b (Some o.session) None)) (none_with d n owners e p.1) p.0

  none_when : (d n : ℕ) (owners : List Owner) (b : Body) (a : ReplyBody) → d == c ≡ false → last_own c owners ≡ None → last_own c (owners_when d n owners b a) ≡ None
  none_when d n owners open_session opened e h = none_with d n (without n owners) e (none_without n owners h)
  none_when d n owners open_session (fed s t u) e h = h
  none_when d n owners open_session was_reset e h = h
  none_when d n owners open_session closed e h = h
  none_when d n owners open_session (loaded m) e h = h
  none_when d n owners open_session (state s p) e h = h
  none_when d n owners open_session (refused r) e h = h
  none_when d n owners close a e h = none_without n owners h
  none_when d n owners (key k) a e h = h
  none_when d n owners reset a e h = h
  none_when d n owners (load r p) a e h = h
  none_when d n owners ask a e h = h

  none_by : (d : ℕ) (owners : List Owner) (h : List Exchange) → d == c ≡ false → last_own c owners ≡ None → last_own c (owners_by d owners h) ≡ None
  none_by d owners [] e n = n
  none_by d owners (x ∷ h) e n = none_by d (owners_after d owners x) h e (none_when d x.request.session owners x.request.body x.reply.answer e n)

  -- whatever happens on others, the connection owns none from then on
  pub none_later : (owners : List Owner) (later : List NumberedEvent) → events_of c later ≡ [] → last_own c owners ≡ None
      → last_own c (fold (λ (o : List Owner) (e : NumberedEvent). owners_by e.connection o (exchange_of e.event)) owners later) ≡ None
  none_later owners [] none h = h
  none_later owners (e ∷ later) none h =
      let p = other (e.connection == c) none in
      none_later (owners_by e.connection owners (exchange_of e.event)) later p.1 (none_by e.connection owners (exchange_of e.event) p.0 h)
    where
      other : (b : Bool) → map (λ (t : NumberedEvent). t.event) (cond b (e ∷ filter (λ (t : NumberedEvent). t.connection == c) later) (filter (λ (t : NumberedEvent). t.connection == c) later)) ≡ []
          → (b ≡ false) × (events_of c later ≡ [])
      other true h = absurd (cc)
      other false rest = (refl, rest)

  closed_each : (owners : List Owner) (h : List Exchange) → ClosesOwn c owners h → last_own c (owners_by c owners h) ≡ None
  closed_each owners [] own = own
  closed_each owners (x ∷ h) own = closed_each (owners_after c owners x) h own.2

-- a connection that ended with its sessions owns none, whatever happened on others since
pub ended_own_none : EndedOwnNone
ended_own_none c all p =
    let step = λ (o : List Owner) (e : NumberedEvent). owners_by e.connection o (exchange_of e.event) in
    let first = owners_of p.before in
    let mine = numbered c (map closes p.closed) in
    let are : owners_of all ≡ fold step (owners_by c first p.closed) p.later =
    ap owners_of p.parts ∙ fold-append step [] p.before (mine ++ p.later) ∙ fold-append step first mine p.later
    ∙ ap (λ (o : List Owner). fold step o p.later) (owners_on c first (map closes p.closed) ∙ ap (owners_by c first) (exchanges_closed p.closed))
    in
    ap (last_own c) are ∙ none_later c (owners_by c first p.closed) p.later p.last (closed_each c first p.closed p.each)
