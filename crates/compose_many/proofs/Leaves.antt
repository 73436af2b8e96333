-- No session is open but those that were before, or that a connection owns.
use Rattle.std.proofs.Common.{◌≡◌, ℕ, List, [], ◌∷◌, ◌++◌, Bool, true, false, cond, map, refl, sym, ◌∙◌, ap, inl, inr, eqb-true, eq-eqb}
use Rattle.std.specs.Prelude.{◌==◌, ◌||◌, ◌⊎◌, not, Option, Some, None, fold, is_some, IsSome, IsNone, option_map}
use Rattle.std.specs.List.{list_any}
use Rattle.std.proofs.lemmas.List.Folds.{list_any-append}
use Rattle.compose_model.specs.Session.{Session, rest, fed as session_fed, loaded as session_loaded}
use Rattle.compose_wire.specs.Messages.{Body, open_session, key, reset, close, load, ask, session_taken, no_session, full, bad_keysym, bad_bundle, table_refused, certificate_refused, verdict_no, no_memory, ReplyBody, opened, fed, was_reset, closed, loaded, state, refused}
use Rattle.compose_machine.specs.Machine.{ServiceState, Reading, Row, Answers, session_of}
use Rattle.compose_machine.specs.Laws.{IsHistory}
use Rattle.compose_machine.proofs.Rows.{session_of-with, session_of-append, session_of-without, session_of-loaded}
use Rattle.compose_many.specs.Connection.{Event, receives, answers, refuses, sends, closes, exchange_of, exchanges}
use Rattle.compose_many.specs.Service.{NumberedEvent}
use Rattle.compose_many.specs.Owners.{owners_when, owners_after, owners_by, owners_of, without, with_owner, last_own, NoSessionStays}
use Rattle.compose_many.specs.declared.owners.Owner.{Owner}
use Rattle.compose_many.proofs.Owned.{not_own, none_later, ended_own_none}

none_there : {P : Type 0} (o : Option Session) → IsNone o → is_some o ≡ true → P
none_there None h p = absurd (cc)
none_there (Some z) h p = absurd (cc)

mapped : (g : Session → Session) (o : Option Session) → is_some (option_map g o) ≡ true → is_some o ≡ true
mapped g None e = e
mapped g (Some z) e = refl

or_true : (b : Bool) → (b || true) ≡ true
or_true true = refl
or_true false = refl

module _ (s : ℕ) where
  abbrev there : ServiceState → Bool
  there st = is_some (session_of st.sessions s)

  abbrev owned : List Owner → Bool
  owned owners = list_any (λ (o : Owner). o.session == s) owners

  -- ---- owners

  owned_without : (n : ℕ) (owners : List Owner) → n == s ≡ false → owned owners ≡ true → owned (without n owners) ≡ true
  owned_without n [] ne h = h
  owned_without n (o ∷ owners) ne h = by (o.session == n) (o.session == s) refl refl h (owned_without n owners ne)
    where
      by : (b d : Bool) → o.session == n ≡ b → o.session == s ≡ d → (d || owned owners) ≡ true → (owned owners ≡ true → owned (without n owners) ≡ true)
          → owned (cond (not b) (o ∷ without n owners) (without n owners)) ≡ true
      by true true e f h r = let no : true ≡ false = sym f ∙ ap (λ (m : ℕ). m == s) (eqb-true o.session n e) ∙ ne in absurd (cc)
      by true false e f h r = r h
      by false true e f h r = ap (λ (x : Bool). x || owned (without n owners)) f
      by false false e f h r = ap (λ (x : Bool). x || owned (without n owners)) f ∙ r h

  owned_last : (n c : ℕ) (owners : List Owner) → n == s ≡ true → owned (with_owner n c owners) ≡ true
  owned_last n c owners e =
      list_any-append (λ (o : Owner). o.session == s) (without n owners) (record { session = n; connection = c } ∷ [])
      ∙ ap (λ (b : Bool). owned (without n owners) || (b || false)) e ∙ or_true (owned (without n owners))

  owned_before : (n c : ℕ) (owners : List Owner) → n == s ≡ false → owned owners ≡ true → owned (with_owner n c owners) ≡ true
  owned_before n c owners ne h =
      list_any-append (λ (o : Owner). o.session == s) (without n owners) (record { session = n; connection = c } ∷ [])
      ∙ ap (λ (b : Bool). b || owned (record { session = n; connection = c } ∷ [])) (owned_without n owners ne h)

  -- ---- one answer

  same_there : (old new : ServiceState) → new ≡ old → there new ≡ true → there old ≡ true
  same_there old new e p = ap there (sym e) ∙ p

  with_there : (rows : List Row) (n : ℕ) (z : Session) (b : Bool) → n == s ≡ b → IsSome (session_of rows n) → is_some (cond b (Some z) (session_of rows s)) ≡ true → is_some (session_of rows s) ≡ true
  with_there rows n z true e some p = ap (λ (m : ℕ). is_some (session_of rows m)) (sym (eqb-true n s e)) ∙ some
  with_there rows n z false e some p = p

  module _ (A : Type 0) (c n : ℕ) (owners : List Owner) (reading : Reading) (old new : ServiceState) (f : there old ≡ true → A ⊎ (owned owners ≡ true)) where
    on_opened : (b : Bool) → n == s ≡ b → is_some (cond b (Some rest) (session_of old.sessions s)) ≡ true → A ⊎ (owned (with_owner n c owners) ≡ true)
    on_opened true e p = inr (owned_last n c owners e)
    on_opened false e p = elim (f p) [ inl a ↦ inl a | inr o ↦ inr (owned_before n c owners e o) ]

    on_closed : (b : Bool) → n == s ≡ b → is_some (cond b None (session_of old.sessions s)) ≡ true → A ⊎ (owned (without n owners) ≡ true)
    on_closed true e p = absurd (cc)
    on_closed false e p = elim (f p) [ inl a ↦ inl a | inr o ↦ inr (owned_without n owners e o) ]

    on_refused : (b : Bool) → n == s ≡ b → IsNone (session_of old.sessions n) → there old ≡ true → A ⊎ (owned (without n owners) ≡ true)
    on_refused true e none p = none_there (session_of old.sessions n) none (ap (λ (m : ℕ). is_some (session_of old.sessions m)) (eqb-true n s e) ∙ p)
    on_refused false e none p = elim (f p) [ inl a ↦ inl a | inr o ↦ inr (owned_without n owners e o) ]

    -- a session that is open after an answer was open before all, or is owned
    step_owned : (b : Body) (a : ReplyBody) → Answers reading old n b a new → there new ≡ true → A ⊎ (owned (owners_when c n owners b a) ≡ true)
    step_owned open_session opened h p =
        on_opened (n == s) refl (sym (ap is_some (ap (λ (t : ServiceState). session_of t.sessions s) h.2 ∙ session_of-append old.sessions n s rest h.0)) ∙ p)
    step_owned open_session (refused session_taken) h p = f (same_there old new h.1 p)
    step_owned open_session (refused full) h p = f (same_there old new h.2 p)
    step_owned open_session (refused no_memory) h p = f (same_there old new h.2 p)
    step_owned (key k) (fed status accepted text) h p =
        f (with_there old.sessions n (session_fed old.table h.0 k) (n == s) refl (ap is_some h.1)
        (sym (ap is_some (ap (λ (t : ServiceState). session_of t.sessions s) h.6 ∙ session_of-with old.sessions n s (session_fed old.table h.0 k) (ap is_some h.1))) ∙ p))
    step_owned (key k) (refused no_session) h p = f (same_there old new h.1 p)
    step_owned (key k) (refused bad_keysym) h p = f (same_there old new h.2 p)
    step_owned reset was_reset h p =
        f (with_there old.sessions n rest (n == s) refl h.0 (sym (ap is_some (ap (λ (t : ServiceState). session_of t.sessions s) h.1 ∙ session_of-with old.sessions n s rest h.0)) ∙ p))
    step_owned reset (refused no_session) h p = f (same_there old new h.1 p)
    step_owned close closed h p = on_closed (n == s) refl (sym (ap is_some (ap (λ (t : ServiceState). session_of t.sessions s) h.1 ∙ session_of-without old.sessions n s)) ∙ p)
    step_owned close (refused no_session) h p = on_refused (n == s) refl h.0 (same_there old new h.1 p)
    step_owned ask (state status pending) h p = f (same_there old new h.1 p)
    step_owned ask (refused no_session) h p = f (same_there old new h.1 p)
    step_owned (load rule bytes) (loaded count) h p =
        f (mapped (session_loaded h.0) (session_of old.sessions s) (sym (ap is_some (ap (λ (t : ServiceState). session_of t.sessions s) h.6 ∙ session_of-loaded h.0 old.sessions s)) ∙ p))
    step_owned (load rule bytes) (refused bad_bundle) h p = f (same_there old new h.1 p)
    step_owned (load rule bytes) (refused table_refused) h p = f (same_there old new h.1 p)
    step_owned (load rule bytes) (refused certificate_refused) h p = f (same_there old new h.1 p)
    step_owned (load rule bytes) (refused verdict_no) h p = f (same_there old new h.4 p)
    step_owned (load rule bytes) (refused no_memory) h p = f (same_there old new h p)
    step_owned _ _ h p = absurd h

  -- ---- everything that happened

  module _ (A : Type 0) (reading : Reading) (new : ServiceState) where
    abbrev step : List Owner → NumberedEvent → List Owner
    step owners e = owners_by e.connection owners (exchange_of e.event)

    abbrev StaysOwned : List NumberedEvent → Type 0
    StaysOwned all = (old : ServiceState) (owners : List Owner) → IsHistory reading old (exchanges (map (λ (e : NumberedEvent). e.event) all)) new → (there old ≡ true → A ⊎ (owned owners ≡ true))
        → there new ≡ true → A ⊎ (owned (fold step owners all) ≡ true)

    event_owned : (all : List NumberedEvent) → StaysOwned all → (c : ℕ) (e : Event) (old : ServiceState) (owners : List Owner)
        → IsHistory reading old (exchange_of e ++ exchanges (map (λ (e : NumberedEvent). e.event) all)) new → (there old ≡ true → A ⊎ (owned owners ≡ true))
        → there new ≡ true → A ⊎ (owned (fold step (owners_by c owners (exchange_of e)) all) ≡ true)
    event_owned all later c (receives piece) old owners h f p = later old owners h f p
    event_owned all later c (answers x) old owners h f p =
        later h.0 (owners_after c owners x) h.2 (step_owned A c x.request.session owners reading old h.0 f x.request.body x.reply.answer h.1.1) p
    event_owned all later c refuses old owners h f p = later old owners h f p
    event_owned all later c (sends bytes) old owners h f p = later old owners h f p
    event_owned all later c (closes x) old owners h f p =
        later h.0 (owners_after c owners x) h.2 (step_owned A c x.request.session owners reading old h.0 f x.request.body x.reply.answer h.1.1) p

    stays_owned : (all : List NumberedEvent) → StaysOwned all
    stays_owned [] old owners h f p = f (same_there old new h p)
    stays_owned (e ∷ all) old owners h f p = event_owned all (stays_owned all) e.connection e.event old owners h f p

nobodys : {P : Type 0} (s : ℕ) (owners : List Owner) → ((c : ℕ) → last_own c owners ≡ None) → list_any (λ (o : Owner). o.session == s) owners ≡ true → P
nobodys s [] none h = absurd (cc)
nobodys s (o ∷ owners) none h =
    let others = not_own (o.connection == o.connection) o.session (last_own o.connection owners) (none o.connection) in
    let no : true ≡ false = sym (eq-eqb o.connection o.connection refl) ∙ others.0 in
    absurd (cc)

-- if each connection ended with its sessions, or nothing happened on it, no session is open but
-- those that were before
pub no_session_stays : NoSessionStays
no_session_stays reading first now all h ended n some =
    elim (stays_owned n (IsSome (session_of first.sessions n)) reading now all first [] h (λ p. inl p) some) [
      | inl a ↦ a
      | inr o ↦ nobodys n (owners_of all) (λ c. elim (ended c) [ inl e ↦ ended_own_none c all e | inr none ↦ none_later c [] all none refl ]) o
    ]
