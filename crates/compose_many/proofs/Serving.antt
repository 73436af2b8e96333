-- Many connections, each by its own events.
use Rattle.std.proofs.Common.{◌≡◌, ℕ, List, [], ◌∷◌, ◌++◌, Bool, true, false, cond, map, refl, sym, ◌∙◌, ap, subst, eqb-true}
use Rattle.std.specs.Prelude.{◌==◌, filter}
use Rattle.compose_machine.specs.Laws.{IsHistory}
use Rattle.compose_many.specs.Connection.{ConnectionState, Event, AllHappen, exchanges}
use Rattle.compose_many.specs.Service.{NumberedEvent, events_of, numbered, EachHasItsOwn, TurnsAreServed, ServedOneAfterAnother}
use Rattle.compose_many.proofs.Happening.{filter-both, map-both, run-both, happen-both}
use Rattle.compose_many.proofs.Own.{has_its_own}

-- each connection gets the replies to its own requests alone, whatever happens on others
pub each_has_its_own : EachHasItsOwn
each_has_its_own limit reading old new before after all c e h =
    has_its_own limit (events_of c all) (after c) (subst (λ (s : ConnectionState). AllHappen limit s (events_of c all) (after c)) e (h.each c))

-- ---- the events of one connection

without_numbers : (c : ℕ) (events : List Event) → map (λ (e : NumberedEvent). e.event) (numbered c events) ≡ events
without_numbers c [] = refl
without_numbers c (e ∷ events) = ap (λ es. e ∷ es) (without_numbers c events)

pub those_of : (c d : ℕ) (events : List Event) → c == d ≡ true → events_of d (numbered c events) ≡ events
those_of c d [] h = refl
those_of c d (e ∷ events) h =
    ap
    (λ b. map (λ (e : NumberedEvent). e.event)
    (cond b (record { connection = c; event = e } ∷ filter (λ (e : NumberedEvent). e.connection == d) (numbered c events))
    (filter (λ (e : NumberedEvent). e.connection == d) (numbered c events)))) h
    ∙ ap (λ es. e ∷ es) (those_of c d events h)

pub none_of : (c d : ℕ) (events : List Event) → c == d ≡ false → events_of d (numbered c events) ≡ []
none_of c d [] h = refl
none_of c d (e ∷ events) h =
    ap
    (λ b. map (λ (e : NumberedEvent). e.event)
    (cond b (record { connection = c; event = e } ∷ filter (λ (e : NumberedEvent). e.connection == d) (numbered c events))
    (filter (λ (e : NumberedEvent). e.connection == d) (numbered c events)))) h
    ∙ none_of c d events h

module _ (limit : ℕ) (before after : ℕ → ConnectionState) (events : List Event) (c : ℕ) (happen : AllHappen limit (before c) events (after c))
    (others : (d : ℕ) → c == d ≡ false → after d ≡ before d) where
  each_by_its_own : (d : ℕ) (b : Bool) → c == d ≡ b → AllHappen limit (before d) (events_of d (numbered c events)) (after d)
  each_by_its_own d true e =
      subst (λ es. AllHappen limit (before d) es (after d)) (sym (those_of c d events e)) (subst (λ (n : ℕ). AllHappen limit (before n) events (after n)) (eqb-true c d e) happen)
  each_by_its_own d false e = subst (λ es. AllHappen limit (before d) es (after d)) (sym (none_of c d events e)) (others d e)

  pub each_of : (d : ℕ) → AllHappen limit (before d) (events_of d (numbered c events)) (after d)
  each_of d = each_by_its_own d (c == d) refl

-- events of one connection, while no other changes, are events of the service
pub turns_are_served : TurnsAreServed
turns_are_served limit reading old new before after events c happen run others = record {
  run = subst (λ es. IsHistory reading old (exchanges es) new) (sym (without_numbers c events)) run;
  each = each_of limit before after events c happen others;
}

-- ---- one after the other

pub events_of-both : (c : ℕ) (first second : List NumberedEvent) → events_of c (first ++ second) ≡ events_of c first ++ events_of c second
events_of-both c first second =
    ap (λ es. map (λ (e : NumberedEvent). e.event) es) (filter-both (λ (e : NumberedEvent). e.connection == c) first second)
    ∙ map-both (λ (e : NumberedEvent). e.event) (filter (λ (e : NumberedEvent). e.connection == c) first) (filter (λ (e : NumberedEvent). e.connection == c) second)

-- what happened on many connections, and what happened from there on, happened one after the other
pub served_one_after_another : ServedOneAfterAnother
served_one_after_another limit reading old mid new before between after first second x y = record {
  run =
      subst (λ es. IsHistory reading old (exchanges es) new) (sym (map-both (λ (e : NumberedEvent). e.event) first second))
      (run-both reading old mid new (map (λ (e : NumberedEvent). e.event) first) (map (λ (e : NumberedEvent). e.event) second) x.run y.run);
  each =
      λ c. subst (λ es. AllHappen limit (before c) es (after c)) (sym (events_of-both c first second))
      (happen-both limit (before c) (between c) (after c) (events_of c first) (events_of c second) (x.each c) (y.each c));
}
