-- What happened on all connections, after one more step.
use Rattle.std.proofs.Common.{◌≡◌, ◌≢◌, ℕ, ◌+◌, ◌-◌, ◌<◌, ◌≤◌, List, [], ◌∷◌, ◌++◌, Bool, true, false, cond, length, get_or, set, max, refl, sym, ◌∙◌, ap, subst, inl, inr, eq-eqb, eqb-true, append_assoc, append-nil, length-append, arith}
use Rattle.std.proofs.lemmas.Bool.{eqb-false, leb-true}
use Rattle.std.proofs.lemmas.List.{get_or_default, set-get_or}
use Rattle.std.specs.Prelude.{◌==◌, ◌&&◌, ◌⊎◌, map, Option, Some, None, Result, Ok, Err, filter, nat_le, IsSome}
use Rattle.std.specs.List.{AllByRecursion, list_all}
use Rattle.std.specs.Option.{is_none}
use Rattle.std.specs.Io.KnownBytes.{Consumes, Appends}
use Rattle.std.proofs.KnownBytes.{Consumes-nil, Appends-nil}
use Rattle.compose_machine.specs.Machine.{ServiceState, Reading}
use Rattle.compose_machine.specs.Laws.{Exchange}
use Rattle.compose_many.specs.Connection.{ConnectionState, new_connection, Event, closes, received, exchanges, closings, sent}
use Rattle.compose_many.specs.Owners.{owners_by, owners_of, ClosesOwn, ClosedNone, ClosedAtEnd}
use Rattle.compose_many.specs.declared.owners.Owner.{Owner}
use Rattle.compose_many.proofs.Owning.{turn_closed, exchanges_closed, owners_both, owners_more, none_closed_own, none_closed_other, closed_other, ended_own}
use Rattle.compose_many.specs.Service.{NumberedEvent, events_of, numbered}
use Rattle.compose_many.specs.Turns.{IsTurn}
use Rattle.compose_many.specs.Numbered.{StreamState}
use Rattle.compose_many.proofs.Happening.{filter-both}
use Rattle.compose_many.proofs.OneOfMany.{turns_are_streamed, streamed_one_after_another}
use Rattle.compose_hub.specs.Sockets.{AllStay, BytesStay, KeepsBytes, StaysFailed}
use Rattle.compose_hub.specs.Ends.{ReportedEnd, reported_more, HasEnded, times_reported, max_held, ReportsEnd}
use Rattle.compose_many.specs.Streams.{is_failed}
use Rattle.compose_many.specs.declared.turn.Turn.{Turn}
use Rattle.compose_many.specs.declared.turn.Turn.TheVariants.{GoesOn, Loaded, Waits, NeedsRoom, Ends}
use Rattle.compose_hub.specs.Turns.{OwnedService, AreTurns, LeavesAs}
use Rattle.compose_hub.specs.Serving.{World, world, Now, at_now, world_now, ClosesLast, ClosesAfter, AreNumberedTo, ServesMany, EachIsReported, StandsAs, GoesOnOrEnds, SlotFollows, ClosesAs, SlotGoesOn, SlotTurnsAs, AcceptsAs, AllAreStill, IsIn, HasNone, IsServed, ServedSoFar}
use Rattle.compose_hub.specs.Rounds.{is_done, why_ended, SlotGivesUp}
use Rattle.compose_hub.specs.Slots.{uses_room, patience, is_stalled, is_idle}
use Rattle.compose_hub.specs.declared.client.Client.{Client}
use Rattle.compose_hub.specs.declared.client.Limits.{Limits}
use Rattle.compose_many.specs.Ends.{EndsAs}
use Rattle.compose_serve.specs.declared.ends.StreamEnd.{StreamEnd}
use Rattle.compose_serve.specs.declared.ends.StreamEnd.TheVariants.{InputEnd, Malformed}
use Rattle.compose_serve.specs.declared.ends.ServeFault.{ServeFault}
use Rattle.compose_serve.specs.declared.ends.ServeFault.TheVariants.{Read, Write, Cut, TooManyFrames, NoMemory}
use Rattle.compose_hub.specs.declared.ends.ConnectionEnd.{ConnectionEnd}
use Rattle.compose_hub.specs.declared.ends.ConnectionEnd.TheVariants.{Served, Stalled, Idle}
use Rattle.compose_hub.proofs.Turns.{closed, are_both, are_closed}
use Rattle.compose_hub.proofs.Slots.{IsAt, at_slot, in_slot, same_or, still_at_first, still_back, still_forth, all_free}

-- ---- lists

pub all_map : {X : Type 0} (P Q : X → Type 0) → ((x : X) → P x → Q x) → (xs : List X) → AllByRecursion P xs → AllByRecursion Q xs
all_map P Q f [] a = tt
all_map P Q f (x ∷ xs) a = (f x a.0, all_map P Q f xs a.1)

pub all_both : {X : Type 0} (P : X → Type 0) (xs ys : List X) → AllByRecursion P xs → AllByRecursion P ys → AllByRecursion P (xs ++ ys)
all_both P [] ys a b = b
all_both P (x ∷ xs) ys a b = (a.0, all_both P xs ys a.1 b)

pub numbered_to : (last n : ℕ) (events : List Event) → 0 < n → n ≤ last → AreNumberedTo last (numbered n events)
numbered_to last n [] some le = tt
numbered_to last n (e ∷ events) some le = ((some, le), numbered_to last n events some le)

pub reported_both : (reported : Option (List ReportedEnd)) (a b : List ReportedEnd) → reported_more (reported_more reported a) b ≡ reported_more reported (a ++ b)
reported_both None a b = refl
reported_both (Some ends) a b = ap (λ (es : List ReportedEnd). Some es) (append_assoc ends a b)

pub reported_none : (reported : Option (List ReportedEnd)) → reported ≡ reported_more reported []
reported_none None = refl
reported_none (Some ends) = ap (λ (es : List ReportedEnd). Some es) (sym (append-nil ends))

one_reported : (n : ℕ) (e : ReportedEnd) (b : Bool) → e.number == n ≡ b → times_reported n (e ∷ []) ≡ cond b 1 0
one_reported n e b h = by (e.number == n) ∙ ap (λ (c : Bool). cond c 1 0) h
  where
    by : (c : Bool) → length (cond c (e ∷ []) []) ≡ cond c 1 0
    by true = refl
    by false = refl

times_more : (n : ℕ) (ends : List ReportedEnd) (e : ReportedEnd) (b : Bool) → e.number == n ≡ b → times_reported n (ends ++ e ∷ []) ≡ times_reported n ends + cond b 1 0
times_more n ends e b h =
    ap (λ (es : List ReportedEnd). length es) (filter-both (λ (t : ReportedEnd). t.number == n) ends (e ∷ []))
    ∙ length-append (filter (λ (t : ReportedEnd). t.number == n) ends) (filter (λ (t : ReportedEnd). t.number == n) (e ∷ []))
    ∙ ap (λ (m : ℕ). times_reported n ends + m) (one_reported n e b h)

not_reported : (b : Bool) (e : ReportedEnd) (rest : List ReportedEnd) → length (cond b (e ∷ rest) rest) ≡ 0 → (b ≡ false) × (length rest ≡ 0)
not_reported true e rest h = absurd (omega arith)
not_reported false e rest h = (refl, h)

-- if the end of this connection isn't reported, what holds for the ends of all others holds for all
pub others_ended : (P Q : ReportedEnd → Type 0) (n : ℕ) → ((e : ReportedEnd) → e.number == n ≡ false → P e → Q e) → (ends : List ReportedEnd) → times_reported n ends ≡ 0 → AllByRecursion P ends → AllByRecursion Q ends
others_ended P Q n f [] none a = tt
others_ended P Q n f (e ∷ ends) none a =
    let no = not_reported (e.number == n) e (filter (λ (t : ReportedEnd). t.number == n) ends) none in
    (f e no.0 a.0, others_ended P Q n f ends no.1 a.1)

pub differ : (m n : ℕ) (b : Bool) → m == n ≡ b → (m ≡ n → ⊥) → m == n ≡ false
differ m n true e f = absurd (f (eqb-true m n e))
differ m n false e f = e

-- whether a connection has ended this way depends only on the bytes that are left of its stream,
-- and on whether that has failed
ends_on : (end : Result StreamEnd ServeFault) (left : Option (List ℕ)) (r w r' w' : Bool) (state : ConnectionState) → (r ≡ true → r' ≡ true) → (w ≡ true → w' ≡ true) → EndsAs end left r w state → EndsAs end left r' w' state
ends_on (Ok InputEnd) left r w r' w' state f g h = h
ends_on (Ok Malformed) left r w r' w' state f g h = h
ends_on (Err Cut) left r w r' w' state f g h = h
ends_on (Err Read) left r w r' w' state f g h = (f h.0, h.1, h.2)
ends_on (Err Write) left r w r' w' state f g h = (g h.0, h.1)
ends_on (Err TooManyFrames) left r w r' w' state f g h = h
ends_on (Err NoMemory) left r w r' w' state f g h = h

has_ended_on : (end : Result StreamEnd ServeFault) (a b : StreamState) (state : ConnectionState) → b.left ≡ a.left → StaysFailed a b → EndsAs end a.left (is_failed a.read_mark) (is_failed a.write_mark) state
    → EndsAs end b.left (is_failed b.read_mark) (is_failed b.write_mark) state
has_ended_on end a b state e stays h =
    subst (λ (l : Option (List ℕ)). EndsAs end l (is_failed b.read_mark) (is_failed b.write_mark) state) (sym e)
    (ends_on end a.left (is_failed a.read_mark) (is_failed a.write_mark) (is_failed b.read_mark) (is_failed b.write_mark) state stays.read stays.write h)

-- ---- when nothing happens

module _ (limits : Limits) (reading : Reading) (first : World) (state : OwnedService) (streams streams' : ℕ → StreamState) (reported : Option (List ReportedEnd)) (stay : BytesStay streams streams') where
  -- the reported ends, on the streams as they are now
  abbrev pub EndsStay : ServesMany limits reading first (world state.service streams reported) → Type 0
  EndsStay s = AllByRecursion (λ (e : ReportedEnd). HasEnded limits e.how (streams' e.number) (s.after e.number)) s.ends

  -- if the bytes of all streams stay, what happened so far is as before
  abbrev serves_still : (s : ServesMany limits reading first (world state.service streams reported)) → EndsStay s → ServesMany limits reading first (world state.service streams' reported)
  serves_still s ended = record {
    all = s.all;
    after = s.after;
    streamed = record {
      served = s.streamed.served;
      read = λ c. subst (λ (l : Option (List ℕ)). Consumes (first.streams c).left l (received (events_of c s.all))) (sym (stay c).0) (s.streamed.read c);
      wrote = λ c. subst (λ (l : Option (List ℕ)). Appends (first.streams c).written l (sent (events_of c s.all))) (sym (stay c).1) (s.streamed.wrote c);
    };
    numbered = s.numbered;
    ends = s.ends;
    reported = s.reported;
    ended = ended;
    closed = s.closed;
    others = s.others;
  }

  module _ (accepted accepted' : ℕ) (slots now : List (Option Client)) (same : accepted' ≡ accepted) (still : AllAreStill slots now) where
    served_back : (n : ℕ) → IsServed now n → IsServed slots n
    served_back n h = let p = still_back (get_or slots h.0 None) (get_or now h.0 None) h.1 (still h.0) h.2 in (h.0, p.0, p.1, sym p.2.0 ∙ h.3)

    served_forth : (n : ℕ) → IsServed slots n → IsServed now n
    served_forth n h = let p = still_forth (get_or slots h.0 None) (get_or now h.0 None) h.1 (still h.0) h.2 in (h.0, p.0, p.1, p.2.0 ∙ h.3)

    -- and if also no further connection is accepted and all clients are unchanged, what was true
    -- stays true
    so_far_still : (s : ServedSoFar limits reading first (at_now state streams reported) accepted slots) → EndsStay s.so_far → ServedSoFar limits reading first (at_now state streams' reported) accepted' now
    so_far_still s ended = record {
      so_far = serves_still s.so_far ended;
      within = (let within = s.within in omega arith);
      few =
          λ key d h. let p = still_back (get_or slots key None) (get_or now key None) d (still key) h in
          let few = s.few key p.0 p.1 in let some = few.0 in let le = few.1 in let number = p.2.0 in (omega arith, omega arith);
      each = λ key d h. let p = still_back (get_or slots key None) (get_or now key None) d (still key) h in p.2.1 ∙ s.each key p.0 p.1 ∙ ap s.so_far.after (sym p.2.0);
      apart =
          λ j k b c hb hc e. let p = still_back (get_or slots j None) (get_or now j None) b (still j) hb in let q = still_back (get_or slots k None) (get_or now k None) c (still k) hc in
          s.apart j k p.0 q.0 p.1 q.1 (sym p.2.0 ∙ e ∙ q.2.0);
      later = λ n past. s.later n (omega arith);
      unreported = λ n past. s.unreported n (omega arith);
      served = λ n h. s.served n (served_back n h);
      ended = λ n some le. elim (s.ended n some (omega arith)) [ inl h ↦ inl (served_forth n h) | inr e ↦ inr e ];
      owners = s.owners;
      none_closed = s.none_closed;
    }

pub stays : (streams streams' : ℕ → StreamState) → AllStay streams streams' → BytesStay streams streams'
stays streams streams' h c = (ap (λ (t : StreamState). t.left) (h c), ap (λ (t : StreamState). t.written) (h c))

pub keeps : (number : ℕ) (streams streams' : ℕ → StreamState) → KeepsBytes number streams streams' → BytesStay streams streams'
keeps number streams streams' h c = elim (same_or c number (c == number) refl) [
  | inl e ↦ subst (λ (n : ℕ). ((streams' n).left ≡ (streams n).left) × ((streams' n).written ≡ (streams n).written)) (sym e) (h.left, h.written)
  | inr ne ↦ (ap (λ (t : StreamState). t.left) (h.others c ne), ap (λ (t : StreamState). t.written) (h.others c ne))
]

module _ (limits : Limits) (reading : Reading) (first : World) (state : OwnedService) (streams streams' : ℕ → StreamState) (reported : Option (List ReportedEnd)) where
  -- if all streams stay, so do the reported ends,
  ends_stay : AllStay streams streams' → (s : ServesMany limits reading first (world state.service streams reported))
      → AllByRecursion (λ (e : ReportedEnd). HasEnded limits e.how (streams' e.number) (s.after e.number)) s.ends
  ends_stay stay s =
      all_map (λ (e : ReportedEnd). HasEnded limits e.how (streams e.number) (s.after e.number)) (λ (e : ReportedEnd). HasEnded limits e.how (streams' e.number) (s.after e.number))
      (λ e h. subst (λ (t : StreamState). HasEnded limits e.how t (s.after e.number)) (sym (stay e.number)) h) s.ends s.ended

  -- and also if all stay but one on which no connection has ended
  ends_keep : (number : ℕ) → KeepsBytes number streams streams' → (s : ServesMany limits reading first (world state.service streams reported)) → times_reported number s.ends ≡ 0
      → AllByRecursion (λ (e : ReportedEnd). HasEnded limits e.how (streams' e.number) (s.after e.number)) s.ends
  ends_keep number keep s none =
      others_ended (λ (e : ReportedEnd). HasEnded limits e.how (streams e.number) (s.after e.number)) (λ (e : ReportedEnd). HasEnded limits e.how (streams' e.number) (s.after e.number)) number
      (λ e ne h. subst (λ (t : StreamState). HasEnded limits e.how t (s.after e.number)) (sym (keep.others e.number (eqb-false e.number number ne))) h) s.ends none s.ended

  -- if all streams stay, what happened so far is as before
  pub serves_stay : AllStay streams streams' → ServesMany limits reading first (world state.service streams reported) → ServesMany limits reading first (world state.service streams' reported)
  serves_stay stay s = serves_still limits reading first state streams streams' reported (stays streams streams' stay) s (ends_stay stay s)

  -- and if also no further connection is accepted and all clients are unchanged, what was true
  -- stays true
  pub still_so_far : AllStay streams streams' → (accepted accepted' : ℕ) (slots now : List (Option Client)) → accepted' ≡ accepted → AllAreStill slots now
      → ServedSoFar limits reading first (at_now state streams reported) accepted slots → ServedSoFar limits reading first (at_now state streams' reported) accepted' now
  still_so_far stay accepted accepted' slots now same still s =
      so_far_still limits reading first state streams streams' reported (stays streams streams' stay) accepted accepted' slots now same still s (ends_stay stay s.so_far)

  -- before a connection is accepted, its stream is not yet one on which a connection has ended
  so_far_accepting : (accepted : ℕ) (slots : List (Option Client)) → KeepsBytes (accepted + 1) streams streams' → ServedSoFar limits reading first (at_now state streams reported) accepted slots
      → ServedSoFar limits reading first (at_now state streams' reported) accepted slots
  so_far_accepting accepted slots keep s =
      so_far_still limits reading first state streams streams' reported (keeps (accepted + 1) streams streams' keep) accepted accepted slots slots refl (still_at_first slots) s
      (ends_keep (accepted + 1) keep s.so_far (s.unreported (accepted + 1) (omega arith)))

-- ---- the turns of a client

module _ (limits : Limits) (reading : Reading) (first : World) (old new : OwnedService) (streams streams' : ℕ → StreamState) (reported : Option (List ReportedEnd)) (accepted : ℕ) (slots : List (Option Client))
    (s : ServedSoFar limits reading first (at_now old streams reported) accepted slots) (key : ℕ) (lt : key < length slots) (c : Client) (here : IsIn slots key c) (events : List Event) (state : ConnectionState)
    (are : AreTurns limits.unsent reading old.service new.service c.number streams streams' c.connection state events) (owners : new.owners ≡ owners_by c.number old.owners (exchanges events))
    (at_own : ClosedNone c.number (s.so_far.all ++ numbered c.number events) ⊎ ClosedAtEnd limits.own_sessions c.number (s.so_far.all ++ numbered c.number events)) where
  abbrev after : ℕ → ConnectionState
  after n = cond (c.number == n) state (s.so_far.after n)

  pub after_own : after c.number ≡ state
  after_own = ap (λ b. cond b state (s.so_far.after c.number)) (eq-eqb c.number c.number refl)

  pub after_other : (n : ℕ) → c.number == n ≡ false → after n ≡ s.so_far.after n
  after_other n e = ap (λ b. cond b state (s.so_far.after n)) e

  pub own_unreported : times_reported c.number s.so_far.ends ≡ 0
  own_unreported = s.served c.number (key, c, here, refl)

  abbrev pub all_turned : List NumberedEvent
  all_turned = s.so_far.all ++ numbered c.number events

  owners_turned : new.owners ≡ owners_of all_turned
  owners_turned = owners ∙ ap (λ (o : List Owner). owners_by c.number o (exchanges events)) s.owners ∙ sym (owners_more c.number s.so_far.all events)

  -- the sessions that were closed for each connection, once this one had its turns
  pub others_turned : (n : ℕ) (b : Bool) → c.number == n ≡ b → ClosedNone n all_turned ⊎ ClosedAtEnd limits.own_sessions n all_turned
  others_turned n true e = subst (λ (m : ℕ). ClosedNone m all_turned ⊎ ClosedAtEnd limits.own_sessions m all_turned) (eqb-true c.number n e) at_own
  others_turned n false e = elim (s.so_far.others n) [
    | inl none ↦ inl (none_closed_other c.number s.so_far.all events n e none)
    | inr h ↦ inr (closed_other c.number s.so_far.all events limits.own_sessions n e h)
  ]

  -- what happened so far, and these turns
  abbrev pub serves_turned : ServesMany limits reading first (world new.service streams' reported)
  serves_turned = record {
    all = s.so_far.all ++ numbered c.number events;
    after = after;
    streamed =
        streamed_one_after_another (max limits.unsent 1) reading first.service old.service new.service (λ n. new_connection) s.so_far.after after first.streams streams streams' s.so_far.all (numbered c.number events) s.so_far.streamed
        (turns_are_streamed (max limits.unsent 1) reading old.service new.service s.so_far.after after streams streams' events c.number
        (subst (λ (t : ConnectionState). IsTurn (max limits.unsent 1) reading old.service new.service t (after c.number) (streams c.number).left (streams' c.number).left (streams c.number).written (streams' c.number).written events)
        (s.each key c here)
        (subst (λ (t : ConnectionState). IsTurn (max limits.unsent 1) reading old.service new.service c.connection t (streams c.number).left (streams' c.number).left (streams c.number).written (streams' c.number).written events)
        (sym after_own) are.turn))
        (λ d ne. after_other d (differ c.number d (c.number == d) refl (λ same. ne (sym same)))) are.others);
    numbered =
        all_both (λ (e : NumberedEvent). (0 < e.connection) × (e.connection ≤ limits.connections)) s.so_far.all (numbered c.number events) s.so_far.numbered
        (numbered_to limits.connections c.number events (s.few key c here).0 (let le = (s.few key c here).1 in let within = s.within in omega arith));
    ends = s.so_far.ends;
    reported = s.so_far.reported;
    ended =
        others_ended (λ (e : ReportedEnd). HasEnded limits e.how (streams e.number) (s.so_far.after e.number)) (λ (e : ReportedEnd). HasEnded limits e.how (streams' e.number) (after e.number)) c.number
        (λ e ne h. subst (λ (t : ConnectionState). HasEnded limits e.how (streams' e.number) t)
        (sym (after_other e.number (differ c.number e.number (c.number == e.number) refl (λ same. eqb-false e.number c.number ne (sym same)))))
        (subst (λ (t : StreamState). HasEnded limits e.how t (s.so_far.after e.number)) (sym (are.others e.number (eqb-false e.number c.number ne))) h)) s.so_far.ends own_unreported s.so_far.ended;
    closed =
        others_ended (λ (e : ReportedEnd). ClosedAtEnd limits.own_sessions e.number s.so_far.all) (λ (e : ReportedEnd). ClosedAtEnd limits.own_sessions e.number all_turned) c.number
        (λ e ne h. closed_other c.number s.so_far.all events limits.own_sessions e.number
        (differ c.number e.number (c.number == e.number) refl (λ same. eqb-false e.number c.number ne (sym same))) h) s.so_far.ends own_unreported s.so_far.closed;
    others = λ n. others_turned n (c.number == n) refl;
  }

  later_on : (n : ℕ) → accepted < n → after n ≡ new_connection
  later_on n past = let le = (s.few key c here).1 in after_other n (differ c.number n (c.number == n) refl (λ same. absurd (omega arith))) ∙ s.later n past

  -- the client that was in a slot, when another slot is written
  number_apart : (j : ℕ) (d : Client) → j ≢ key → IsIn slots j d → c.number == d.number ≡ false
  number_apart j d ne h = differ c.number d.number (c.number == d.number) refl (λ same. ne (s.apart j key d c h here (sym same)))

  is_own : (d : Client) → IsIn slots key d → d ≡ c
  is_own d h = let same : Some d ≡ Some c = sym h ∙ here in cc

  module _ (x : Option Client) where
    -- if it goes on, this is true of what happened so far
    module _ (none : ClosedNone c.number all_turned) (stands : StandsAs c.number state x) where
      none_turned : (n : ℕ) (b : Bool) → c.number == n ≡ b → times_reported n s.so_far.ends ≡ 0 → ClosedNone n all_turned
      none_turned n true e h = subst (λ (m : ℕ). ClosedNone m all_turned) (eqb-true c.number n e) none
      none_turned n false e h = none_closed_other c.number s.so_far.all events n e (s.none_closed n h)

      own_at : (d : Client) → x ≡ Some d → (d.number ≡ c.number) × (d.connection ≡ state)
      own_at d h =
          let same : Some stands.0 ≡ Some d = sym stands.1 ∙ h in
          let is : stands.0 ≡ d = cc in
          subst (λ (t : Client). (t.number ≡ c.number) × (t.connection ≡ state)) is (stands.2, stands.3)

      few_at : (j : ℕ) (d : Client) → IsAt slots key x j d → (0 < d.number) × (d.number ≤ accepted)
      few_at j d (inl p) = subst (λ (n : ℕ). (0 < n) × (n ≤ accepted)) (sym (own_at d p.1).0) (s.few key c here)
      few_at j d (inr p) = s.few j d p.1

      each_at : (j : ℕ) (d : Client) → IsAt slots key x j d → d.connection ≡ after d.number
      each_at j d (inl p) = (own_at d p.1).1 ∙ sym after_own ∙ ap after (sym (own_at d p.1).0)
      each_at j d (inr p) = s.each j d p.1 ∙ sym (after_other d.number (number_apart j d p.0 p.1))

      apart_at : (j k : ℕ) (b d : Client) → IsAt slots key x j b → IsAt slots key x k d → b.number ≡ d.number → j ≡ k
      apart_at j k b d (inl p) (inl q) e = p.0 ∙ sym q.0
      apart_at j k b d (inl p) (inr q) e = p.0 ∙ sym (s.apart k key d c q.1 here (sym e ∙ (own_at b p.1).0))
      apart_at j k b d (inr p) (inl q) e = s.apart j key b c p.1 here (e ∙ (own_at d q.1).0) ∙ sym q.0
      apart_at j k b d (inr p) (inr q) e = s.apart j k b d p.1 q.1 e

      served_at : (n j : ℕ) (d : Client) → d.number ≡ n → IsAt slots key x j d → times_reported n s.so_far.ends ≡ 0
      served_at n j d e (inl p) = subst (λ (m : ℕ). times_reported m s.so_far.ends ≡ 0) (sym (own_at d p.1).0 ∙ e) own_unreported
      served_at n j d e (inr p) = s.served n (j, d, p.1, e)

      still_served : (n j : ℕ) (d : Client) → d.number ≡ n → IsIn slots j d → (j ≡ key) ⊎ (j ≢ key) → IsServed (set slots key x) n
      still_served n j d e h (inl same) =
          let is = is_own d (subst (λ (k : ℕ). IsIn slots k d) same h) in
          (key, stands.0, in_slot slots key x lt key stands.0 (inl (refl, stands.1)), stands.2 ∙ ap (λ (t : Client). t.number) (sym is) ∙ e)
      still_served n j d e h (inr ne) = (j, d, in_slot slots key x lt j d (inr (ne, h)), e)

      client_turned : ServedSoFar limits reading first (at_now new streams' reported) accepted (set slots key x)
      client_turned = record {
        so_far = serves_turned;
        within = s.within;
        few = λ j d h. few_at j d (at_slot slots key x lt j d h);
        each = λ j d h. each_at j d (at_slot slots key x lt j d h);
        apart = λ j k b d hb hd e. apart_at j k b d (at_slot slots key x lt j b hb) (at_slot slots key x lt k d hd) e;
        later = later_on;
        unreported = s.unreported;
        served = λ n h. served_at n h.0 h.1 h.3 (at_slot slots key x lt h.0 h.1 h.2);
        ended = λ n some le. elim (s.ended n some le) [ inl h ↦ inl (still_served n h.0 h.1 h.3 h.2 (same_or h.0 key (h.0 == key) refl)) | inr e ↦ inr e ];
        owners = owners_turned;
        none_closed = λ n h. none_turned n (c.number == n) refl h;
      }

    -- if it ended and that is reported, its slot is empty, and this is true
    module _ (at_end : ClosedAtEnd limits.own_sessions c.number all_turned) (empty : x ≡ None) (how : ConnectionEnd) (has_ended : HasEnded limits how (streams' c.number) state) (reported' : Option (List ReportedEnd))
        (reports : reported' ≡ reported_more reported (record { number = c.number; how = how } ∷ [])) where
      abbrev end : ReportedEnd
      end = record { number = c.number; how = how }

      abbrev ends : List ReportedEnd
      ends = s.so_far.ends ++ end ∷ []

      left_at : (j : ℕ) (d : Client) → IsAt slots key x j d → (j ≢ key) × IsIn slots j d
      left_at j d (inl p) = let no : None ≡ Some d = sym empty ∙ p.1 in absurd (cc)
      left_at j d (inr p) = p

      left : (j : ℕ) (d : Client) → IsIn (set slots key x) j d → (j ≢ key) × IsIn slots j d
      left j d h = left_at j d (at_slot slots key x lt j d h)

      once_more : (n : ℕ) → c.number == n ≡ false → times_reported n ends ≡ times_reported n s.so_far.ends
      once_more n ne = times_more n s.so_far.ends end false ne ∙ plus (times_reported n s.so_far.ends)
        where
          plus : (m : ℕ) → m + 0 ≡ m
          plus m = omega arith

      own_reported : times_reported c.number ends ≡ 1
      own_reported = times_more c.number s.so_far.ends end true (eq-eqb c.number c.number refl) ∙ ap (λ (m : ℕ). m + 1) own_unreported

      abbrev serves_ended : ServesMany limits reading first (world new.service streams' reported')
      serves_ended = record {
        all = serves_turned.all;
        after = after;
        streamed = serves_turned.streamed;
        numbered = serves_turned.numbered;
        ends = ends;
        reported = reports ∙ ap (λ (t : Option (List ReportedEnd)). reported_more t (end ∷ [])) s.so_far.reported ∙ reported_both first.reported s.so_far.ends (end ∷ []);
        ended =
            all_both (λ (e : ReportedEnd). HasEnded limits e.how (streams' e.number) (after e.number)) s.so_far.ends (end ∷ []) serves_turned.ended
            (subst (λ (t : ConnectionState). HasEnded limits how (streams' c.number) t) (sym after_own) has_ended, tt);
        closed = all_both (λ (e : ReportedEnd). ClosedAtEnd limits.own_sessions e.number all_turned) s.so_far.ends (end ∷ []) serves_turned.closed (at_end, tt);
        others = serves_turned.others;
      }

      gone : (n j : ℕ) (d : Client) → d.number ≡ n → IsIn slots j d → (j ≡ key) ⊎ (j ≢ key) → IsServed (set slots key x) n ⊎ (times_reported n ends ≡ 1)
      gone n j d e h (inl same) =
          let is = is_own d (subst (λ (k : ℕ). IsIn slots k d) same h) in
          inr (subst (λ (m : ℕ). times_reported m ends ≡ 1) (ap (λ (t : Client). t.number) (sym is) ∙ e) own_reported)
      gone n j d e h (inr ne) = inl (j, d, in_slot slots key x lt j d (inr (ne, h)), e)

      reported_before : (n : ℕ) → times_reported n s.so_far.ends ≡ 1 → times_reported n ends ≡ 1
      reported_before n e =
          once_more n
          (differ c.number n (c.number == n) refl (λ same. let none : times_reported n s.so_far.ends ≡ 0 = subst (λ (m : ℕ). times_reported m s.so_far.ends ≡ 0) same own_unreported in absurd (omega arith)))
          ∙ e

      none_ended : (n : ℕ) (b : Bool) → c.number == n ≡ b → times_reported n ends ≡ 0 → ClosedNone n all_turned
      none_ended n true e h =
          let once : times_reported n ends ≡ 1 = subst (λ (m : ℕ). times_reported m ends ≡ 1) (eqb-true c.number n e) own_reported in
          absurd (omega arith)
      none_ended n false e h = none_closed_other c.number s.so_far.all events n e (s.none_closed n (sym (once_more n e) ∙ h))

      client_ended : ServedSoFar limits reading first (at_now new streams' reported') accepted (set slots key x)
      client_ended = record {
        so_far = serves_ended;
        within = s.within;
        few = λ j d h. s.few j d (left j d h).1;
        each = λ j d h. let p = left j d h in s.each j d p.1 ∙ sym (after_other d.number (number_apart j d p.0 p.1));
        apart = λ j k b d hb hd e. s.apart j k b d (left j b hb).1 (left k d hd).1 e;
        later = later_on;
        unreported = λ n past. let le = (s.few key c here).1 in once_more n (differ c.number n (c.number == n) refl (λ same. absurd (omega arith))) ∙ s.unreported n past;
        served =
            λ n h. let p = left h.0 h.1 h.2 in
            once_more n (subst (λ (m : ℕ). c.number == m ≡ false) h.3 (number_apart h.0 h.1 p.0 p.1)) ∙ s.served n (h.0, h.1, p.1, h.3);
        ended =
            λ n some le. elim (s.ended n some le) [ inl h ↦ gone n h.0 h.1 h.3 h.2 (same_or h.0 key (h.0 == key) refl) | inr e ↦ inr (reported_before n e) ];
        owners = owners_turned;
        none_closed = λ n h. none_ended n (c.number == n) refl h;
      }

  pub turned_on : (x : Option Client) → ClosedNone c.number all_turned → StandsAs c.number state x → ServedSoFar limits reading first (at_now new streams' reported) accepted (set slots key x)
  turned_on x none stands = client_turned x none stands

  pub turned_out : (x : Option Client) → ClosedAtEnd limits.own_sessions c.number all_turned → x ≡ None → (how : ConnectionEnd) → HasEnded limits how (streams' c.number) state → (reported' : Option (List ReportedEnd))
      → reported' ≡ reported_more reported (record { number = c.number; how = how } ∷ []) → ServedSoFar limits reading first (at_now new streams' reported') accepted (set slots key x)
  turned_out x at_end empty how has_ended reported' reports = client_ended x at_end empty how has_ended reported' reports

-- if both tests together hold, each does
pub both_hold : (a b : Bool) → (a && b) ≡ true → (a ≡ true) × (b ≡ true)
both_hold true true h = (refl, refl)
both_hold true false h = absurd (cc)
both_hold false b h = absurd (cc)

-- ---- a slot once its connection had its turns, or none

stays_keep : (number : ℕ) (streams streams' : ℕ → StreamState) → AllStay streams streams' → KeepsBytes number streams streams'
stays_keep number streams streams' h = record { left = ap (λ (t : StreamState). t.left) (h number); written = ap (λ (t : StreamState). t.written) (h number); others = λ c ne. h c }

keeps_of : (turn : Turn) (number : ℕ) (streams streams' : ℕ → StreamState) → ClosesAs turn number streams streams' → KeepsBytes number streams streams'
keeps_of GoesOn number streams streams' h = stays_keep number streams streams' h
keeps_of Loaded number streams streams' h = stays_keep number streams streams' h
keeps_of Waits number streams streams' h = stays_keep number streams streams' h
keeps_of NeedsRoom number streams streams' h = stays_keep number streams streams' h
keeps_of (Ends how) number streams streams' h = h.0

-- a stream that failed stays so
stays_failed : (a b : StreamState) → b ≡ a → StaysFailed a b
stays_failed a b e = record { read = λ h. ap (λ (t : StreamState). is_failed t.read_mark) e ∙ h; write = λ h. ap (λ (t : StreamState). is_failed t.write_mark) e ∙ h }

failed_of : (turn : Turn) (number : ℕ) (streams streams' : ℕ → StreamState) → ClosesAs turn number streams streams' → StaysFailed (streams number) (streams' number)
failed_of GoesOn number streams streams' h = stays_failed (streams number) (streams' number) (h number)
failed_of Loaded number streams streams' h = stays_failed (streams number) (streams' number) (h number)
failed_of Waits number streams streams' h = stays_failed (streams number) (streams' number) (h number)
failed_of NeedsRoom number streams streams' h = stays_failed (streams number) (streams' number) (h number)
failed_of (Ends how) number streams streams' h = h.1

goes_on_as : (limits : Limits) (c : Client) (after state : ConnectionState) (stream : StreamState) (now : Option Client) (ended : Option (ℕ × ConnectionEnd)) → state ≡ after → ended ≡ None → StandsAs c.number state now
    → GoesOnOrEnds limits c after stream now ended
goes_on_as limits c after state stream now ended same none stands =
    subst (λ (e : Option (ℕ × ConnectionEnd)). GoesOnOrEnds limits c after stream now e) (sym none)
    (subst (λ (s : ConnectionState). StandsAs c.number s now) same stands)

-- after turns, a slot goes on with its connection as they left it, or its connection ended
slot_follows : (limits : Limits) (turn : Turn) (time : ℕ) (c : Client) (after state : ConnectionState) (stream stream' : StreamState) (now : Option Client) (ended : Option (ℕ × ConnectionEnd)) → stream'.left ≡ stream.left → StaysFailed stream stream'
    → LeavesAs turn after state stream → SlotFollows turn time c state now ended → GoesOnOrEnds limits c after stream' now ended
slot_follows limits GoesOn time c after state stream stream' now ended same failed leaves h = goes_on_as limits c after state stream' now ended leaves h.0 h.1
slot_follows limits Loaded time c after state stream stream' now ended same failed leaves h = goes_on_as limits c after state stream' now ended leaves h.0 h.1
slot_follows limits Waits time c after state stream stream' now ended same failed leaves h = goes_on_as limits c after state stream' now ended leaves h.0 h.1
slot_follows limits NeedsRoom time c after state stream stream' now ended same failed leaves h = goes_on_as limits c after state stream' now ended leaves h.0 h.1
slot_follows limits (Ends how) time c after state stream stream' now ended same failed leaves h =
    subst (λ (e : Option (ℕ × ConnectionEnd)). GoesOnOrEnds limits c after stream' now e) (sym h.1)
    (h.0, refl, has_ended_on how stream stream' after same failed leaves)

-- if sessions don't end with their connection, no session is closed without a request
none_last : (ended : Option (ℕ × ConnectionEnd)) (number : ℕ) (owners : List Owner) (events : List Event) → closings events ≡ [] → ClosesLast ended false number owners events
none_last None number owners events h = h
none_last (Some e) number owners events h = h

-- turns of the connection in a slot, if its turn was next
pub slot_turns : (limits : Limits) (time : ℕ) (reading : Reading) (old new : OwnedService) (streams streams' : ℕ → StreamState) (before now : Option Client) (ended : Option (ℕ × ConnectionEnd))
    → SlotTurnsAs limits.unsent time reading old new streams streams' before now ended → SlotGoesOn false limits reading old new streams streams' before now ended
slot_turns limits time reading old new streams streams' before now ended (inl p) = inl (p.0, p.1, p.2, p.3)
slot_turns limits time reading old new streams streams' before now ended (inr p) =
    let c = p.0 in
    let between = p.5 in
    let t = p.6 in
    let kept = keeps_of p.3 c.number between streams' p.7 in
    inr (
      c,
      p.1,
      t.0,
      t.1,
      are_closed limits.unsent reading old.service new.service c.number streams between streams' c.connection t.1 t.0 t.2 kept,
      slot_follows limits p.3 time c t.1 p.4 (between c.number) (streams' c.number) now ended kept.left (failed_of p.3 c.number between streams' p.7) t.5 p.8,
      t.8,
      none_last ended c.number old.owners t.0 t.7,
    )

-- a connection can be idle only if there is a limit on that
idle_is_some : (idle : Option ℕ) (time : ℕ) (c : Client) → is_idle idle time c ≡ true → IsSome idle
idle_is_some None time c h = absurd (cc)
idle_is_some (Some seconds) time c h = refl

-- the state of a connection at each cause of its end
module _ (limits : Limits) (time : ℕ) (c : Client) (stream : StreamState) where
  is_much : is_stalled time c ≡ true → max_held ≤ length c.connection.held
  is_much h =
      let uses = (both_hold (uses_room c) (nat_le patience (time - c.since)) h).0 in
      leb-true max_held (length c.connection.held) (both_hold c.has_room (nat_le max_held (length c.connection.held)) uses).1

  by_idle : (b : Bool) (how : ConnectionEnd) → is_idle limits.idle time c ≡ b → cond b (Some Idle) None ≡ Some how → HasEnded limits how stream c.connection
  by_idle true how e h = let is : Idle ≡ how = cc in subst (λ (end : ConnectionEnd). HasEnded limits end stream c.connection) is (idle_is_some limits.idle time c e)
  by_idle false how e h = absurd (cc)

  by_stalled : (others b : Bool) (how : ConnectionEnd) → (others && is_stalled time c) ≡ b → cond b (Some Stalled) (cond (is_idle limits.idle time c) (Some Idle) None) ≡ Some how
      → HasEnded limits how stream c.connection
  by_stalled others true how e h =
      let is : Stalled ≡ how = cc in
      subst (λ (end : ConnectionEnd). HasEnded limits end stream c.connection) is (is_much (both_hold others (is_stalled time c) e).1)
  by_stalled others false how e h = by_idle (is_idle limits.idle time c) how refl h

  ended_because : (others : Bool) (how : ConnectionEnd) → why_ended limits.idle others time c ≡ Some how → HasEnded limits how stream c.connection
  ended_because others how h = by_stalled others (others && is_stalled time c) how refl h

-- the end of the connection in a slot, if there was a cause
pub slot_gives_up : (limits : Limits) (others : Bool) (time : ℕ) (reading : Reading) (state : OwnedService) (streams streams' : ℕ → StreamState) (before now : Option Client) (ended : Option (ℕ × ConnectionEnd))
    → SlotGivesUp limits.idle others time streams streams' before now ended → SlotGoesOn false limits reading state state streams streams' before now ended
slot_gives_up limits others time reading state streams streams' before now None p = inl (refl, p.0, p.1, refl)
slot_gives_up limits others time reading state streams streams' before now (Some e) p =
    let c = p.0 in
    inr (
      c,
      p.1,
      [],
      c.connection,
      closed limits.unsent reading state.service c.number streams streams' c.connection p.5,
      (p.3, p.4, ended_because limits time c (streams' c.number) others e.1 p.2),
      refl,
      refl,
    )

-- ---- the sessions of a connection that ended

module _ (limits : Limits) (reading : Reading) (old mid new : OwnedService) (streams streams' : ℕ → StreamState) (before now : Option Client) where
  -- Closes after the turns of a connection that ended
  closes_more : (e : ℕ × ConnectionEnd) → ClosesAfter (Some e) true reading mid new → SlotGoesOn false limits reading old mid streams streams' before now (Some e)
      → SlotGoesOn true limits reading old new streams streams' before now (Some e)
  closes_more e q (inl p) = let no = p.3 in absurd (cc)
  closes_more e q (inr p) =
      let c = p.0 in
      let h = q.0 in
      let number : e.0 ≡ c.number = p.5.1 in
      let own : ClosesOwn c.number mid.owners h = subst (λ (n : ℕ). ClosesOwn n mid.owners h) number q.1 in
      let owners : new.owners ≡ owners_by c.number mid.owners h = q.3 ∙ ap (λ (n : ℕ). owners_by n mid.owners h) number in
      inr (
        c,
        p.1,
        p.2 ++ map closes h,
        p.3,
        are_both limits.unsent reading old.service mid.service new.service c.number streams streams' streams' c.connection p.3 p.3 p.2 (map closes h) p.4
            (record {
              turn = turn_closed (max limits.unsent 1) reading mid.service new.service c.number mid.owners p.3 (streams' c.number).left (streams' c.number).written h own q.2;
              others = λ d ne. refl;
            }),
        p.5,
        owners ∙ ap (λ (o : List Owner). owners_by c.number o h) p.6 ∙ ap (λ (g : List Exchange). owners_by c.number (owners_by c.number old.owners (exchanges p.2)) g) (sym (exchanges_closed h))
            ∙ sym (owners_both c.number old.owners p.2 (map closes h)),
        (p.2, h, refl, p.7, subst (λ (o : List Owner). ClosesOwn c.number o h) p.6 own),
      )

  -- nothing more
  closes_none : (own : Bool) (ended : Option (ℕ × ConnectionEnd)) → ((number : ℕ) (owners : List Owner) (events : List Event) → ClosesLast ended false number owners events → ClosesLast ended own number owners events)
      → new ≡ mid → SlotGoesOn false limits reading old mid streams streams' before now ended → SlotGoesOn own limits reading old new streams streams' before now ended
  closes_none own ended f same (inl p) = inl (same ∙ p.0, p.1, p.2, p.3)
  closes_none own ended f same (inr p) =
      subst (λ (t : OwnedService). SlotGoesOn own limits reading old t streams streams' before now ended) (sym same)
      (inr (p.0, p.1, p.2, p.3, p.4, p.5, p.6, f p.0.number old.owners p.2 p.7))

  -- the slot of a connection; if it ended and its sessions end with it, these were closed
  pub slot_closes : (own : Bool) (ended : Option (ℕ × ConnectionEnd)) → ClosesAfter ended own reading mid new → SlotGoesOn false limits reading old mid streams streams' before now ended
      → SlotGoesOn own limits reading old new streams streams' before now ended
  slot_closes true (Some e) q h = closes_more e q h
  slot_closes false (Some e) q h = closes_none false (Some e) (λ n o es l. l) q h
  slot_closes own None q h = closes_none own None (λ n o es l. l) q h

-- the end was reported, if there was one
abbrev pub Reports : Option (List ReportedEnd) → Option (List ReportedEnd) → Option (ℕ × ConnectionEnd) → Type 0
Reports reported reported' ended = ReportsEnd {X = Unit {0}} {Y = Unit {0}} reported reported' ended (Ok tt)

-- there was an end, and it wasn't reported
abbrev pub NotReported : Option (List ReportedEnd) → Option (List ReportedEnd) → Option (ℕ × ConnectionEnd) → Type 0
NotReported reported reported' ended = ReportsEnd {X = Unit {0}} {Y = Unit {0}} reported reported' ended (Err tt)

-- whether an end was reported doesn't depend on the values of the result
pub reports : (X Y : Type 0) (x : X) (reported reported' : Option (List ReportedEnd)) (ended : Option (ℕ × ConnectionEnd)) → ReportsEnd {X = X} {Y = Y} reported reported' ended (Ok x) → Reports reported reported' ended
reports X Y x reported reported' None h = h
reports X Y x reported reported' (Some e) h = h

pub not_reported_end : (X Y : Type 0) (y : Y) (reported reported' : Option (List ReportedEnd)) (ended : Option (ℕ × ConnectionEnd)) → ReportsEnd {X = X} {Y = Y} reported reported' ended (Err y) → NotReported reported reported' ended
not_reported_end X Y y reported reported' None h = absurd h
not_reported_end X Y y reported reported' (Some e) h = h

-- the sessions that were closed once this connection had its turns, or ended
closed_then : (own : Bool) (number : ℕ) (owners : List Owner) (all : List NumberedEvent) (events : List Event) (e : ℕ × ConnectionEnd) → owners ≡ owners_of all → ClosedNone number all
    → ClosesLast (Some e) own number owners events → ClosedAtEnd own number (all ++ numbered number events)
closed_then true number owners all events e same none h =
    subst (λ (es : List Event). ClosedAtEnd true number (all ++ numbered number es)) (sym h.2)
    (ended_own number all h.0 h.1 none h.3 (subst (λ (o : List Owner). ClosesOwn number (owners_by number o (exchanges h.0)) h.1) same h.4))
closed_then false number owners all events e same none h = none_closed_own number all events none h

module _ (limits : Limits) (reading : Reading) (first : World) (old new : OwnedService) (streams streams' : ℕ → StreamState) (reported reported' : Option (List ReportedEnd)) (accepted : ℕ) (slots : List (Option Client))
    (s : ServedSoFar limits reading first (at_now old streams reported) accepted slots) (key : ℕ) (x : Option Client) (lt : key < length slots) where
  same_slots : AllStay streams streams' → new ≡ old → x ≡ get_or slots key None → reported' ≡ reported → ServedSoFar limits reading first (at_now new streams' reported') accepted (set slots key x)
  same_slots stay e same t =
      subst (λ (now : List (Option Client)). ServedSoFar limits reading first (at_now new streams' reported') accepted now) (sym (ap (λ (o : Option Client). set slots key o) same ∙ set-get_or slots key None))
      (subst (λ (state : OwnedService). ServedSoFar limits reading first (at_now state streams' reported') accepted slots) (sym e)
      (subst (λ (r : Option (List ReportedEnd)). ServedSoFar limits reading first (at_now old streams' r) accepted slots) (sym t)
      (still_so_far limits reading first old streams streams' reported stay accepted accepted slots slots refl (still_at_first slots) s)))

  -- no session was closed for a connection that is served
  none_own : (c : Client) → IsIn slots key c → ClosedNone c.number s.so_far.all
  none_own c here = s.none_closed c.number (s.served c.number (key, c, here, refl))

  goes_on : (ended : Option (ℕ × ConnectionEnd)) → Reports reported reported' ended → SlotGoesOn limits.own_sessions limits reading old new streams streams' (get_or slots key None) x ended
      → ServedSoFar limits reading first (at_now new streams' reported') accepted (set slots key x)
  goes_on None t (inl p) = same_slots p.1 p.0 p.2 t
  goes_on None t (inr p) =
      let none = none_closed_own p.0.number s.so_far.all p.2 (none_own p.0 p.1) p.7 in
      subst (λ (r : Option (List ReportedEnd)). ServedSoFar limits reading first (at_now new streams' r) accepted (set slots key x)) (sym t)
      (turned_on limits reading first old new streams streams' reported accepted slots s key lt p.0 p.1 p.2 p.3 p.4 p.6 (inl none) x none p.5)
  goes_on (Some e) t (inl p) = let no = p.3 in absurd (cc)
  goes_on (Some e) t (inr p) =
      let at_end = closed_then limits.own_sessions p.0.number old.owners s.so_far.all p.2 e s.owners (none_own p.0 p.1) p.7 in
      turned_out limits reading first old new streams streams' reported accepted slots s key lt p.0 p.1 p.2 p.3 p.4 p.6 (inr at_end) x at_end p.5.0 e.1 p.5.2 reported'
      (t ∙ ap (λ (n : ℕ). reported_more reported (record { number = n; how = e.1 } ∷ [])) p.5.1)

  fails : (ended : Option (ℕ × ConnectionEnd)) → NotReported reported reported' ended → SlotGoesOn limits.own_sessions limits reading old new streams streams' (get_or slots key None) x ended
      → ServesMany limits reading first (world new.service streams' reported')
  fails None t h = absurd t
  fails (Some e) t (inl p) = let no = p.3 in absurd (cc)
  fails (Some e) t (inr p) =
      let at_end = closed_then limits.own_sessions p.0.number old.owners s.so_far.all p.2 e s.owners (none_own p.0 p.1) p.7 in
      subst (λ (r : Option (List ReportedEnd)). ServesMany limits reading first (world new.service streams' r)) (sym t)
      (serves_turned limits reading first old new streams streams' reported accepted slots s key lt p.0 p.1 p.2 p.3 p.4 p.6 (inr at_end))

  module _ (d : Option Client) (ended : Option (ℕ × ConnectionEnd)) (h : SlotGoesOn limits.own_sessions limits reading old new streams streams' (get_or slots key d) x ended) where
    at_none : SlotGoesOn limits.own_sessions limits reading old new streams streams' (get_or slots key None) x ended
    at_none = subst (λ (o : Option Client). SlotGoesOn limits.own_sessions limits reading old new streams streams' o x ended) (get_or_default slots key d None lt) h

    -- once the connection in a slot had its turns and its end was reported, what happened so far is
    -- what happened before, followed by these turns
    pub slot_goes_on : Reports reported reported' ended → ServedSoFar limits reading first (at_now new streams' reported') accepted (set slots key x)
    slot_goes_on t = goes_on ended t at_none

    -- if its end couldn't be reported, no further end was reported
    pub slot_fails : NotReported reported reported' ended → ServesMany limits reading first (world new.service streams' reported')
    slot_fails t = fails ended t at_none

-- ---- a further connection

module _ (limits : Limits) (reading : Reading) (first : World) (now : Now) (accepted : ℕ) (slots : List (Option Client)) (key : ℕ) (x : Option Client) (lt : key < length slots)
    (s : ServedSoFar limits reading first now accepted slots) (below : accepted < limits.connections) (free : get_or slots key None ≡ None) (stands : StandsAs (accepted + 1) new_connection x) where
  new_at : (d : Client) → x ≡ Some d → (d.number ≡ accepted + 1) × (d.connection ≡ new_connection)
  new_at d h =
      let same : Some stands.0 ≡ Some d = sym stands.1 ∙ h in
      let is : stands.0 ≡ d = cc in
      subst (λ (t : Client). (t.number ≡ accepted + 1) × (t.connection ≡ new_connection)) is (stands.2, stands.3)

  more_few : (j : ℕ) (d : Client) → IsAt slots key x j d → (0 < d.number) × (d.number ≤ accepted + 1)
  more_few j d (inl p) = let e = (new_at d p.1).0 in (omega arith, omega arith)
  more_few j d (inr p) = let some = (s.few j d p.1).0 in let e = (s.few j d p.1).1 in (some, omega arith)

  more_each : (j : ℕ) (d : Client) → IsAt slots key x j d → d.connection ≡ s.so_far.after d.number
  more_each j d (inl p) = (new_at d p.1).1 ∙ sym (s.later (accepted + 1) (omega arith)) ∙ ap s.so_far.after (sym (new_at d p.1).0)
  more_each j d (inr p) = s.each j d p.1

  more_apart : (j k : ℕ) (b d : Client) → IsAt slots key x j b → IsAt slots key x k d → b.number ≡ d.number → j ≡ k
  more_apart j k b d (inl p) (inl q) e = p.0 ∙ sym q.0
  more_apart j k b d (inl p) (inr q) e = let f = (new_at b p.1).0 in let g = (s.few k d q.1).1 in absurd (omega arith)
  more_apart j k b d (inr p) (inl q) e = let f = (new_at d q.1).0 in let g = (s.few j b p.1).1 in absurd (omega arith)
  more_apart j k b d (inr p) (inr q) e = s.apart j k b d p.1 q.1 e

  more_served : (n j : ℕ) (d : Client) → d.number ≡ n → IsAt slots key x j d → times_reported n s.so_far.ends ≡ 0
  more_served n j d e (inl p) = subst (λ (m : ℕ). times_reported m s.so_far.ends ≡ 0) (sym (new_at d p.1).0 ∙ e) (s.unreported (accepted + 1) (omega arith))
  more_served n j d e (inr p) = s.served n (j, d, p.1, e)

  kept : (n j : ℕ) (d : Client) → d.number ≡ n → IsIn slots j d → IsServed (set slots key x) n
  kept n j d e h =
      (j, d, in_slot slots key x lt j d (inr ((λ same. let g = subst (λ (k : ℕ). IsIn slots k d) same h in let no : None ≡ Some d = sym free ∙ g in absurd (cc)), h)), e)

  last_or : (n : ℕ) → n ≤ accepted + 1 → (n ≤ accepted) ⊎ (n ≡ accepted + 1)
  last_or n le = elim (same_or n (accepted + 1) (n == accepted + 1) refl) [ inl e ↦ inr e | inr ne ↦ inl (omega arith) ]

  more_ended : (n : ℕ) → 0 < n → (n ≤ accepted) ⊎ (n ≡ accepted + 1) → IsServed (set slots key x) n ⊎ (times_reported n s.so_far.ends ≡ 1)
  more_ended n some (inl le) = elim (s.ended n some le) [ inl h ↦ inl (kept n h.0 h.1 h.3 h.2) | inr e ↦ inr e ]
  more_ended n some (inr e) = inl (key, stands.0, in_slot slots key x lt key stands.0 (inl (refl, stands.1)), stands.2 ∙ sym e)

  -- one further connection, in a slot that was free
  pub one_accepted : ServedSoFar limits reading first now (accepted + 1) (set slots key x)
  one_accepted = record {
    so_far = s.so_far;
    within = omega arith;
    few = λ j d h. more_few j d (at_slot slots key x lt j d h);
    each = λ j d h. more_each j d (at_slot slots key x lt j d h);
    apart = λ j k b d hb hd e. more_apart j k b d (at_slot slots key x lt j b hb) (at_slot slots key x lt k d hd) e;
    later = λ n past. s.later n (omega arith);
    unreported = λ n past. s.unreported n (omega arith);
    served = λ n h. more_served n h.0 h.1 h.3 (at_slot slots key x lt h.0 h.1 h.2);
    ended = λ n some le. more_ended n some (last_or n le);
    owners = s.owners;
    none_closed = s.none_closed;
  }

module _ (limits : Limits) (reading : Reading) (first : World) (state : OwnedService) (streams streams' : ℕ → StreamState) (reported : Option (List ReportedEnd)) (accepted accepted' : ℕ) (slots : List (Option Client))
    (key : ℕ) (slot x : Option Client) (lt : key < length slots) (s : ServedSoFar limits reading first (at_now state streams reported) accepted slots) (below : accepted < limits.connections) (free : slot ≡ None)
    (here : slot ≡ get_or slots key slot) (keep : KeepsBytes (accepted + 1) streams streams') where
  at_key : get_or slots key None ≡ slot
  at_key = sym (here ∙ get_or_default slots key slot None lt)

  before : ServedSoFar limits reading first (at_now state streams' reported) accepted slots
  before = so_far_accepting limits reading first state streams streams' reported accepted slots keep s

  -- after an attempt to accept a connection into a free slot
  pub slot_accepted : AcceptsAs accepted accepted' slot x → ServedSoFar limits reading first (at_now state streams' reported) accepted' (set slots key x)
  slot_accepted (inl p) =
      subst (λ (n : ℕ). ServedSoFar limits reading first (at_now state streams' reported) n (set slots key x)) (sym p.0)
      (subst (λ (now : List (Option Client)). ServedSoFar limits reading first (at_now state streams' reported) accepted now)
      (sym (ap (λ (o : Option Client). set slots key o) (p.1 ∙ sym at_key) ∙ set-get_or slots key None)) before)
  slot_accepted (inr p) =
      subst (λ (n : ℕ). ServedSoFar limits reading first (at_now state streams' reported) n (set slots key x)) (sym p.0)
      (one_accepted limits reading first (at_now state streams' reported) accepted slots key x lt before below (at_key ∙ free) (subst (λ (n : ℕ). StandsAs n new_connection x) p.0 p.1))

-- ---- the start and the end

-- a world in which nothing happened
abbrev pub nothing_happened : (limits : Limits) (reading : Reading) (state : ServiceState) (streams : ℕ → StreamState) (reported : Option (List ReportedEnd))
    → ServesMany limits reading (world state streams reported) (world state streams reported)
nothing_happened limits reading state streams reported = record {
  all = [];
  after = λ n. new_connection;
  streamed = record { served = record { run = refl; each = λ c. refl }; read = λ c. Consumes-nil (streams c).left; wrote = λ c. Appends-nil (streams c).written };
  numbered = tt;
  ends = [];
  reported = reported_none reported;
  ended = tt;
  closed = tt;
  others = λ n. inl refl;
}

no_client : (slots : List (Option Client)) → HasNone slots → {P : Type 0} → (key : ℕ) (c : Client) → IsIn slots key c → P
no_client slots none key c h = let no : None ≡ Some c = sym (none key) ∙ h in absurd (cc)

-- if no slot has a client and none was accepted, nothing happened on any connection so far
pub none_served : (limits : Limits) (reading : Reading) (state : ServiceState) (owners : List Owner) (streams : ℕ → StreamState) (reported : Option (List ReportedEnd)) (accepted : ℕ) (slots : List (Option Client))
    → HasNone slots → accepted ≡ 0 → owners ≡ [] → ServedSoFar limits reading (world state streams reported) (at_now (record { service = state; owners = owners }) streams reported) accepted slots
none_served limits reading state owners streams reported accepted slots none zero no_owner = record {
  so_far = nothing_happened limits reading state streams reported;
  within = omega arith;
  few = λ key c h. no_client slots none key c h;
  each = λ key c h. no_client slots none key c h;
  apart = λ j k b c hb hc e. no_client slots none j b hb;
  later = λ n past. refl;
  unreported = λ n past. refl;
  served = λ n h. refl;
  ended = λ n some le. absurd (omega arith);
  owners = no_owner;
  none_closed = λ n h. refl;
}

-- if as many were accepted as were asked for and no slot has a client, each was reported as ended,
-- once
pub all_reported : (limits : Limits) (reading : Reading) (first : World) (now : Now) (accepted : ℕ) (slots : List (Option Client)) → is_done limits accepted slots ≡ true
    → (s : ServedSoFar limits reading first now accepted slots) → EachIsReported limits.connections s.so_far.ends
all_reported limits reading first now accepted slots done s n some le =
    let both = both_hold (nat_le limits.connections accepted) (list_all is_none slots) done in
    let enough = leb-true limits.connections accepted both.0 in
    elim (s.ended n some (omega arith)) [ inl h ↦ no_client slots (all_free slots both.1) h.0 h.1 h.2 | inr e ↦ e ]
