-- A connection ends as a stream does.
use Rattle.std.proofs.Common.{◌≡◌, ◌≢◌, ℕ, ◌<◌, List, [], ◌∷◌, ◌++◌, true, false, length, refl, sym, ◌∙◌, ap, subst, inl, inr, append_assoc, append-nil, eq-eqb, arith}
use Rattle.std.specs.Prelude.{◌==◌, ◌⊎◌, Ok, Err, IsSome}
use Rattle.std.proofs.lemmas.Bool.{and_from}
use Rattle.compose_model.specs.Table.{is_proper_prefix}
use Rattle.compose_wire.specs.Messages.{Reply}
use Rattle.compose_wire.specs.Frames.{reply_bytes, fault_at}
use Rattle.compose_machine.specs.Laws.{Exchange}
use Rattle.compose_serve.specs.Ends.{replies_bytes, malformed_reply, EndsWrite}
use Rattle.compose_serve.specs.declared.ends.StreamEnd.TheVariants.{InputEnd, Malformed}
use Rattle.compose_serve.specs.declared.ends.ServeFault.TheVariants.{Read, Write, Cut, TooManyFrames, NoMemory}
use Rattle.compose_many.specs.Connection.{ConnectionState, new_connection, Event, receives, answers, refuses, sends, closes, Answers, Refuses, Sends, Closes, Happens, AllHappen, replies, sent, refusal, HasItsOwn}
use Rattle.compose_many.specs.Ends.{IsQuiet, served, EndsAsStream, EndsAtWrite, EndsAtWriteAsStream}
use Rattle.compose_many.proofs.Happening.{behind_nothing}
use Rattle.compose_many.proofs.Own.{sent_more, replies_more, written_open, own_more, own_at_first, has_its_own}

all_written : (limit : ℕ) (events : List Event) (now : ConnectionState) → HasItsOwn limit events now → IsQuiet now → sent events ≡ replies_bytes (replies events)
all_written limit events now own q = sym (append-nil (sent events)) ∙ ap (λ y. sent events ++ y) (sym q.sent) ∙ written_open events limit now now own q.goes_on

-- at every end but a failed write, a connection ends as a stream does
pub ends_as_stream : EndsAsStream
ends_as_stream limit events now (Ok InputEnd) left' rf wf h e n = record { at_end = e.0; whole = e.1; written = all_written limit events now (has_its_own limit events now h) e.2 }
ends_as_stream limit events now (Ok Malformed) left' rf wf h e n =
    let own = has_its_own limit events now h in
    record { faulty = own.faulty e.0; written = sym (append-nil (sent events)) ∙ ap (λ y. sent events ++ y) (sym e.1) ∙ own.written ∙ ap (λ b. replies_bytes (replies events ++ refusal b)) e.0 }
ends_as_stream limit events now (Err Cut) left' rf wf h e n = record { at_end = e.0; some = e.1; begun = e.2; written = all_written limit events now (has_its_own limit events now h) e.3 }
ends_as_stream limit events now (Err Read) left' rf wf h e n = record { failed = e.0; begun = e.1; written = all_written limit events now (has_its_own limit events now h) e.2 }
ends_as_stream limit events now (Err TooManyFrames) left' rf wf h e n =
    let own = has_its_own limit events now h in
    let most = e.0 in
    let few = own.few in
    let counted = own.counted in
    record { all = omega arith; more = e.1; written = all_written limit events now own e.2 }
ends_as_stream limit events now (Err NoMemory) left' rf wf h e n = record { some = e.0; written = all_written limit events now (has_its_own limit events now h) e.1 }
ends_as_stream limit events now (Err Write) left' rf wf h e n = absurd (n refl)

-- if a write failed, the last bytes of the replies are missing: fewer than the limit plus the
-- maximum length of a reply
pub ends_at_write : EndsAtWrite
ends_at_write limit events now left' rf wf h e =
    let own = has_its_own limit events now h in
    record { failed = e.0; missing = now.unsent; some = e.1; few = own.bounded; written = own.written }

-- ---- one reply at a time

-- a part of the last reply is sent, and the rest is what is unsent
pub record IsPart (events : List Event) (s : ConnectionState) : Type 0 where
  pub before : List Reply
  pub last : Reply
  pub part : List ℕ
  pub is_last : (replies events ≡ before ++ last ∷ []) ⊎ ((replies events ≡ before) × (last ≡ malformed_reply) × (s.refused ≡ true))
  pub whole : part ++ s.unsent ≡ reply_bytes last
  pub written : sent events ≡ replies_bytes before ++ part

empty : (xs : List ℕ) → length xs < 1 → xs ≡ []
empty [] h = refl
empty (x ∷ xs) h = absurd (omega arith)

module _ (events : List Event) (s m : ConnectionState) (own : HasItsOwn 1 events s) where
  all_sent : s.unsent ≡ [] → s.refused ≡ false → sent events ≡ replies_bytes (replies events)
  all_sent u r = sym (append-nil (sent events)) ∙ ap (λ y. sent events ++ y) (sym u) ∙ written_open events 1 s m own r

  part_of_answer : (x : Exchange) → Answers 1 s x m → IsPart (events ++ answers x ∷ []) m
  part_of_answer x h =
      let none = empty s.unsent h.below in
      record {
        before = replies events;
        last = x.reply;
        part = [];
        is_last = inl (replies_more events (answers x));
        whole = ap (λ (t : ConnectionState). t.unsent) h.after ∙ ap (λ y. y ++ reply_bytes x.reply) none;
        written = sent_more events (answers x) ∙ ap (λ y. y ++ []) (all_sent none h.goes_on);
      }

  part_of_refusal : Refuses 1 s m → IsPart (events ++ refuses ∷ []) m
  part_of_refusal h =
      let none = empty s.unsent h.below in
      record {
        before = replies events;
        last = malformed_reply;
        part = [];
        is_last = inr (replies_more events refuses ∙ append-nil (replies events), refl, ap (λ (t : ConnectionState). t.refused) h.after);
        whole = ap (λ (t : ConnectionState). t.unsent) h.after ∙ ap (λ y. y ++ reply_bytes malformed_reply) none;
        written = sent_more events refuses ∙ ap (λ y. y ++ []) (all_sent none h.goes_on);
      }

  part_sent : (bytes : List ℕ) → Sends s bytes m → IsPart events s → IsPart (events ++ sends bytes ∷ []) m
  part_sent bytes h p =
      let same : replies (events ++ sends bytes ∷ []) ≡ replies events = replies_more events (sends bytes) ∙ append-nil (replies events) in
      record {
        before = p.before;
        last = p.last;
        part = p.part ++ bytes;
        is_last = still same p.is_last;
        whole = append_assoc p.part bytes m.unsent ∙ ap (λ y. p.part ++ y) (sym h.first) ∙ p.whole;
        written = sent_more events (sends bytes) ∙ ap (λ y. y ++ bytes) p.written ∙ append_assoc (replies_bytes p.before) p.part bytes;
      }
    where
      still : replies (events ++ sends bytes ∷ []) ≡ replies events → (replies events ≡ p.before ++ p.last ∷ []) ⊎ ((replies events ≡ p.before) × (p.last ≡ malformed_reply) × (s.refused ≡ true))
          → (replies (events ++ sends bytes ∷ []) ≡ p.before ++ p.last ∷ []) ⊎ ((replies (events ++ sends bytes ∷ []) ≡ p.before) × (p.last ≡ malformed_reply) × (m.refused ≡ true))
      still same (inl e) = inl (same ∙ e)
      still same (inr e) = inr (same ∙ e.0, e.1, ap (λ (t : ConnectionState). t.refused) h.after ∙ e.2)

  part_closed : (x : Exchange) → Closes s x m → IsPart events s → IsPart (events ++ closes x ∷ []) m
  part_closed x h p =
      let same : replies (events ++ closes x ∷ []) ≡ replies events = replies_more events (closes x) ∙ append-nil (replies events) in
      subst (λ (t : ConnectionState). IsPart (events ++ closes x ∷ []) t) (sym h.after) (record {
        before = p.before;
        last = p.last;
        part = p.part;
        is_last = still same p.is_last;
        whole = p.whole;
        written = sent_more events (closes x) ∙ append-nil (sent events) ∙ p.written;
      })
    where
      still : replies (events ++ closes x ∷ []) ≡ replies events → (replies events ≡ p.before ++ p.last ∷ []) ⊎ ((replies events ≡ p.before) × (p.last ≡ malformed_reply) × (s.refused ≡ true))
          → (replies (events ++ closes x ∷ []) ≡ p.before ++ p.last ∷ []) ⊎ ((replies (events ++ closes x ∷ []) ≡ p.before) × (p.last ≡ malformed_reply) × (s.refused ≡ true))
      still same (inl e) = inl (same ∙ e)
      still same (inr e) = inr (same ∙ e.0, e.1, e.2)

  -- all is sent, or a part of the last reply
  pub part_more : (e : Event) → Happens 1 s e m → (s.unsent ≡ []) ⊎ IsPart events s → (m.unsent ≡ []) ⊎ IsPart (events ++ e ∷ []) m
  part_more (receives piece) h p = inl (ap (λ (t : ConnectionState). t.unsent) h.after ∙ h.all_sent)
  part_more (answers x) h p = inr (part_of_answer x h)
  part_more refuses h p = inr (part_of_refusal h)
  part_more (sends bytes) h (inl e) = inl (behind_nothing bytes m.unsent (sym h.first ∙ e))
  part_more (sends bytes) h (inr p) = inr (part_sent bytes h p)
  part_more (closes x) h (inl e) = inl (ap (λ (t : ConnectionState). t.unsent) h.after ∙ e)
  part_more (closes x) h (inr p) = inr (part_closed x h p)

part_on : (events more : List Event) (s s' : ConnectionState) → HasItsOwn 1 events s → (s.unsent ≡ []) ⊎ IsPart events s → AllHappen 1 s more s' → (s'.unsent ≡ []) ⊎ IsPart (events ++ more) s'
part_on events [] s s' own p h =
    subst (λ (es : List Event). (s'.unsent ≡ []) ⊎ IsPart es s') (sym (append-nil events)) (subst (λ (t : ConnectionState). (t.unsent ≡ []) ⊎ IsPart events t) (sym h) p)
part_on events (e ∷ more) s s' own p h =
    subst (λ (es : List Event). (s'.unsent ≡ []) ⊎ IsPart es s') (append_assoc events (e ∷ []) more)
    (part_on (events ++ e ∷ []) more h.0 s' (own_more events 1 s h.0 own e h.1) (part_more events s h.0 own e h.1 p) h.2)

proper : (xs ys : List ℕ) → ys ≢ [] → is_proper_prefix xs (xs ++ ys) ≡ true
proper [] [] n = absurd (n refl)
proper [] (y ∷ ys) n = refl
proper (x ∷ xs) ys n = and_from (x == x) (is_proper_prefix xs (xs ++ ys)) (eq-eqb x x refl) (proper xs ys n)

-- with the limit 1, if a write failed, a part of the last reply is missing, as at the end of a
-- stream
pub ends_at_write_as_stream : EndsAtWriteAsStream
ends_at_write_as_stream events now left' rf wf h e = of_part (part_on [] events new_connection now (own_at_first 1) (inl refl) h)
  where
    own : HasItsOwn 1 events now
    own = has_its_own 1 events now h

    last_of : (before : List Reply) (last : Reply) → (replies events ≡ before ++ last ∷ []) ⊎ ((replies events ≡ before) × (last ≡ malformed_reply) × (now.refused ≡ true))
        → (replies events ≡ before ++ last ∷ []) ⊎ ((replies events ≡ before) × (last ≡ malformed_reply) × IsSome (fault_at now.held))
    last_of before last (inl i) = inl i
    last_of before last (inr i) = inr (i.0, i.1, own.faulty i.2)

    of_part : (now.unsent ≡ []) ⊎ IsPart events now → EndsWrite (served events now) wf
    of_part (inl u) = absurd (e.1 u)
    of_part (inr p) = record {
      failed = e.0;
      before = p.before;
      last = p.last;
      part = p.part;
      is_last = last_of p.before p.last p.is_last;
      missing = subst (λ y. is_proper_prefix p.part y ≡ true) p.whole (proper p.part now.unsent e.1);
      written = p.written;
    }
