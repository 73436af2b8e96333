-- What is held is answered.
use Rattle.std.proofs.Common.{◌≡◌, ◌≢◌, ℕ, ◌+◌, ◌<◌, ◌≤◌, List, [], ◌∷◌, ◌++◌, Bool, true, false, length, append-nil, refl, sym, ◌∙◌, ap, subst}
use Rattle.std.proofs.lemmas.List.Sums.{fold-append}
use Rattle.std.specs.Prelude.{Err}
use Rattle.compose_wire.specs.Messages.{Request, Fits, Reply}
use Rattle.compose_wire.specs.Frames.{frame, reply_bytes}
use Rattle.compose_machine.specs.Machine.{ServiceState, Reading, Step}
use Rattle.compose_machine.specs.Laws.{Exchange, IsHistory, is_load}
use Rattle.compose_serve.specs.Ends.{max_frames, malformed_reply}
use Rattle.compose_many.specs.Connection.{ConnectionState, Event, answers, refuses, Answers, AllHappen, piece_of, exchange_of, closed_of, sent_of, exchanges, loads, max_reply}
use Rattle.compose_many.specs.Steps.{OneAnswered, NextAs, AnswersAs, AreAnswers, after_reply}
use Rattle.compose_many.specs.Owners.{owners_when, owners_after, owners_by}
use Rattle.compose_many.specs.declared.owners.Owner.{Owner}
use Rattle.compose_many.specs.declared.connection.Stop.{Stop}
use Rattle.compose_many.specs.declared.connection.Stop.TheVariants.{Loaded, NeedsBytes, Full, Refused, NoMemory, TooManyFrames}
use Rattle.compose_many.proofs.Happening.{behind_nothing, flat-more, loads-both, loads-more, run-both, happen-more}

-- one request is answered
pub next_answered : (limit number : ℕ) (owners owners' : List Owner) (reading : Reading) (old new : ServiceState) (s : ConnectionState) (held unsent : List ℕ) (q : Request) (r : Reply) (b : Bool) → s.refused ≡ false
    → length s.unsent < limit → s.answered < max_frames
    → Fits q → s.held ≡ frame q ++ held → Step reading old q r new → unsent ≡ s.unsent ++ reply_bytes r → length (reply_bytes r) ≤ max_reply → is_load q.body ≡ b
    → owners' ≡ owners_when number q.session owners q.body r.answer
    → OneAnswered limit number owners owners' reading old new s (record { held = held; unsent = unsent; answered = s.answered + 1; refused = s.refused }) b
next_answered limit number owners owners' reading old new s held unsent q r b g l c f e t u w is o = (
  record { request = q; reply = r },
  record { goes_on = g; below = l; few = c; fit = f; short = w; first = e; after = ap (λ y. record s { held = held; unsent = y; answered = s.answered + 1 }) u },
  (new, t, refl),
  is,
  o,
)

-- the result after a reply shows that this request was answered
pub next_reported : (limit number : ℕ) (owners owners' : List Owner) (reading : Reading) (old new : ServiceState) (s now : ConnectionState) (b : Bool)
    → OneAnswered limit number owners owners' reading old new s now b → NextAs limit number owners owners' reading old new s now (after_reply b)
next_reported limit number owners owners' reading old new s now true h = h
next_reported limit number owners owners' reading old new s now false h = h

-- after a reply something is unsent
pub reply_unsent : (limit : ℕ) (s now : ConnectionState) (x : Exchange) → Answers limit s x now → now.unsent ≢ []
reply_unsent limit s now x h e = let none = behind_nothing s.unsent (reply_bytes x.reply) (sym (ap (λ (t : ConnectionState). t.unsent) h.after) ∙ e) in cc

-- a connection on which a request was answered has refused no faulty frame
pub stays_open : (limit : ℕ) (s now : ConnectionState) (x : Exchange) → Answers limit s x now → now.refused ≡ false
stays_open limit s now x h = ap (λ (t : ConnectionState). t.refused) h.after ∙ h.goes_on

module _ (limit : ℕ) (reading : Reading) (old : ServiceState) (before : ConnectionState) where
  pub none_yet : AreAnswers limit reading old old before before []
  none_yet = record { happen = refl; run = refl; none_came = refl; none_sent = refl; none_closed = refl }

  module _ (mid new : ServiceState) (s now : ConnectionState) (events : List Event) (a : AreAnswers limit reading old mid before s events) where
    one_more : (e : Event) → piece_of e ≡ [] → sent_of e ≡ [] → closed_of e ≡ [] → AllHappen limit before (events ++ e ∷ []) now → IsHistory reading mid (exchanges (e ∷ [])) new
        → AreAnswers limit reading old new before now (events ++ e ∷ [])
    one_more e p q l h r = record {
      happen = h;
      run = run-both reading old mid new events (e ∷ []) a.run r;
      none_came = flat-more piece_of events e ∙ ap (λ y. y ++ piece_of e) a.none_came ∙ p;
      none_sent = flat-more sent_of events e ∙ ap (λ y. y ++ sent_of e) a.none_sent ∙ q;
      none_closed = flat-more closed_of events e ∙ ap (λ (y : List Exchange). y ++ closed_of e) a.none_closed ∙ l;
    }

    -- answers, and one more request that is answered, are answers
    pub answers_more : (x : Exchange) → Answers limit s x now → IsHistory reading mid (x ∷ []) new → AreAnswers limit reading old new before now (events ++ answers x ∷ [])
    answers_more x h r = one_more (answers x) refl refl refl (happen-more limit before s now events (answers x) a.happen h) r

    as_before : new ≡ mid → AreAnswers limit reading old new before s events
    as_before e = record { happen = a.happen; run = subst (λ (t : ServiceState). IsHistory reading old (exchanges events) t) (sym e) a.run; none_came = a.none_came; none_sent = a.none_sent; none_closed = a.none_closed }

    module _ (number : ℕ) (first owners owners' : List Owner) (owned : owners ≡ owners_by number first (exchanges events)) where
      -- the owners after one more answer
      pub owned_more : (x : Exchange) → owners' ≡ owners_after number owners x → owners' ≡ owners_by number first (exchanges (events ++ answers x ∷ []))
      owned_more x e =
          e ∙ ap (λ (o : List Owner). owners_after number o x) owned ∙ sym (fold-append (owners_after number) first (exchanges events) (x ∷ []))
          ∙ ap (owners_by number first) (sym (flat-more exchange_of events (answers x)))

      -- and if none was answered
      owned_still : owners' ≡ owners → owners' ≡ owners_by number first (exchanges events)
      owned_still e = e ∙ owned

      -- if nothing further is answered, for any reason, these are all answers up to this stop; a
      -- load comes last among them
      pub answers_stop : (stop : Stop) → loads events ≡ 0 → NextAs limit number owners owners' reading mid new s now (Err stop) → AnswersAs limit number first owners' reading old new before now stop
      answers_stop Loaded none n = (
        events ++ answers n.0 ∷ [],
        now,
        answers_more n.0 n.1 n.2,
        reply_unsent limit s now n.0 n.1,
        refl,
        loads-more events n.0 0 true n.3 none,
        owned_more n.0 n.4,
      )
      answers_stop Refused none n = (
        events ++ refuses ∷ [],
        now,
        one_more refuses refl refl refl (happen-more limit before s now events refuses a.happen n.1) n.0,
        (ap (λ (t : ConnectionState). t.refused) n.1.after, λ e. (let none = behind_nothing s.unsent (reply_bytes malformed_reply) (sym (ap (λ (t : ConnectionState). t.unsent) n.1.after) ∙ e) in cc)),
        refl,
        loads-both events (refuses ∷ []) ∙ ap (λ m. m + 0) none,
        owned_still n.2 ∙ ap (owners_by number first) (sym (flat-more exchange_of events refuses ∙ append-nil (exchanges events))),
      )
      answers_stop NeedsBytes none n = (events, s, as_before n.0, n.1, n.2, none, owned_still n.3)
      answers_stop Full none n = (events, s, as_before n.0, n.1, n.2, none, owned_still n.3)
      answers_stop NoMemory none n = (events, s, as_before n.0, n.1, n.2, none, owned_still n.3)
      answers_stop TooManyFrames none n = (events, s, as_before n.0, n.1, n.2, none, owned_still n.3)
