-- A connection gets the replies to its own requests.
use Rattle.std.proofs.Common.{◌≡◌, ℕ, ◌+◌, List, [], ◌∷◌, ◌++◌, Bool, true, false, length, map, refl, sym, ◌∙◌, ap, subst, append_assoc, append-nil, length-append, arith}
use Rattle.std.specs.List.{AllByRecursion}
use Rattle.compose_wire.specs.Messages.{Fits, Reply}
use Rattle.compose_wire.specs.Frames.{frame, frames, reply_bytes}
use Rattle.compose_machine.specs.Laws.{Exchange}
use Rattle.compose_serve.specs.Ends.{replies_bytes, malformed_reply}
use Rattle.compose_many.specs.Connection.{ConnectionState, new_connection, Event, receives, answers, refuses, sends, closes, Receives, Answers, Refuses, Sends, Closes, Happens, AllHappen, piece_of, asked_of, sent_of, received, asked, requests, replies, sent, refusal, HasItsOwn}
use Rattle.compose_many.proofs.Happening.{flat-more, map-both}

all-more : {X : Type 0} (P : X → Type 0) (xs : List X) (x : X) → AllByRecursion P xs → P x → AllByRecursion P (xs ++ x ∷ [])
all-more P [] x a p = (p, tt)
all-more P (y ∷ xs) x a p = (a.0, all-more P xs x a.1 p)

-- if no faulty frame was refused, only the replies are written
pub no_refusal : (rs : List Reply) (b : Bool) → b ≡ false → replies_bytes (rs ++ refusal b) ≡ replies_bytes rs
no_refusal rs b e = ap (λ c. replies_bytes (rs ++ refusal c)) e ∙ ap replies_bytes (append-nil rs)

not_both : {P : Type 0} (b : Bool) → b ≡ false → b ≡ true → P
not_both true e f = absurd (cc)
not_both false e f = absurd (cc)

-- ---- one event more

module _ (events : List Event) where
  pub received_more : (e : Event) → received (events ++ e ∷ []) ≡ received events ++ piece_of e
  received_more e = flat-more piece_of events e

  -- one more event adds the bytes that it sends, if any, to those that were sent
  pub sent_more : (e : Event) → sent (events ++ e ∷ []) ≡ sent events ++ sent_of e
  sent_more e = flat-more sent_of events e

  pub requests_more : (e : Event) → requests (events ++ e ∷ []) ≡ requests events ++ map (λ (x : Exchange). x.request) (asked_of e)
  requests_more e = ap (λ h. map (λ (x : Exchange). x.request) h) (flat-more asked_of events e) ∙ map-both (λ (x : Exchange). x.request) (asked events) (asked_of e)

  -- one more event adds its reply, if it has one, to the replies
  pub replies_more : (e : Event) → replies (events ++ e ∷ []) ≡ replies events ++ map (λ (x : Exchange). x.reply) (asked_of e)
  replies_more e = ap (λ h. map (λ (x : Exchange). x.reply) h) (flat-more asked_of events e) ∙ map-both (λ (x : Exchange). x.reply) (asked events) (asked_of e)

  module _ (limit : ℕ) (s m : ConnectionState) (own : HasItsOwn limit events s) where
    -- the sent and the unsent bytes, if no faulty frame was refused
    pub written_open : s.refused ≡ false → sent events ++ s.unsent ≡ replies_bytes (replies events)
    written_open e = own.written ∙ no_refusal (replies events) s.refused e

    own_received : (piece : List ℕ) → Receives s piece m → HasItsOwn limit (events ++ receives piece ∷ []) m
    own_received piece h =
        let e = receives piece in
        let same : requests (events ++ e ∷ []) ≡ requests events = requests_more e ∙ append-nil (requests events) in
        let same_replies : replies (events ++ e ∷ []) ≡ replies events = replies_more e ∙ append-nil (replies events) in
        subst (λ (t : ConnectionState). HasItsOwn limit (events ++ e ∷ []) t) (sym h.after) (record {
          fit = subst (λ qs. AllByRecursion Fits qs) (sym same) own.fit;
          counted = own.counted ∙ ap length (sym same);
          few = own.few;
          read =
              received_more e ∙ ap (λ y. y ++ piece) own.read ∙ append_assoc (frames (requests events)) s.held piece ∙ ap (λ qs. frames qs ++ (s.held ++ piece)) (sym same);
          written =
              ap (λ y. y ++ s.unsent) (sent_more e ∙ append-nil (sent events)) ∙ own.written ∙ ap (λ rs. replies_bytes (rs ++ refusal s.refused)) (sym same_replies);
          faulty = λ r. not_both s.refused h.goes_on r;
          bounded = own.bounded;
        })

    own_answered : (x : Exchange) → Answers limit s x m → HasItsOwn limit (events ++ answers x ∷ []) m
    own_answered x h =
        let e = answers x in
        let q = x.request in
        let bytes = reply_bytes x.reply in
        subst (λ (t : ConnectionState). HasItsOwn limit (events ++ e ∷ []) t) (sym h.after) (record {
          fit = subst (λ qs. AllByRecursion Fits qs) (sym (requests_more e)) (all-more Fits (requests events) q own.fit h.fit);
          counted = ap (λ n. n + 1) own.counted ∙ sym (length-append (requests events) (q ∷ [])) ∙ ap length (sym (requests_more e));
          few = (let few = h.few in omega arith);
          read =
              received_more e ∙ append-nil (received events) ∙ own.read ∙ ap (λ y. frames (requests events) ++ y) h.first ∙ sym (append_assoc (frames (requests events)) (frame q) m.held)
              ∙ ap (λ y. y ++ m.held) (sym (flat-more frame (requests events) q)) ∙ ap (λ qs. frames qs ++ m.held) (sym (requests_more e));
          written =
              ap (λ y. y ++ (s.unsent ++ bytes)) (sent_more e ∙ append-nil (sent events)) ∙ sym (append_assoc (sent events) s.unsent bytes) ∙ ap (λ y. y ++ bytes) (written_open h.goes_on)
              ∙ sym (flat-more reply_bytes (replies events) x.reply) ∙ ap replies_bytes (sym (replies_more e)) ∙ sym (no_refusal (replies (events ++ e ∷ [])) s.refused h.goes_on);
          faulty = λ r. not_both s.refused h.goes_on r;
          bounded = (let both : length (s.unsent ++ bytes) ≡ length s.unsent + length bytes = length-append s.unsent bytes in let below = h.below in let short = h.short in omega arith);
        })

    own_refused : Refuses limit s m → HasItsOwn limit (events ++ refuses ∷ []) m
    own_refused h =
        let bytes = reply_bytes malformed_reply in
        let same : requests (events ++ refuses ∷ []) ≡ requests events = requests_more refuses ∙ append-nil (requests events) in
        let same_replies : replies (events ++ refuses ∷ []) ≡ replies events = replies_more refuses ∙ append-nil (replies events) in
        subst (λ (t : ConnectionState). HasItsOwn limit (events ++ refuses ∷ []) t) (sym h.after) (record {
          fit = subst (λ qs. AllByRecursion Fits qs) (sym same) own.fit;
          counted = own.counted ∙ ap length (sym same);
          few = own.few;
          read = received_more refuses ∙ append-nil (received events) ∙ own.read ∙ ap (λ qs. frames qs ++ s.held) (sym same);
          written =
              ap (λ y. y ++ (s.unsent ++ bytes)) (sent_more refuses ∙ append-nil (sent events)) ∙ sym (append_assoc (sent events) s.unsent bytes) ∙ ap (λ y. y ++ bytes) (written_open h.goes_on)
              ∙ sym (flat-more reply_bytes (replies events) malformed_reply) ∙ ap (λ rs. replies_bytes (rs ++ malformed_reply ∷ [])) (sym same_replies);
          faulty = λ r. h.faulty;
          bounded = (let both : length (s.unsent ++ bytes) ≡ length s.unsent + 11 = length-append s.unsent bytes in let below = h.below in omega arith);
        })

    own_sent : (bytes : List ℕ) → Sends s bytes m → HasItsOwn limit (events ++ sends bytes ∷ []) m
    own_sent bytes h =
        let e = sends bytes in
        let same : requests (events ++ e ∷ []) ≡ requests events = requests_more e ∙ append-nil (requests events) in
        let same_replies : replies (events ++ e ∷ []) ≡ replies events = replies_more e ∙ append-nil (replies events) in
        subst (λ (t : ConnectionState). HasItsOwn limit (events ++ e ∷ []) t) (sym h.after) (record {
          fit = subst (λ qs. AllByRecursion Fits qs) (sym same) own.fit;
          counted = own.counted ∙ ap length (sym same);
          few = own.few;
          read = received_more e ∙ append-nil (received events) ∙ own.read ∙ ap (λ qs. frames qs ++ s.held) (sym same);
          written =
              ap (λ y. y ++ m.unsent) (sent_more e) ∙ append_assoc (sent events) bytes m.unsent ∙ ap (λ y. sent events ++ y) (sym h.first) ∙ own.written
              ∙ ap (λ rs. replies_bytes (rs ++ refusal s.refused)) (sym same_replies);
          faulty = own.faulty;
          bounded = (let both : length s.unsent ≡ length bytes + length m.unsent = ap length h.first ∙ length-append bytes m.unsent in let bounded = own.bounded in omega arith);
        })

    own_closed : (x : Exchange) → Closes s x m → HasItsOwn limit (events ++ closes x ∷ []) m
    own_closed x h =
        let e = closes x in
        let same : requests (events ++ e ∷ []) ≡ requests events = requests_more e ∙ append-nil (requests events) in
        let same_replies : replies (events ++ e ∷ []) ≡ replies events = replies_more e ∙ append-nil (replies events) in
        subst (λ (t : ConnectionState). HasItsOwn limit (events ++ e ∷ []) t) (sym h.after) (record {
          fit = subst (λ qs. AllByRecursion Fits qs) (sym same) own.fit;
          counted = own.counted ∙ ap length (sym same);
          few = own.few;
          read = received_more e ∙ append-nil (received events) ∙ own.read ∙ ap (λ qs. frames qs ++ s.held) (sym same);
          written =
              ap (λ y. y ++ s.unsent) (sent_more e ∙ append-nil (sent events)) ∙ own.written ∙ ap (λ rs. replies_bytes (rs ++ refusal s.refused)) (sym same_replies);
          faulty = own.faulty;
          bounded = own.bounded;
        })

    -- a connection that has the replies to its own requests still has them after one more event
    pub own_more : (e : Event) → Happens limit s e m → HasItsOwn limit (events ++ e ∷ []) m
    own_more (receives piece) h = own_received piece h
    own_more (answers x) h = own_answered x h
    own_more refuses h = own_refused h
    own_more (sends bytes) h = own_sent bytes h
    own_more (closes x) h = own_closed x h

-- a new connection, on which nothing happened, has the replies to its own requests
pub own_at_first : (limit : ℕ) → HasItsOwn limit [] new_connection
own_at_first limit = record { fit = tt; counted = refl; few = omega arith; read = refl; written = refl; faulty = λ r. not_both false refl r; bounded = omega arith }

own_on : (limit : ℕ) (events more : List Event) (s s' : ConnectionState) → HasItsOwn limit events s → AllHappen limit s more s' → HasItsOwn limit (events ++ more) s'
own_on limit events [] s s' own h =
    subst (λ (es : List Event). HasItsOwn limit es s') (sym (append-nil events)) (subst (λ (t : ConnectionState). HasItsOwn limit events t) (sym h) own)
own_on limit events (e ∷ more) s s' own h =
    subst (λ (es : List Event). HasItsOwn limit es s') (append_assoc events (e ∷ []) more) (own_on limit (events ++ e ∷ []) more h.0 s' (own_more events limit s h.0 own e h.1) h.2)

-- whatever happened on a connection since it was new, it has the replies to its own requests
pub has_its_own : (limit : ℕ) (events : List Event) (s : ConnectionState) → AllHappen limit new_connection events s → HasItsOwn limit events s
has_its_own limit events s h = own_on limit [] events new_connection s (own_at_first limit) h
