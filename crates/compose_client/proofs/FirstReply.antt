-- The reply at the beginning of the bytes.
use Rattle.std.proofs.Common.{◌≡◌, ℕ, ◌+◌, ◌*◌, ◌<◌, ◌≤◌, ◌^◌, List, [], ◌∷◌, ◌++◌, length, take, drop, get_or, refl, sym, ◌∙◌, ap, subst, arith, length-append, Fits, w8}
use Rattle.std.proofs.Math.Facts.{Fits-lt-pow}
use Rattle.std.specs.Int.{to_be_bytes, from_be_bytes, w32}
use Rattle.std.proofs.Math.Seq.{take-append_seam}
use Rattle.std.proofs.lemmas.List.{take-append-drop}
use Rattle.std.proofs.lemmas.Nat.{from_be_bytes-to_be_bytes_4}
use Rattle.compose_wire.specs.Messages.{ReplyBody, Reply}
use Rattle.compose_wire.specs.Frames.{reply_bytes, answer_kind, answer_payload, stated_size}
use Rattle.std.specs.Prelude.{Some, None, Ok}
use Rattle.compose_wire.specs.Replies.{HasAnswerValue, HasReplyValue}
use Rattle.compose_wire.specs.declared.reply.ReplyBody.{ReplyBody as AnswerGiven}
use Rattle.compose_client.specs.Replies.{ReplyFits, BeginsWithReply, HasBadPayload, AnswerFits}
use Rattle.compose_client.specs.Giving.{answer_at, reply_at, IsSize, ReadsAnswer, GivesOut}
use Rattle.compose_client.proofs.OneReply.{answer_again, length_again}

-- the reply with which the bytes begin is read from them
pub record IsRead (bytes : List ℕ) : Type 0 where
  pub fits : ReplyFits (reply_at bytes)
  pub kind : answer_kind (reply_at bytes).answer ≡ get_or bytes 0 0
  pub payload : answer_payload (reply_at bytes).answer ≡ take (stated_size bytes) (drop 9 bytes)
  pub prefix : reply_bytes (reply_at bytes) ≡ take (9 + stated_size bytes) bytes
  pub long : 9 + stated_size bytes ≤ length bytes

module _ (r : Reply) (more : List ℕ) (f : ReplyFits r) where
  size_again : stated_size (reply_bytes r ++ more) ≡ length (answer_payload r.answer)
  size_again = length_again r.answer f.answer

  payload_again : take (stated_size (reply_bytes r ++ more)) (drop 9 (reply_bytes r ++ more)) ≡ answer_payload r.answer
  payload_again = ap (λ n. take n (answer_payload r.answer ++ more)) size_again ∙ take-append_seam (answer_payload r.answer) more

  reply_again : reply_at (reply_bytes r ++ more) ≡ r
  reply_again =
      let session : from_be_bytes w32 (to_be_bytes w32 r.session) ≡ r.session = from_be_bytes-to_be_bytes_4 r.session f.session in
      let answer : answer_at (answer_kind r.answer) (take (stated_size (reply_bytes r ++ more)) (drop 9 (reply_bytes r ++ more))) ≡ r.answer =
      ap (answer_at (answer_kind r.answer)) payload_again ∙ answer_again r.answer f.answer in
      λ i. record { session = session i; answer = answer i }

  frame_long : 9 + stated_size (reply_bytes r ++ more) ≡ length (reply_bytes r)
  frame_long = let e = size_again in omega arith

  prefix_again : take (9 + stated_size (reply_bytes r ++ more)) (reply_bytes r ++ more) ≡ reply_bytes r
  prefix_again = ap (λ n. take n (reply_bytes r ++ more)) frame_long ∙ take-append_seam (reply_bytes r) more

  within : 9 + stated_size (reply_bytes r ++ more) ≤ length (reply_bytes r ++ more)
  within =
      let says : from_be_bytes w32 (to_be_bytes w32 (length (answer_payload r.answer))) ≡ length (answer_payload r.answer) = length_again r.answer f.answer in
      let long : length (answer_payload r.answer ++ more) ≡ length (answer_payload r.answer) + length more = length-append (answer_payload r.answer) more in
      omega arith

  read_again : IsRead (reply_bytes r ++ more)
  read_again = record {
    fits = subst (λ (q : Reply). ReplyFits q) (sym reply_again) f;
    kind = ap (λ (q : Reply). answer_kind q.answer) reply_again;
    payload = ap (λ (q : Reply). answer_payload q.answer) reply_again ∙ sym payload_again;
    prefix = ap (λ (q : Reply). reply_bytes q) reply_again ∙ sym prefix_again;
    long = within;
  }

-- if bytes begin with the frame of a reply, that reply is read from them
pub is_read : (bytes : List ℕ) → BeginsWithReply bytes → IsRead bytes
is_read bytes b = subst (λ (h : List ℕ). IsRead h) (sym b.3) (read_again b.0 b.1 b.2)

-- the four bytes after the kind are the session
pub session_read : (h : List ℕ) → 9 ≤ length h → get_or h 1 0 * 16777216 + get_or h 2 0 * 65536 + get_or h 3 0 * 256 + get_or h 4 0 ≡ from_be_bytes w32 (take 4 (drop 1 h))
session_read [] l = absurd (omega arith)
session_read (k ∷ []) l = absurd (omega arith)
session_read (k ∷ a ∷ []) l = absurd (omega arith)
session_read (k ∷ a ∷ b ∷ []) l = absurd (omega arith)
session_read (k ∷ a ∷ b ∷ c ∷ []) l = absurd (omega arith)
session_read (k ∷ a ∷ b ∷ c ∷ d ∷ t) l = refl

-- four bytes are a session
pub session_small : (h : List ℕ) → ((i : ℕ) → Fits w8 (get_or h i 0)) → (session : ℕ) → session ≡ get_or h 1 0 * 16777216 + get_or h 2 0 * 65536 + get_or h 3 0 * 256 + get_or h 4 0 → session < 2 ^ 32
session_small h f session reads =
    let a : get_or h 1 0 < 2 ^ 8 = Fits-lt-pow (f 1) in
    let b : get_or h 2 0 < 2 ^ 8 = Fits-lt-pow (f 2) in
    let c : get_or h 3 0 < 2 ^ 8 = Fits-lt-pow (f 3) in
    let d : get_or h 4 0 < 2 ^ 8 = Fits-lt-pow (f 4) in
    omega arith

-- if there are as many bytes of payload as the head requires
module _ (h : List ℕ) (n : ℕ) (sized : IsSize (Ok (Some n)) h) where
  prefix_is_frame : (BeginsWithReply h) → reply_bytes (reply_at h) ≡ take (9 + n) h
  prefix_is_frame b = (is_read h b).prefix ∙ ap (λ m. take (9 + m) h) (sym sized.1)

  -- a whole frame whose head has no fault, but that is no reply's, has a bad payload
  pub bad_payload : (BeginsWithReply h → ⊥) → HasBadPayload h
  bad_payload none =
      let expected = sized.1 in
      let long = sized.2 in
      record { head = sized.0; whole = omega arith; expected = omega arith; no_reply = none }

  -- if no answer was read, the payload is bad
  pub not_read : ReadsAnswer None (get_or h 0 0) (take n (drop 9 h)) → HasBadPayload h
  not_read none =
      bad_payload (λ b.
      let r = is_read h b in
      none (reply_at h).answer r.fits.answer r.kind (r.payload ∙ ap (λ m. take m (drop 9 h)) (sym sized.1)))

  module _ (session : ℕ) (answer : AnswerGiven)
      (reads : session ≡ get_or h 1 0 * 16777216 + get_or h 2 0 * 65536 + get_or h 3 0 * 256 + get_or h 4 0)
      (read : ReadsAnswer (Some answer) (get_or h 0 0) (take n (drop 9 h)))
    where
      same_session : session ≡ (reply_at h).session
      same_session = reads ∙ session_read h (let long = sized.2 in omega arith)

      same_answer : answer_at (get_or h 0 0) (take n (drop 9 h)) ≡ (reply_at h).answer
      same_answer = ap (λ m. answer_at (get_or h 0 0) (take m (drop 9 h))) sized.1

      -- the session and the answer that are read from a whole frame are those of its reply
      pub says : HasReplyValue (record { session = session; answer = answer }) (reply_at h)
      says = (same_session, subst (λ (v : ReplyBody). HasAnswerValue answer v) same_answer read.0)

      -- if what was read has another frame than these bytes, their payload is bad
      pub other_frame : (reply_bytes (reply_at h) ≡ take (9 + n) h → ⊥) → HasBadPayload h
      other_frame other = bad_payload (λ b. other (prefix_is_frame b))

      -- if what was read has this frame, it is returned
      pub given : session < 2 ^ 32 → reply_bytes (reply_at h) ≡ take (9 + n) h → GivesOut (record { session = session; answer = answer }) h (drop (9 + n) h)
      given small same = record {
        value = reply_at h;
        says = says;
        fits = record {
          session = subst (λ (s : ℕ). s < 2 ^ 32) same_session small;
          answer = subst (λ (v : ReplyBody). AnswerFits v) same_answer read.1;
        };
        bytes = sym (take-append-drop (9 + n) h) ∙ ap (λ x. x ++ drop (9 + n) h) (sym same);
      }
