-- The fault of a head stays.
use Rattle.std.proofs.Common.{◌≡◌, ℕ, ◌+◌, ◌≤◌, List, [], ◌∷◌, ◌++◌, Bool, true, false, cond, not, length, take, drop, inl, inr, refl, sym, ◌∙◌, ap, ap₂, arith, length-append, length-drop}
use Rattle.std.specs.Prelude.{◌&&◌, Option, Some, None, nat_lt}
use Rattle.std.specs.Int.{to_be_bytes, from_be_bytes, w32}
use Rattle.std.proofs.lemmas.Bool.{le-ltb, le-leb, ltb-false, cases_Bool}
use Rattle.std.proofs.lemmas.List.{take-append-le, drop-append-le, take-append-drop}
use Rattle.compose_text.specs.Numbers.{is_between}
use Rattle.compose_wire.specs.Messages.{ReplyBody, opened, fed, was_reset, closed, loaded, state, refused, Reply}
use Rattle.compose_wire.specs.Frames.{reply_bytes, answer_kind, answer_payload, Fault, unknown_kind, bad_length, stated_size}
use Rattle.compose_wire.proofs.Keysyms.{keysym_bytes_length}
use Rattle.compose_client.specs.Replies.{AnswerFits, ReplyFits, BeginsWithReply, is_reply_kind, is_reply_length, head_fault, HasBadPayload}
use Rattle.compose_client.specs.Giving.{reply_at}
use Rattle.compose_client.proofs.OneReply.{length_again}
use Rattle.compose_client.proofs.FirstReply.{is_read}

-- ---- a reply has none

right_kind : (v : ReplyBody) → is_reply_kind (answer_kind v) ≡ true
right_kind opened = refl
right_kind (fed status accepted text) = refl
right_kind was_reset = refl
right_kind closed = refl
right_kind (loaded count) = refl
right_kind (state status pending) = refl
right_kind (refused why) = refl

between : (low high k : ℕ) → low ≤ k → k ≤ high → is_between low high k ≡ true
between low high k l h = ap₂ (λ a b. a && b) (le-leb low k l) (le-leb k high h)

right_length : (v : ReplyBody) → AnswerFits v → is_reply_length (answer_kind v) (length (answer_payload v)) ≡ true
right_length opened f = refl
right_length (fed status accepted text) f = let few = f.1 in between 2 257 (length (answer_payload (fed status accepted text))) (omega arith) (omega arith)
right_length was_reset f = refl
right_length closed f = refl
right_length (loaded count) f = refl
right_length (state status pending) f =
    let few = f.1 in
    let long = keysym_bytes_length pending in
    between 2 126 (length (answer_payload (state status pending))) (omega arith) (omega arith)
right_length (refused why) f = refl

eight_bytes : (s l : ℕ) (p x : List ℕ) → nat_lt (length ((to_be_bytes w32 s ++ to_be_bytes w32 l ++ p) ++ x)) 8 ≡ false
eight_bytes s l p x = le-ltb (length ((to_be_bytes w32 s ++ to_be_bytes w32 l ++ p) ++ x)) 8 (omega arith)

-- the fault of a kind and the bytes after it, by the two tests
reported : ℕ → List ℕ → Bool → Bool → Option Fault
reported kind rest known short = cond (not known) (Some unknown_kind) (cond short None (cond (is_reply_length kind (from_be_bytes w32 (take 4 (drop 4 rest)))) None (Some bad_length)))

-- the frame of a reply has no fault in its head, whatever comes after it
pub no_fault : (r : Reply) (x : List ℕ) → ReplyFits r → head_fault (reply_bytes r ++ x) ≡ None
unfolding reported
no_fault r x f =
    let kind = answer_kind r.answer in
    let p = answer_payload r.answer in
    let rest = (to_be_bytes w32 r.session ++ to_be_bytes w32 (length p) ++ p) ++ x in
    ap (λ b. reported kind rest b (nat_lt (length rest) 8)) (right_kind r.answer)
    ∙ ap (reported kind rest true) (eight_bytes r.session (length p) p x)
    ∙ ap (λ n. cond (is_reply_length kind n) None (Some bad_length)) (length_again r.answer f.answer)
    ∙ ap (λ b. cond b None (Some bad_length)) (right_length r.answer f.answer)

-- ---- a fault stays

-- four bytes are not changed by those that follow
four_stay : (n : ℕ) (rest more : List ℕ) → n + 4 ≤ length rest → take 4 (drop n (rest ++ more)) ≡ take 4 (drop n rest)
four_stay n rest more l =
    let long : 4 ≤ length (drop n rest) = omega (arith, length-drop n rest) in
    ap (take 4) (drop-append-le n rest more (omega arith)) ∙ take-append-le 4 (drop n rest) more long

-- a whole head has the same fault, whatever follows
head_same : (kind : ℕ) (rest more : List ℕ) → 8 ≤ length rest → head_fault ((kind ∷ rest) ++ more) ≡ head_fault (kind ∷ rest)
unfolding reported
head_same kind rest more l =
    let further : nat_lt (length (rest ++ more)) 8 ≡ nat_lt (length rest) 8 = le-ltb (length (rest ++ more)) 8 (omega (arith, length-append rest more)) ∙ sym (le-ltb (length rest) 8 l) in
    ap (reported kind (rest ++ more) (is_reply_kind kind)) further
    ∙ ap (λ bytes. cond (not (is_reply_kind kind)) (Some unknown_kind) (cond (nat_lt (length rest) 8) None (cond (is_reply_length kind (from_be_bytes w32 bytes)) None (Some bad_length))))
    (four_stay 4 rest more l)

-- the fault of a head stays if more bytes come
pub head_stays : (held more : List ℕ) (fault : Fault) → head_fault held ≡ Some fault → head_fault (held ++ more) ≡ Some fault
unfolding reported
head_stays [] more fault e = cc
head_stays (kind ∷ rest) more fault e = elim (cases_Bool (nat_lt (length rest) 8)) [
  | inr long ↦ head_same kind rest more (ltb-false (length rest) 8 long) ∙ e
  | inl short ↦ elim (cases_Bool (is_reply_kind kind)) [
    | inr unknown ↦
        ap (λ b. reported kind (rest ++ more) b (nat_lt (length (rest ++ more)) 8)) unknown
        ∙ sym (ap (λ b. reported kind rest b (nat_lt (length rest) 8)) unknown) ∙ e
    | inl known ↦ (let none : None ≡ Some fault = sym (ap (λ b. reported kind rest b (nat_lt (length rest) 8)) known ∙ ap (reported kind rest true) short) ∙ e in cc)
  ]
]

-- no reply begins with a fault
pub no_reply : (bytes : List ℕ) (fault : Fault) → head_fault bytes ≡ Some fault → BeginsWithReply bytes → ⊥
no_reply bytes fault e b = let n : None ≡ Some fault = sym (no_fault b.0 b.1 b.2) ∙ ap head_fault (sym b.3) ∙ e in cc

-- bytes with a fault in their head never begin with a reply, whatever comes after them
pub never : (bytes more : List ℕ) (fault : Fault) → head_fault bytes ≡ Some fault → BeginsWithReply (bytes ++ more) → ⊥
never bytes more fault e = no_reply (bytes ++ more) fault (head_stays bytes more fault e)

head_still : (held more : List ℕ) → 9 ≤ length held → head_fault held ≡ None → head_fault (held ++ more) ≡ None
head_still [] more l e = absurd (omega arith)
head_still (kind ∷ rest) more l e = head_same kind rest more (omega arith) ∙ e

-- if there is a whole frame, a reply that begins these bytes and more begins these bytes
cut_back : (held more : List ℕ) → 9 ≤ length held → 9 + stated_size held ≤ length held → BeginsWithReply (held ++ more) → BeginsWithReply held
cut_back held more whole expected b =
    let r = is_read (held ++ more) b in
    let size : stated_size (held ++ more) ≡ stated_size held = ap (from_be_bytes w32) (four_stay 5 held more whole) in
    let n = 9 + stated_size held in
    let prefix : reply_bytes (reply_at (held ++ more)) ≡ take n held = r.prefix ∙ ap (λ m. take (9 + m) (held ++ more)) size ∙ take-append-le n held more expected in
    (reply_at (held ++ more), drop n held, r.fits, sym (take-append-drop n held) ∙ ap (λ y. y ++ drop n held) (sym prefix))

-- a payload that no reply has stays one if more bytes come
pub payload_stays : (held more : List ℕ) → HasBadPayload held → HasBadPayload (held ++ more)
payload_stays held more b =
    let size : stated_size (held ++ more) ≡ stated_size held = ap (from_be_bytes w32) (four_stay 5 held more b.whole) in
    let long = length-append held more in
    let whole = b.whole in
    let expected = b.expected in
    record {
      head = head_still held more whole b.head;
      whole = omega arith;
      expected = omega arith;
      no_reply = λ e. b.no_reply (cut_back held more whole expected e);
    }
