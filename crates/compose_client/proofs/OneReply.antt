-- The bytes of a reply's frame determine the reply and where it ends.
use Rattle.std.proofs.Common.{◌≡◌, ℕ, ◌≤◌, Bool, true, false, List, [], ◌∷◌, ◌++◌, length, flat_map, refl, sym, ◌∙◌, ap, ap₂, arith}
use Rattle.std.specs.Prelude.{◌==◌, if◌then◌else◌}
use Rattle.std.specs.Int.{to_be_bytes, from_be_bytes, w16, w32}
use Rattle.std.proofs.lemmas.Nat.{from_be_bytes-to_be_bytes_4, from_be_bytes-to_be_bytes_8}
use Rattle.compose_model.specs.declared.Status.{Status}
use Rattle.compose_model.specs.declared.Status.TheVariants.{Nothing, Composing, Composed, Cancelled}
use Rattle.compose_wire.specs.Messages.{ReplyBody, opened, fed, was_reset, closed, loaded, state, refused, Reply, Refusal, session_taken, no_session, full, bad_keysym, bad_bundle, table_refused, certificate_refused, verdict_no, no_memory, malformed, code}
use Rattle.compose_wire.specs.Frames.{reply_bytes, answer_kind, answer_payload, status_byte}
use Rattle.compose_wire.proofs.OneFrame.{parted}
use Rattle.compose_wire.proofs.Keysyms.{keysym_bytes_length}
use Rattle.compose_client.specs.Replies.{AreKeysyms, AnswerFits, ReplyFits}
use Rattle.compose_client.specs.Giving.{status_at, refusal_at, keysyms_at, answer_at}

status_again : (s : Status) → status_at (status_byte s) ≡ s
status_again Nothing = refl
status_again Composing = refl
status_again Composed = refl
status_again Cancelled = refl

flag_again : (b : Bool) → ((if b then 1 else 0) == 1) ≡ b
flag_again true = refl
flag_again false = refl

refusal_again : (why : Refusal) → refusal_at (from_be_bytes w16 (to_be_bytes w16 (code why))) ≡ why
refusal_again session_taken = refl
refusal_again no_session = refl
refusal_again full = refl
refusal_again bad_keysym = refl
refusal_again bad_bundle = refl
refusal_again table_refused = refl
refusal_again certificate_refused = refl
refusal_again verdict_no = refl
refusal_again no_memory = refl
refusal_again malformed = refl

-- keysyms that are written in four bytes each are read back
pub keysyms_again : (ks : List ℕ) → AreKeysyms ks → keysyms_at (flat_map (to_be_bytes w32) ks) ≡ ks
keysyms_again [] a = refl
keysyms_again (k ∷ ks) a =
    let small = a.0 in
    ap₂ (λ n ns. n ∷ ns) (from_be_bytes-to_be_bytes_4 k (omega arith)) (keysyms_again ks a.1)

-- the answer of a reply that fits is read back from its kind and payload
pub answer_again : (v : ReplyBody) → AnswerFits v → answer_at (answer_kind v) (answer_payload v) ≡ v
answer_again opened f = refl
answer_again (fed status accepted text) f = ap₂ (λ s b. fed s b text) (status_again status) (flag_again accepted)
answer_again was_reset f = refl
answer_again closed f = refl
answer_again (loaded count) f = ap loaded (from_be_bytes-to_be_bytes_8 count f)
answer_again (state status pending) f = ap₂ state (status_again status) (keysyms_again pending f.0)
answer_again (refused why) f = ap refused (refusal_again why)

-- the payload of an answer has at most 257 bytes
pub payload_short : (v : ReplyBody) → AnswerFits v → length (answer_payload v) ≤ 257
payload_short opened f = omega arith
payload_short (fed status accepted text) f = let few = f.1 in omega arith
payload_short was_reset f = omega arith
payload_short closed f = omega arith
payload_short (loaded count) f = omega arith
payload_short (state status pending) f = let few = f.1 in let long = keysym_bytes_length pending in omega arith
payload_short (refused why) f = omega arith

-- the length of an answer's payload is read back from its four bytes
pub length_again : (v : ReplyBody) → AnswerFits v → from_be_bytes w32 (to_be_bytes w32 (length (answer_payload v))) ≡ length (answer_payload v)
length_again v f = let short = payload_short v f in from_be_bytes-to_be_bytes_4 (length (answer_payload v)) (omega arith)

-- bytes begin with the frame of at most one reply, and what follows it is the same
pub one_reply : (q r : Reply) (x y : List ℕ) → ReplyFits q → ReplyFits r → reply_bytes q ++ x ≡ reply_bytes r ++ y → (q ≡ r) × (x ≡ y)
one_reply q r x y f g e =
    let kinds : answer_kind q.answer ≡ answer_kind r.answer = cc in
    let rest : to_be_bytes w32 q.session ++ (to_be_bytes w32 (length (answer_payload q.answer)) ++ (answer_payload q.answer ++ x))
    ≡ to_be_bytes w32 r.session ++ (to_be_bytes w32 (length (answer_payload r.answer)) ++ (answer_payload r.answer ++ y)) = cc in
    let first = parted (to_be_bytes w32 q.session) (to_be_bytes w32 r.session) _ _ refl rest in
    let second =
    parted (to_be_bytes w32 (length (answer_payload q.answer))) (to_be_bytes w32 (length (answer_payload r.answer))) (answer_payload q.answer ++ x)
    (answer_payload r.answer ++ y) refl first.1 in
    let session : q.session ≡ r.session = sym (from_be_bytes-to_be_bytes_4 q.session f.session) ∙ ap (from_be_bytes w32) first.0 ∙ from_be_bytes-to_be_bytes_4 r.session g.session in
    let long : length (answer_payload q.answer) ≡ length (answer_payload r.answer) = sym (length_again q.answer f.answer) ∙ ap (from_be_bytes w32) second.0 ∙ length_again r.answer g.answer in
    let p = parted (answer_payload q.answer) (answer_payload r.answer) x y long second.1 in
    let answer : q.answer ≡ r.answer = sym (answer_again q.answer f.answer) ∙ ap₂ answer_at kinds p.0 ∙ answer_again r.answer g.answer in
    (λ i. record { session = session i; answer = answer i }, p.1)
