-- What is returned of the bytes that are held.
use Rattle.std.specs.Prelude.{◌≡◌, ℕ, ◌+◌, ◌==◌, ◌<◌, ◌≤◌, List, [], ◌∷◌, ◌++◌, length, take, drop, slice_index, if◌then◌else◌, Option, Some, None, Result, Ok, Err}
use Rattle.std.specs.Int.{from_be_bytes, w16, w32, w64}
use Rattle.compose_model.specs.declared.Status.{Status}
use Rattle.compose_model.specs.declared.Status.TheVariants.{Nothing, Composing, Composed, Cancelled}
use Rattle.compose_wire.specs.Messages.{ReplyBody as AnswerValue, opened, fed, was_reset, closed, loaded, state, refused, Reply as ReplyValue, Refusal, session_taken, no_session, full, bad_keysym, bad_bundle, table_refused, certificate_refused, verdict_no, no_memory, malformed}
use Rattle.compose_wire.specs.Frames.{reply_bytes, answer_kind, answer_payload, Fault, unknown_kind, bad_length, stated_size}
use Rattle.compose_wire.specs.Replies.{HasAnswerValue, HasReplyValue}
use Rattle.compose_wire.specs.declared.reply.ReplyBody.{ReplyBody}
use Rattle.compose_wire.specs.declared.reply.Reply.{Reply}
use Rattle.compose_client.specs.Replies.{AnswerFits, ReplyFits, head_fault, HasBadPayload, IsReplyBegun, max_reply}
use Rattle.compose_client.specs.declared.fault.ReplyFault.{ReplyFault}
use Rattle.compose_client.specs.declared.fault.ReplyFault.TheVariants.{UnknownKind, BadLength, BadPayload, NoMemory}

-- the held bytes were the frame of this reply, followed by what is held now
pub record GivesOut (reply : Reply) (held held' : List ℕ) : Type 0 where
  pub value : ReplyValue
  pub says : HasReplyValue reply value
  pub fits : ReplyFits value
  pub bytes : held ≡ reply_bytes value ++ held'

-- the fault is that of the held bytes; no reply needs memory
abbrev pub IsFaultOf : List ℕ → ReplyFault → Type 0
IsFaultOf held UnknownKind = head_fault held ≡ Some unknown_kind
IsFaultOf held BadLength = head_fault held ≡ Some bad_length
IsFaultOf held BadPayload = HasBadPayload held
IsFaultOf held NoMemory = ⊥

-- the result for the held bytes, and what is held after it: if they begin with a reply's frame, the
-- reply is returned; else all is held as before
abbrev pub Returns : Result (Option Reply) ReplyFault → List ℕ → List ℕ → Type 0
Returns (Ok (Some reply)) held held' = GivesOut reply held held'
Returns (Ok None) held held' = IsReplyBegun held × (length held < max_reply) × (held' ≡ held)
Returns (Err fault) held held' = IsFaultOf held fault × (held' ≡ held)

-- the result if the bytes begin with a reply's frame: the reply
abbrev pub ReturnsReply : ReplyValue → List ℕ → Result (Option Reply) ReplyFault → List ℕ → Type 0
ReturnsReply r more (Ok (Some reply)) held' = HasReplyValue reply r × (held' ≡ more)
ReturnsReply r more _ held' = ⊥

-- the program's name of a fault of a head, which is never too long
abbrev pub reply_fault : Fault → ReplyFault
reply_fault unknown_kind = UnknownKind
reply_fault _ = BadLength

-- ---- the parts: definitions for the contracts of private functions

-- the status of a byte
abbrev pub status_at : ℕ → Status
status_at byte = if byte == 0 then Nothing else if byte == 1 then Composing else if byte == 2 then Composed else Cancelled

-- the refusal of a code from 1 to 10
abbrev pub refusal_at : ℕ → Refusal
refusal_at n =
    if n == 1 then session_taken else if n == 2 then no_session else if n == 3 then full else if n == 4 then bad_keysym else
    if n == 5 then bad_bundle else if n == 6 then table_refused else if n == 7 then certificate_refused else
    if n == 8 then verdict_no else if n == 9 then no_memory else malformed

-- the keysyms in four bytes each
abbrev pub keysyms_at : List ℕ → List ℕ
keysyms_at (a ∷ b ∷ c ∷ d ∷ rest) = from_be_bytes w32 (a ∷ b ∷ c ∷ d ∷ []) ∷ keysyms_at rest
keysyms_at _ = []

-- the answer of a kind and a payload, if an answer has them
abbrev pub answer_at : ℕ → List ℕ → AnswerValue
answer_at kind bytes =
    if kind == 0x82 then fed (status_at (slice_index bytes 0)) (slice_index bytes 1 == 1) (drop 2 bytes) else
    if kind == 0x83 then was_reset else if kind == 0x84 then closed else if kind == 0x85 then loaded (from_be_bytes w64 bytes) else
    if kind == 0x86 then state (status_at (slice_index bytes 0)) (keysyms_at (drop 2 bytes)) else
    if kind == 0xff then refused (refusal_at (from_be_bytes w16 bytes)) else opened

-- the reply with which the bytes begin, if they begin with one
abbrev pub reply_at : List ℕ → ReplyValue
reply_at held = record {
  session = from_be_bytes w32 (take 4 (drop 1 held));
  answer = answer_at (slice_index held 0) (take (stated_size held) (drop 9 held));
}

-- the lengths that fit a kind of reply, and the largest length
abbrev pub HasLength : ℕ → ℕ → Type 0
HasLength kind n = (kind ≡ 0x82 → 2 ≤ n) × (kind ≡ 0x85 → n ≡ 8) × (kind ≡ 0x86 → (2 ≤ n) × (n ≤ 126)) × (kind ≡ 0xff → n ≡ 2) × (n ≤ 257)

-- the answer is that of the kind and the payload, and fits; none if no answer that fits has this
-- kind and this payload
abbrev pub ReadsAnswer : Option ReplyBody → ℕ → List ℕ → Type 0
ReadsAnswer (Some answer) kind bytes = HasAnswerValue answer (answer_at kind bytes) × AnswerFits (answer_at kind bytes)
ReadsAnswer None kind bytes = (v : AnswerValue) → AnswerFits v → answer_kind v ≡ kind → answer_payload v ≡ bytes → ⊥

-- the length of the payload, if there is a whole frame
abbrev pub IsSize : Result (Option ℕ) ReplyFault → List ℕ → Type 0
IsSize (Ok (Some size)) held = (head_fault held ≡ None) × (size ≡ stated_size held) × (9 + size ≤ length held) × HasLength (slice_index held 0) size
IsSize (Ok None) held = IsReplyBegun held × (length held < max_reply)
IsSize (Err BadPayload) held = ⊥
IsSize (Err fault) held = IsFaultOf held fault

-- the first reply of the held bytes, and the number of bytes of its frame
abbrev pub IsFirst : Result (Option (Reply × ℕ)) ReplyFault → List ℕ → Type 0
IsFirst (Ok (Some first)) held = GivesOut first.0 held (drop first.1 held) × (first.1 ≤ length held)
IsFirst (Ok None) held = IsReplyBegun held × (length held < max_reply)
IsFirst (Err fault) held = IsFaultOf held fault
