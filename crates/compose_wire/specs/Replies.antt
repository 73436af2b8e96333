-- The program's replies: the value of each, and its bytes (this project's protocol).
use Rattle.std.specs.Prelude.{◌≡◌, ℕ, if◌then◌else◌, List, [], ◌∷◌, length, flat_map, ⊤}
use Rattle.std.specs.Int.{to_be_bytes, w16, w32, w64}
use Rattle.compose_wire.specs.Messages.{code, ReplyBody as AnswerValue, opened, fed, was_reset, closed, loaded, state, refused, Reply as ReplyValue}
use Rattle.compose_wire.specs.Frames.{frame_of, status_byte}
use Rattle.compose_wire.specs.declared.reply.ReplyBody.{ReplyBody}
use Rattle.compose_wire.specs.declared.reply.ReplyBody.TheVariants.{Opened, Fed, WasReset, Closed, Loaded, State, Refused}
use Rattle.compose_wire.specs.declared.reply.Reply.{Reply}

-- the value of the program's answer; a refusal is given by its code
abbrev pub HasAnswerValue : ReplyBody → AnswerValue → Type 0
HasAnswerValue Opened opened = ⊤
HasAnswerValue (Fed status accepted text) (fed status' accepted' bytes) = (status ≡ status') × (accepted ≡ accepted') × (text.bytes ≡ bytes)
HasAnswerValue WasReset was_reset = ⊤
HasAnswerValue Closed closed = ⊤
HasAnswerValue (Loaded count) (loaded count') = count ≡ count'
HasAnswerValue (State status pending) (state status' keysyms) = (status ≡ status') × (pending.items ≡ keysyms)
HasAnswerValue (Refused number) (refused why) = number ≡ code why
HasAnswerValue _ _ = ⊥

-- the value of the program's reply
abbrev pub HasReplyValue : Reply → ReplyValue → Type 0
HasReplyValue reply value = (reply.session ≡ value.session) × HasAnswerValue reply.answer value.answer

-- the kind and the payload of an answer's frame; a refusal may have any code
abbrev pub kind_of_answer : ReplyBody → ℕ
kind_of_answer Opened = 0x81
kind_of_answer (Fed status accepted text) = 0x82
kind_of_answer WasReset = 0x83
kind_of_answer Closed = 0x84
kind_of_answer (Loaded count) = 0x85
kind_of_answer (State status pending) = 0x86
kind_of_answer (Refused number) = 0xff

abbrev pub payload_of_answer : ReplyBody → List ℕ
payload_of_answer (Fed status accepted text) = status_byte status ∷ (if accepted then 1 else 0) ∷ text.bytes
payload_of_answer (Loaded count) = to_be_bytes w64 count
payload_of_answer (State status pending) = status_byte status ∷ length pending.items ∷ flat_map (to_be_bytes w32) pending.items
payload_of_answer (Refused number) = to_be_bytes w16 number
payload_of_answer _ = []

-- the bytes of the program's reply
abbrev pub bytes_of : Reply → List ℕ
bytes_of reply = frame_of (kind_of_answer reply.answer) reply.session (payload_of_answer reply.answer)
