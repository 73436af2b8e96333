-- Frames: a kind, a session, a length and a payload; all numbers are big-endian (this project's
-- protocol).
use Rattle.std.specs.Prelude.{◌≡◌, ℕ, not, ◌||◌, ◌==◌, nat_lt, if◌then◌else◌, List, [], ◌∷◌, ◌++◌, length, take, drop, flat_map, Option, Some, None}
use Rattle.std.specs.Int.{to_be_bytes, from_be_bytes, w16, w32, w64}
use Rattle.compose_text.specs.Numbers.{is_between}
use Rattle.compose_model.specs.declared.Status.{Status}
use Rattle.compose_model.specs.declared.Status.TheVariants.{Nothing, Composing, Composed, Cancelled}
use Rattle.compose_model.specs.declared.Rule.TheVariants.{Refuse, Longest}
use Rattle.compose_wire.specs.Messages.{Body, open_session, key, reset, close, load, ask, Request, Fits, code, ReplyBody, opened, fed, was_reset, closed, loaded, state, refused, Reply, max_payload}

-- ---- requests

-- the first byte of a request's frame
abbrev pub kind_of : Body → ℕ
kind_of open_session = 1
kind_of (key k) = 2
kind_of reset = 3
kind_of close = 4
kind_of (load Refuse bytes) = 5
kind_of ask = 6
kind_of (load Longest bytes) = 7

-- a key's keysym in four bytes, the payload of a load, or else nothing
abbrev pub payload : Body → List ℕ
payload (key k) = to_be_bytes w32 k
payload (load rule bytes) = bytes
payload _ = []

-- a kind, a session, the number of the bytes, and the bytes
abbrev pub frame_of : ℕ → ℕ → List ℕ → List ℕ
frame_of kind session bytes = kind ∷ to_be_bytes w32 session ++ to_be_bytes w32 (length bytes) ++ bytes

-- the bytes of a request, and of requests in a row
abbrev pub frame : Request → List ℕ
frame q = frame_of (kind_of q.body) q.session (payload q.body)

abbrev pub frames : List Request → List ℕ
frames qs = flat_map frame qs

-- ---- faults

-- the faults of a frame
pub data Fault : Type 0 where
  unknown_kind : Fault
  bad_length : Fault
  too_long : Fault

-- a load may have up to the largest payload; a key has four bytes, and the others have none
abbrev pub length_fault : ℕ → ℕ → Option Fault
length_fault kind n =
    if kind == 5 || kind == 7 then (if nat_lt max_payload n then Some too_long else None) else
    if n == (if kind == 2 then 4 else 0) then None else Some bad_length

-- the fault at the beginning of the bytes: an unknown kind from the first byte on, a wrong length
-- from the nine bytes of the head on
abbrev pub fault_at : List ℕ → Option Fault
fault_at [] = None
fault_at (kind ∷ rest) =
    if not (is_between 1 7 kind) then Some unknown_kind else
    if nat_lt (length rest) 8 then None else length_fault kind (from_be_bytes w32 (take 4 (drop 4 rest)))

-- ---- replies

-- the byte of a status
abbrev pub status_byte : Status → ℕ
status_byte Nothing = 0
status_byte Composing = 1
status_byte Composed = 2
status_byte Cancelled = 3

-- the first byte of a reply's frame
abbrev pub answer_kind : ReplyBody → ℕ
answer_kind opened = 0x81
answer_kind (fed status accepted text) = 0x82
answer_kind was_reset = 0x83
answer_kind closed = 0x84
answer_kind (loaded count) = 0x85
answer_kind (state status pending) = 0x86
answer_kind (refused why) = 0xff

-- the status, whether the key was accepted, and the text; the count in eight bytes; the status, the
-- number of pending keysyms, and each in four bytes; the code in two bytes; or else nothing
abbrev pub answer_payload : ReplyBody → List ℕ
answer_payload (fed status accepted text) = status_byte status ∷ (if accepted then 1 else 0) ∷ text
answer_payload (loaded count) = to_be_bytes w64 count
answer_payload (state status pending) = status_byte status ∷ length pending ∷ flat_map (to_be_bytes w32) pending
answer_payload (refused why) = to_be_bytes w16 (code why)
answer_payload _ = []

-- the bytes of a reply
abbrev pub reply_bytes : Reply → List ℕ
reply_bytes r = frame_of (answer_kind r.answer) r.session (answer_payload r.answer)

-- ---- the beginning of the bytes of a stream

-- the bytes begin with the frame of some request
abbrev pub BeginsWithFrame : List ℕ → Type 0
BeginsWithFrame bytes = (q : Request) × (more : List ℕ) × Fits q × (bytes ≡ frame q ++ more)

-- the bytes are less than a frame, perhaps none, and begin with no fault
pub record IsBegun (bytes : List ℕ) : Type 0 where
  pub no_fault : fault_at bytes ≡ None
  pub no_frame : BeginsWithFrame bytes → ⊥

-- the length of the payload by the head of a frame
abbrev pub stated_size : List ℕ → ℕ
stated_size bytes = from_be_bytes w32 (take 4 (drop 5 bytes))

-- the length of the largest frame
abbrev pub max_frame : ℕ
max_frame = 8388617
