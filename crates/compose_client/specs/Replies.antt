-- Which replies exist, and the beginning of the bytes of a stream (this project's protocol).
use Rattle.std.specs.Prelude.{◌≡◌, ℕ, Bool, not, ◌||◌, ◌==◌, ◌<◌, ◌≤◌, ◌^◌, ◌+◌, nat_lt, if◌then◌else◌, List, [], ◌∷◌, ◌++◌, length, take, drop, Option, Some, None, IsUtf8}
use Rattle.std.specs.Int.{from_be_bytes, w32}
use Rattle.std.specs.List.{AllByRecursion}
use Rattle.compose_text.specs.Numbers.{is_between}
use Rattle.compose_wire.specs.Messages.{ReplyBody, fed, loaded, state, Reply}
use Rattle.compose_wire.specs.Frames.{reply_bytes, Fault, unknown_kind, bad_length, stated_size}

-- ---- which replies exist

-- numbers of keysyms
abbrev pub AreKeysyms : List ℕ → Type 0
AreKeysyms ks = AllByRecursion (λ k. k ≤ 0x1fffffff) ks

-- a text is UTF-8 of at most 255 bytes, a count fits into eight bytes, and at most 31 keysyms are
-- pending
abbrev pub AnswerFits : ReplyBody → Type 0
AnswerFits (fed status accepted text) = IsUtf8 text × (length text ≤ 255)
AnswerFits (loaded count) = count < 2 ^ 64
AnswerFits (state status pending) = AreKeysyms pending × (length pending ≤ 31)
AnswerFits _ = Unit {0}

-- a reply that has a frame
pub record ReplyFits (r : Reply) : Type 0 where
  pub session : r.session < 2 ^ 32
  pub answer : AnswerFits r.answer

-- the bytes begin with the frame of some reply
abbrev pub BeginsWithReply : List ℕ → Type 0
BeginsWithReply bytes = (r : Reply) × (more : List ℕ) × ReplyFits r × (bytes ≡ reply_bytes r ++ more)

-- ---- faults

-- the first bytes of replies
abbrev pub is_reply_kind : ℕ → Bool
is_reply_kind kind = is_between 0x81 0x86 kind || (kind == 0xff)

-- Fed has 2 to 257 bytes, Loaded eight, State 2 to 126, Refused two, and the others have none
abbrev pub is_reply_length : ℕ → ℕ → Bool
is_reply_length kind n =
    if kind == 0x82 then is_between 2 257 n else if kind == 0x85 then n == 8 else
    if kind == 0x86 then is_between 2 126 n else if kind == 0xff then n == 2 else n == 0

-- the fault in the head of the next frame: an unknown kind from the first byte on, a wrong length
-- from the nine bytes of the head on
abbrev pub head_fault : List ℕ → Option Fault
head_fault [] = None
head_fault (kind ∷ rest) =
    if not (is_reply_kind kind) then Some unknown_kind else
    if nat_lt (length rest) 8 then None else
    if is_reply_length kind (from_be_bytes w32 (take 4 (drop 4 rest))) then None else Some bad_length

-- there are as many bytes as the head requires, and the head has no fault, but no reply has this
-- frame
pub record HasBadPayload (bytes : List ℕ) : Type 0 where
  pub head : head_fault bytes ≡ None
  pub whole : 9 ≤ length bytes
  pub expected : 9 + stated_size bytes ≤ length bytes
  pub no_reply : BeginsWithReply bytes → ⊥

-- the bytes, perhaps none, are less than a head, or less than the head requires; they have no fault
pub record IsReplyBegun (bytes : List ℕ) : Type 0 where
  pub head : head_fault bytes ≡ None
  pub short : 9 ≤ length bytes → length bytes < 9 + stated_size bytes

-- the length of the largest frame of a reply
abbrev pub max_reply : ℕ
max_reply = 266
