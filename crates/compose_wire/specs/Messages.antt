-- Requests to the typing service and its replies, as values (this project's protocol).
use Rattle.std.specs.Prelude.{ℕ, Bool, List, ◌<◌, ◌≤◌, ◌^◌, length}
use Rattle.std.specs.List.{AllByRecursion}
use Rattle.compose_model.specs.declared.Status.{Status}
use Rattle.compose_model.specs.declared.Rule.{Rule}

-- what a request asks for
pub data Body : Type 0 where
  open_session : Body
  key : ℕ → Body
  reset : Body
  close : Body
  -- the rule for overlaps, and the payload
  load : Rule → List ℕ → Body
  ask : Body

-- the session of a load is repeated in its reply, and else ignored
pub record Request : Type 0 where
  pub session : ℕ
  pub body : Body

-- why a request is refused
pub data Refusal : Type 0 where
  session_taken : Refusal
  no_session : Refusal
  full : Refusal
  bad_keysym : Refusal
  bad_bundle : Refusal
  table_refused : Refusal
  certificate_refused : Refusal
  verdict_no : Refusal
  no_memory : Refusal
  malformed : Refusal

-- the number of a refusal in a reply
abbrev pub code : Refusal → ℕ
code session_taken = 1
code no_session = 2
code full = 3
code bad_keysym = 4
code bad_bundle = 5
code table_refused = 6
code certificate_refused = 7
code verdict_no = 8
code no_memory = 9
code malformed = 10

-- the content of a reply
pub data ReplyBody : Type 0 where
  opened : ReplyBody
  -- the status, whether the key was accepted, and the text
  fed : Status → Bool → List ℕ → ReplyBody
  was_reset : ReplyBody
  closed : ReplyBody
  -- the number of loads that were accepted
  loaded : ℕ → ReplyBody
  -- the status and the pending keysyms
  state : Status → List ℕ → ReplyBody
  refused : Refusal → ReplyBody

-- a reply repeats the session of its request
pub record Reply : Type 0 where
  pub session : ℕ
  pub answer : ReplyBody

-- ---- what fits into a frame

-- the largest payload
abbrev pub max_payload : ℕ
max_payload = 8388608

-- numbers below 256
abbrev pub AreBytes : List ℕ → Type 0
AreBytes bs = AllByRecursion (λ b. b < 2 ^ 8) bs

-- the keysym fits into four bytes, and a payload is not too large
abbrev pub BodyFits : Body → Type 0
BodyFits (key k) = k < 2 ^ 32
BodyFits (load rule bytes) = (length bytes ≤ max_payload) × AreBytes bytes
BodyFits _ = Unit {0}

-- a request that has a frame
pub record Fits (q : Request) : Type 0 where
  pub session : q.session < 2 ^ 32
  pub body : BodyFits q.body
