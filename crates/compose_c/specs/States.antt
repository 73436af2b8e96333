-- The meaning of the numbers in a C state.
use Rattle.std.specs.Prelude.{ℕ, ◌==◌, nat_le, List, [], take, if◌then◌else◌}
use Rattle.std.specs.List.{list_all}
use Rattle.keysym_core.specs.Keysym.{is_keysym, is_ignored}
use Rattle.compose_model.specs.Session.{Session}
use Rattle.compose_model.specs.declared.Status.{Status}
use Rattle.compose_model.specs.declared.Status.TheVariants.{Nothing, Composing, Composed, Cancelled}
use Rattle.compose_c.specs.declared.state.State.{State}

-- the values of enum xkb_compose_status
abbrev pub status_number : Status → ℕ
status_number Nothing = 0
status_number Composing = 1
status_number Composed = 2
status_number Cancelled = 3

-- any other number means nothing
abbrev pub status_of : ℕ → Status
status_of n = if n == 1 then Composing else if n == 2 then Composed else if n == 3 then Cancelled else Nothing

-- the numbers if all are keysyms, otherwise none
abbrev pub keysyms_of : List ℕ → List ℕ
keysyms_of numbers = if list_all is_keysym numbers then numbers else []

-- the first `count` numbers; nothing is pending if the count is above 31 or one of them is not a
-- keysym
abbrev pub pending_of : State → List ℕ
pending_of s = if nat_le s.count 31 then keysyms_of (take s.count s.pending) else []

abbrev pub session_of : State → Session
session_of s = record { pending = pending_of s; status = status_of s.status }

-- the answer of a feed: 0 ignored, 1 accepted, 2 not a keysym
abbrev pub feed_number : ℕ → ℕ
feed_number k = if is_keysym k then (if is_ignored k then 0 else 1) else 2
