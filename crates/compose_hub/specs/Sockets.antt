-- What accepting, waiting and closing change of the streams.
use Rattle.std.specs.Prelude.{◌≡◌, ℕ, ◌+◌, ◌<◌, true, Option, Some, None}
use Rattle.compose_many.specs.Numbered.{StreamState, OthersStay}
use Rattle.compose_many.specs.Streams.{is_failed}

-- every stream is as before
abbrev pub AllStay : (ℕ → StreamState) → (ℕ → StreamState) → Type 0
AllStay before now = (c : ℕ) → now c ≡ before c

-- the bytes of each stream stay: those that are left to read, and those that were written
abbrev pub BytesStay : (ℕ → StreamState) → (ℕ → StreamState) → Type 0
BytesStay before now = (c : ℕ) → ((now c).left ≡ (before c).left) × ((now c).written ≡ (before c).written)

-- the bytes of the stream with this number stay, and every other stream is as before
pub record KeepsBytes (number : ℕ) (before now : ℕ → StreamState) : Type 0 where
  pub left : (now number).left ≡ (before number).left
  pub written : (now number).written ≡ (before number).written
  pub others : OthersStay number before now

-- a stream that failed to read or to write is still marked as failed
pub record StaysFailed (before now : StreamState) : Type 0 where
  pub read : is_failed before.read_mark ≡ true → is_failed now.read_mark ≡ true
  pub write : is_failed before.write_mark ≡ true → is_failed now.write_mark ≡ true

-- ---- attempts to accept, if they are counted

abbrev pub one_more : Option ℕ → Option ℕ
one_more None = None
one_more (Some n) = Some (n + 1)

-- at least one more
abbrev pub IsMore : Option ℕ → Option ℕ → Type 0
IsMore None now = now ≡ None
IsMore (Some n) now = (m : ℕ) × (now ≡ Some m) × (n < m)
