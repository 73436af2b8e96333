-- What a pull and a push that do not wait do to the known bytes and to the mark (this project's
-- profile).
use Rattle.std.specs.Prelude.{◌≡◌, ℕ, ◌<◌, ◌≤◌, Bool, true, false, List, length, Option, Some, MatchResult, Result}
use Rattle.std.specs.Io.KnownBytes.{ReadConsumes, WriteAppends}
use Rattle.compose_many.specs.declared.streams.TryError.{TryError}
use Rattle.compose_many.specs.declared.streams.TryError.TheVariants.{Failed}

-- a pull takes n bytes from the beginning and leaves the mark; n is 0 only at the end, or if the
-- piece is empty. At an error it takes none, and the mark is the error
abbrev pub TryPulls : Option (List ℕ) → Option (List ℕ) → Option TryError → Option TryError → Result ℕ TryError → List ℕ → Type 0
TryPulls left left' mark mark' r piece = ReadConsumes left left' r piece × MatchResult r (λ n. (n ≤ length piece) × (mark' ≡ mark)) (λ e. mark' ≡ Some e)

-- a push of some bytes takes one or more of them and leaves the mark; at an error it takes none,
-- and the mark is the error
abbrev pub TryPushes : Option (List ℕ) → Option (List ℕ) → Option TryError → Option TryError → Result ℕ TryError → List ℕ → Type 0
TryPushes written written' mark mark' r piece =
    WriteAppends written written' r piece × MatchResult r (λ n. (n ≤ length piece) × (0 < length piece → 0 < n) × (mark' ≡ mark)) (λ e. mark' ≡ Some e)

-- the mark of a device that failed
abbrev pub is_failed : Option TryError → Bool
is_failed (Some Failed) = true
is_failed _ = false
