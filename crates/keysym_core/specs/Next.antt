-- The keysyms of a character, one after another.
use Rattle.std.specs.Prelude.{◌≡◌, ℕ, ◌+◌, ◌≤◌, nat_le, if◌then◌else◌, Option, Some, None}
use Rattle.keysym_core.specs.Names.{KeysymNames, character_of}

-- the least number that is considered: 0, or the one after the given number
abbrev pub from_above : Option ℕ → ℕ
from_above None = 0
from_above (Some k) = k + 1

-- the least number not below `low` with the property P; none if there is no such number
abbrev pub IsLeastFrom : ℕ → (ℕ → Type 0) → Option ℕ → Type 0
IsLeastFrom low P None = (k : ℕ) → low ≤ k → P k → ⊥
IsLeastFrom low P (Some k) = (low ≤ k) × P k × ((j : ℕ) → low ≤ j → P j → k ≤ j)

-- the least keysym with this character, greater than the given one if there is one
abbrev pub IsNextOf : KeysymNames → ℕ → Option ℕ → Option ℕ → Type 0
IsNextOf names c after found = IsLeastFrom (from_above after) (λ k. character_of names k ≡ Some c) found

-- the lesser of two numbers, either of which may be missing
abbrev pub lesser : Option ℕ → Option ℕ → Option ℕ
lesser None other = other
lesser (Some k) None = Some k
lesser (Some k) (Some j) = if nat_le k j then Some k else Some j
