use Rattle.std.proofs.Common.{ℕ, ◌<◌, ◌≤◌, ◌-◌, length, get_or}
use Rattle.compose_cert.proofs.repertoire.is_in_ranges.Given as goal

-- the ranges before `low` end below the keysym, and those from `high` on begin above it
abbrev pub invariant-loop-low : goal.invariant-loop-low
invariant-loop-low l =
    (l.low ≤ l.high) × (l.high ≤ length l.ranges) × ((i : ℕ) → i < l.low → (get_or l.ranges i (0, 0)).1 < l.number)
    × ((i : ℕ) → l.high ≤ i → i < length l.ranges → l.number < (get_or l.ranges i (0, 0)).0)

abbrev pub decreases-loop-low : goal.decreases-loop-low
decreases-loop-low l = l.high - l.low
