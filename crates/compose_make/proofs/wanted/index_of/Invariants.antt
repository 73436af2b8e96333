use Rattle.std.proofs.Common.{◌-◌, ◌<◌, ◌≤◌, ℕ, length, get_or}
use Rattle.compose_make.specs.Wanted.{characters_of}
use Rattle.compose_make.proofs.wanted.index_of.Given as goal

abbrev pub invariant-loop-low : goal.invariant-loop-low
invariant-loop-low l = record {
  ends : l.high ≤ length l.rows;
  order : l.low ≤ l.high;
  below : (k : ℕ) → k < l.low → get_or (characters_of l.rows) k 0 < l.character;
  above : (k : ℕ) → l.high ≤ k → k < length l.rows → l.character < get_or (characters_of l.rows) k 0;
}

abbrev pub decreases-loop-low : goal.decreases-loop-low
decreases-loop-low l = l.high - l.low
