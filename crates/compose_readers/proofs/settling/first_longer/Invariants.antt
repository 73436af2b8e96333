use Rattle.std.proofs.Common.{◌≡◌, ◌≤◌, ℕ, List, drop, length}
use Rattle.std.specs.Prelude.{bytes_eq}
use Rattle.indexmap.specs.IndexMap.{get_by}
use Rattle.compose_readers.specs.Fates.{extends, first_from}
use Rattle.compose_readers.proofs.settling.first_longer.Given as goal

-- the first of the last entries
abbrev pub invariant-loop-at : goal.invariant-loop-at
invariant-loop-at l = record {
  within : l.at ≤ length l.entries;
  first : (q : List ℕ) → get_by (λ k. bytes_eq q k.now) l.first ≡ first_from (extends q) l.at (drop l.at l.entries);
}

abbrev pub decreases-loop-at : goal.decreases-loop-at
decreases-loop-at l = l.at
