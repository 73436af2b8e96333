use Rattle.std.proofs.Common.{◌≡◌, ℕ, List, take}
use Rattle.std.specs.Prelude.{bytes_eq}
use Rattle.indexmap.specs.IndexMap.{get_by}
use Rattle.compose_readers.specs.Fates.{is_for, last_from}
use Rattle.compose_readers.proofs.settling.last_of.Given as goal

-- the last of the entries so far
abbrev pub invariant-loop-at : goal.invariant-loop-at
invariant-loop-at l = (q : List ℕ) → get_by (λ k. bytes_eq q k.now) l.last ≡ last_from (is_for q) 0 (take l.at l.entries)
