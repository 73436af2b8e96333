use Rattle.std.proofs.Common.{◌≡◌, ◌≤◌, ℕ, List, Bor, drop, length}
use Rattle.std.specs.Prelude.{bytes_eq}
use Rattle.indexmap.specs.IndexMap.{get_by}
use Rattle.compose_lint.specs.Lines.{all_lines}
use Rattle.compose_lint.specs.Longer.{longer_place}
use Rattle.compose_lint.proofs.longer.longer_places.Given as goal

-- the places of the last files
abbrev pub invariant-loop-at : goal.invariant-loop-at
invariant-loop-at l = record {
  within : l.at ≤ length l.files;
  added : (q : Bor (List ℕ)) → get_by (λ k. bytes_eq q.now k.now) l.places ≡ longer_place (all_lines (drop l.at l.files)) q.now;
}

abbrev pub decreases-loop-at : goal.decreases-loop-at
decreases-loop-at l = l.at
