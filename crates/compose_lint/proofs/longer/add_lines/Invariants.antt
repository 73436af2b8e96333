use Rattle.std.proofs.Common.{◌≡◌, ◌≤◌, ℕ, List, Bor, drop, length}
use Rattle.std.specs.Prelude.{bytes_eq}
use Rattle.std.specs.Option.{option_or}
use Rattle.indexmap.specs.IndexMap.{get_by}
use Rattle.compose_lint.specs.Longer.{longer_place}
use Rattle.compose_lint.proofs.longer.add_lines.Given as goal

-- the places of the last lines are added
abbrev pub invariant-loop-at : goal.invariant-loop-at
invariant-loop-at l = record {
  within : l.at ≤ length l.lines;
  added : (q : Bor (List ℕ)) → get_by (λ k. bytes_eq q.now k.now) l.places ≡ option_or (get_by (λ k. bytes_eq q.now k.now) l.fn.places) (longer_place (drop l.at l.lines) q.now);
}

abbrev pub decreases-loop-at : goal.decreases-loop-at
decreases-loop-at l = l.at
