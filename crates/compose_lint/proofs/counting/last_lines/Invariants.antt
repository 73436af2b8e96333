use Rattle.std.proofs.Common.{◌≡◌, true, ℕ, List, Bor, take}
use Rattle.std.specs.Prelude.{bytes_eq, slice_get}
use Rattle.std.specs.Option.{option_and_then}
use Rattle.indexmap.specs.IndexMap.{get_by}
use Rattle.compose_lint.specs.Counting.{last_defining}
use Rattle.compose_lint.proofs.LastOnes.{IsOnceIn}
use Rattle.compose_lint.proofs.counting.last_lines.Given as goal

-- each sequence has the last of the lines so far
abbrev pub invariant-loop-index : goal.invariant-loop-index
invariant-loop-index l = record {
  last : (q : Bor (List ℕ)) → option_and_then (slice_get l.lines) (get_by (λ k. bytes_eq q.now k.now) l.last) ≡ last_defining (take l.index l.lines) q.now;
  once : l.is_once ≡ true → IsOnceIn l.lines l.index (λ (q : List ℕ). get_by (λ k. bytes_eq q k.now) l.last);
}
