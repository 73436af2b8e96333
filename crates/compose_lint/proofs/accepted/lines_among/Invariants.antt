use Rattle.std.proofs.Common.{◌≡◌, ℕ, List, map, take}
use Rattle.std.specs.Prelude.{bytes_eq, is_some}
use Rattle.std.specs.List.{list_any}
use Rattle.indexmap.specs.IndexMap.{get_by}
use Rattle.compose_diff.specs.Accepted.{Line}
use Rattle.compose_lint.proofs.accepted.lines_among.Given as goal

-- the lines so far are in the set
abbrev pub invariant-loop-line : goal.invariant-loop-line
invariant-loop-line l = (q : List ℕ) → is_some (get_by (λ k. bytes_eq q k.now) l.among) ≡ list_any (bytes_eq q) (map (λ (line : Line). line.text) (take l.line-index l.lines))
