use Rattle.std.proofs.Common.{◌≡◌, not, drop}
use Rattle.std.specs.Prelude.{bytes_eq, is_some}
use Rattle.std.specs.List.{find}
use Rattle.indexmap.specs.IndexMap.{get_by}
use Rattle.compose_diff.specs.Accepted.{Line}
use Rattle.compose_lint.proofs.accepted.first_missing.Given as goal

-- the first missing line is among the remaining ones
abbrev pub invariant-loop-line : goal.invariant-loop-line
invariant-loop-line l = find (λ (line : Line). not (is_some (get_by (λ k. bytes_eq line.text k.now) l.among))) (drop l.line-index l.lines)
    ≡ find (λ (line : Line). not (is_some (get_by (λ k. bytes_eq line.text k.now) l.among))) l.lines
