use Rattle.std.proofs.Common.{◌≡◌, ◌≤◌, ◌-◌, ◌++◌, map, take}
use Rattle.std.specs.Prelude.{filter, not, ◌==◌}
use Rattle.compose_lint.specs.Lines.{lint_line}
use Rattle.compose_lint.proofs.included.others_in.Given as goal

-- the lines so far, and those among the remaining ones, are those of all lines
abbrev pub invariant-loop-lines : goal.invariant-loop-lines
invariant-loop-lines l = record {
  found : l.others.items ++ map (lint_line l.names l.sources) (filter (λ v. not (v.source == l.source)) (take (1000000 - l.lines) l.visits))
      ≡ map (lint_line l.names l.sources) (filter (λ v. not (v.source == l.source)) (take 1000000 l.fn.visits));
  read : l.lines ≤ 1000000;
}

abbrev pub decreases-loop-lines : goal.decreases-loop-lines
decreases-loop-lines l = 1000000 - l.lines
