use Rattle.std.proofs.Common.{◌≡◌, ◌++◌, map, drop}
use Rattle.std.specs.Prelude.{flat_map}
use Rattle.compose_read.specs.Lines.{Source}
use Rattle.compose_lint.specs.Lost.{lost_lines}
use Rattle.compose_lint.proofs.lost.lost_count.Given as goal

-- the lost lines so far and the lost lines of the remaining sources are all lost lines
abbrev pub invariant-loop-source : goal.invariant-loop-source
invariant-loop-source l = map (λ x. x.now) l.lost.items ++ flat_map (λ (s : Source). lost_lines s.bytes) (drop l.source l.sources) ≡ flat_map (λ (s : Source). lost_lines s.bytes) l.sources
