use Rattle.std.proofs.Common.{◌≡◌, take}
use Rattle.compose_results.specs.SourceLines.{all_lines}
use Rattle.compose_results.proofs.lines.all_lines.Given as goal

-- the lines of the sources so far
abbrev pub invariant-loop-index : goal.invariant-loop-index
invariant-loop-index l = l.all.items ≡ all_lines (take l.index l.sources)
