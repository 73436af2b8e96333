use Rattle.std.proofs.Common.{◌≡◌, ◌++◌, drop, map, string_bytes}
use Rattle.compose_runs.specs.HowTo.{missing_lines}
use Rattle.compose_runs.proofs.looking_up.missing_lines.Given as goal

-- the lines so far and those of the remaining words are those of all
abbrev pub invariant-loop-index : goal.invariant-loop-index
invariant-loop-index l = string_bytes l.lines ++ missing_lines (map (λ word. word.now) (drop l.index l.words)) (drop l.index l.found) ≡ missing_lines (map (λ word. word.now) l.words) l.found
