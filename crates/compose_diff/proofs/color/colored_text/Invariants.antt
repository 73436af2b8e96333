use Rattle.std.proofs.Common.{◌≡◌, map, string_bytes}
use Rattle.compose_diff.specs.Colors.{colored_lines}
use Rattle.compose_diff.proofs.color.colored_text.Given as goal

-- the lines so far are written
abbrev pub invariant-loop-line : goal.invariant-loop-line
invariant-loop-line l = string_bytes l.colored ≡ colored_lines (map (λ line. line.now) l.yielded)
