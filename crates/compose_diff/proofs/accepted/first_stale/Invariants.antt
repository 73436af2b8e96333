use Rattle.std.proofs.Common.{◌≡◌, map, drop, string_bytes}
use Rattle.std.specs.List.{find}
use Rattle.compose_diff.specs.Accepted.{is_stale}
use Rattle.compose_diff.proofs.accepted.first_stale.Given as goal

-- the first line that matches no text is among those that are left
abbrev pub invariant-loop-line : goal.invariant-loop-line
invariant-loop-line l = find (is_stale (map (λ text. string_bytes text) l.texts)) (drop l.line-index l.lines) ≡ find (is_stale (map (λ text. string_bytes text) l.texts)) l.lines
