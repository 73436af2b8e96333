use Rattle.std.proofs.Common.{◌≡◌, map, drop, string_bytes}
use Rattle.compose_diff.specs.Accepted.{is_stale}
use Rattle.compose_diff.proofs.accepted.matching_text.Given as goal

-- the result depends on the remaining texts alone
abbrev pub invariant-loop-at : goal.invariant-loop-at
invariant-loop-at l = is_stale (map (λ text. string_bytes text) (drop l.at l.texts)) l.line ≡ is_stale (map (λ text. string_bytes text) l.texts) l.line
