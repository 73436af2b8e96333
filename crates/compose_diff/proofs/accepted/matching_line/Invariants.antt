use Rattle.std.proofs.Common.{◌≡◌, drop}
use Rattle.std.specs.List.{list_any}
use Rattle.compose_diff.specs.Accepted.{matches_text}
use Rattle.compose_diff.proofs.accepted.matching_line.Given as goal

-- the result depends on the remaining lines alone
abbrev pub invariant-loop-at : goal.invariant-loop-at
invariant-loop-at l = list_any (matches_text l.text) (drop l.at l.lines) ≡ list_any (matches_text l.text) l.lines
