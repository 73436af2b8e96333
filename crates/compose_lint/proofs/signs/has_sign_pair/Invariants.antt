use Rattle.std.proofs.Common.{◌≡◌, ◌-◌, ◌≤◌, length, drop}
use Rattle.compose_lint.specs.Lost.{has_sign_after}
use Rattle.compose_lint.proofs.AtOnce.{has_sign_in}
use Rattle.compose_lint.proofs.signs.has_sign_pair.Given as goal

-- there is no sign before the byte in front of `at`
abbrev pub invariant-loop-at : goal.invariant-loop-at
invariant-loop-at l = record {
  none : has_sign_in (drop (l.at - 1) l.line) ≡ has_sign_after 58 l.line;
  low : 1 ≤ l.at;
  high : l.at ≤ length l.line;
}

abbrev pub decreases-loop-at : goal.decreases-loop-at
decreases-loop-at l = length l.line - l.at
