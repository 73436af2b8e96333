use Rattle.std.proofs.Common.{◌≡◌, not, drop}
use Rattle.std.specs.List.{find}
use Rattle.compose_lint.specs.Accepted.{is_in_form}
use Rattle.compose_lint.proofs.accepted.first_bad.Given as goal

-- the first bad line is among the remaining ones
abbrev pub invariant-loop-line : goal.invariant-loop-line
invariant-loop-line l = find (λ line. not (is_in_form line)) (drop l.line-index l.lines) ≡ find (λ line. not (is_in_form line)) l.lines
