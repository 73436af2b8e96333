use Rattle.std.proofs.Common.{◌≡◌, not, take, filter}
use Rattle.compose_lint.specs.Accepted.{is_accepted}
use Rattle.compose_lint.proofs.accepted.not_accepted.Given as goal

abbrev pub invariant-loop-row : goal.invariant-loop-row
invariant-loop-row l = l.left.items ≡ filter (λ row. not (is_accepted l.lines row)) (take l.row-index l.rows)
