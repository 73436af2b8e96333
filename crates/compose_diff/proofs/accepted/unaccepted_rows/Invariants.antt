use Rattle.std.proofs.Common.{◌≡◌, not, filter, take}
use Rattle.compose_diff.specs.Accepted.{is_accepted}
use Rattle.compose_diff.proofs.accepted.unaccepted_rows.Given as goal

abbrev pub invariant-loop-row : goal.invariant-loop-row
invariant-loop-row l = l.left.items ≡ filter (λ row. not (is_accepted l.lines row)) (take l.row-index l.rows)
