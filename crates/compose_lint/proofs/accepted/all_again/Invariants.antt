use Rattle.std.proofs.Common.{◌≡◌, take}
use Rattle.compose_lint.proofs.accepted.all_again.Given as goal

abbrev pub invariant-loop-row : goal.invariant-loop-row
invariant-loop-row l = l.left.items ≡ take l.row-index l.rows
