use Rattle.std.proofs.Common.{◌≡◌, take}
use Rattle.compose_diff.specs.Lost.{lost_rows}
use Rattle.compose_diff.proofs.lost.lost_rows.Given as goal

abbrev pub invariant-loop-row : goal.invariant-loop-row
invariant-loop-row l = l.lost.items ≡ lost_rows (take l.row-index l.rows)
