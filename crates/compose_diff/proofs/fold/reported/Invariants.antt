use Rattle.std.proofs.Common.{◌≡◌, take}
use Rattle.compose_diff.specs.Folds.{reported}
use Rattle.compose_diff.proofs.fold.reported.Given as goal

abbrev pub invariant-loop-row : goal.invariant-loop-row
invariant-loop-row l = l.reported.items ≡ reported (take l.row-index l.rows)
