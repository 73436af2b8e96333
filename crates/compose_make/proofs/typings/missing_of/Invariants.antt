use Rattle.std.proofs.Common.{◌≡◌, ◌++◌, drop}
use Rattle.compose_make.specs.Wanted.{all_missing}
use Rattle.compose_make.proofs.typings.missing_of.Given as goal

abbrev pub invariant-loop-row : goal.invariant-loop-row
invariant-loop-row l = l.missing.items ++ all_missing (drop l.row-index l.rows) ≡ all_missing l.rows
