use Rattle.std.proofs.Common.{◌≡◌, ◌++◌, drop, map}
use Rattle.compose_make.specs.Wanted.{typing_of, first_missing}
use Rattle.compose_make.proofs.typings.typings_of.Given as goal

abbrev pub invariant-loop-row : goal.invariant-loop-row
invariant-loop-row l = record {
  missing : first_missing (drop l.row-index l.rows) ≡ first_missing l.rows;
  typings : l.typings.items ++ map typing_of (drop l.row-index l.rows) ≡ map typing_of l.rows;
}
