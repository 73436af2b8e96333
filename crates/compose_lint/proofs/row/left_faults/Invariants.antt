use Rattle.std.proofs.Common.{◌≡◌}
use Rattle.std.specs.Prelude.{filter}
use Rattle.compose_lint.specs.Rows.{is_of_include}
use Rattle.compose_lint.proofs.row.left_faults.Given as goal

-- the faults of includes so far
abbrev pub invariant-loop-fault : goal.invariant-loop-fault
invariant-loop-fault l = l.left.items ≡ filter is_of_include l.yielded
