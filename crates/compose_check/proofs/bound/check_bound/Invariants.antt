use Rattle.std.proofs.Common.{◌≡◌, drop}
use Rattle.compose_model.specs.Nodes.{nodes}
use Rattle.compose_fresh.specs.Conditions.{first_unmet}
use Rattle.compose_check.specs.Conditions.{bound_conditions, bound_conditions_from}
use Rattle.compose_check.proofs.bound.check_bound.Given as goal

-- the conditions on the remaining nodes have the same first fault as those on all of them
abbrev pub invariant-loop-number : goal.invariant-loop-number
invariant-loop-number g l =
    first_unmet (bound_conditions_from l.bound l.number (drop l.number (nodes (g.U.ComposeTable.definitions l.new)))) ≡ first_unmet (bound_conditions (g.U.ComposeTable.definitions l.new) l.bound)
