use Rattle.std.proofs.Common.{◌≡◌, [], map, drop}
use Rattle.compose_model.specs.Nodes.{edges}
use Rattle.compose_fresh.specs.Conditions.{first_unmet}
use Rattle.compose_check.specs.Conditions.{start_condition, start_conditions}
use Rattle.compose_check.proofs.starts.check_starts.Given as goal

-- the conditions on the remaining keysyms have the same first fault as those on all of them
abbrev pub invariant-loop-index : goal.invariant-loop-index
invariant-loop-index g l =
    first_unmet (map (start_condition l.names l.fresh (g.T.ComposeTable.definitions l.old) (g.U.ComposeTable.definitions l.new)) (drop l.index (edges (g.U.ComposeTable.definitions l.new) [])))
    ≡ first_unmet (start_conditions l.names l.fresh (g.T.ComposeTable.definitions l.old) (g.U.ComposeTable.definitions l.new))
