use Rattle.std.proofs.Common.{◌≡◌, drop}
use Rattle.compose_fresh.specs.Conditions.{first_unmet}
use Rattle.compose_check.specs.Conditions.{edge_conditions, edge_conditions_from}
use Rattle.compose_check.proofs.edges.check_edges.Given as goal

-- the conditions on the remaining pairs have the same first fault as those on all of them
abbrev pub invariant-loop-index : goal.invariant-loop-index
invariant-loop-index g l =
    first_unmet (edge_conditions_from l.names (g.T.ComposeTable.definitions l.old) (g.U.ComposeTable.definitions l.new) l.certificate.pairs l.index (drop l.index l.certificate.pairs))
    ≡ first_unmet (edge_conditions l.names (g.T.ComposeTable.definitions l.old) (g.U.ComposeTable.definitions l.new) l.certificate.pairs)
