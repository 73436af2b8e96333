use Rattle.std.proofs.Common.{◌≡◌, drop}
use Rattle.std.specs.Prelude.{flat_map}
use Rattle.compose_model.specs.Nodes.{node, edges}
use Rattle.compose_fresh.specs.Conditions.{first_unmet}
use Rattle.compose_check.specs.Conditions.{one_edge_conditions}
use Rattle.compose_check.proofs.edges.check_pair.Given as goal

-- the conditions at the remaining edges have the same first fault as those at all of them
abbrev pub invariant-loop-edge : goal.invariant-loop-edge
invariant-loop-edge g l =
    let old = g.T.ComposeTable.definitions l.old in
    let new = g.U.ComposeTable.definitions l.new in
    let at = one_edge_conditions l.names old new l.certificate.pairs l.pair.index (node old l.pair.old.0) (node new l.pair.new.0) in
    let es = edges old (node old l.pair.old.0) in
    first_unmet (flat_map at (drop l.edge es)) ≡ first_unmet (flat_map at es)
