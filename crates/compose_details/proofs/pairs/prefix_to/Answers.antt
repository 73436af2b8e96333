use Rattle.std.proofs.Common.{◌∙◌, ◌<◌, length, sym, ap, arith}
use Rattle.std.specs.Prelude.{Some}
use Rattle.compose_model.specs.Nodes.{nodes}
use Rattle.compose_model.proofs.NodeLemmas.{node_zero}
use Rattle.compose_tree.proofs.Lookups.{some_node}
use Rattle.compose_places.proofs.Walks.{leads_to_node}
use Rattle.compose_details.proofs.pairs.prefix_to.Goals as goal

pub loop-index-init : goal.loop-index-init
loop-index-init g c =
    let table = g.T.ComposeTable.definitions c.args.table.now in let some : 0 < length (nodes table) = omega (arith, some_node table) in record { within = some; walked = node_zero table }

pub loop-index-preserved : goal.loop-index-preserved
loop-index-preserved g c =
    let led =
    leads_to_node (g.T.ComposeTable.definitions c.args.table.now) c.requires c.args.sequence.now c.loop-index.index c.index-sequence-index.result c.loop-index.node.0
    (omega (arith, c.loop-index-test.true)) (sym c.index-sequence-index.is)
    c.loop-index.invariant.walked c.in-Node.next (ap Some (sym c.in-Node.is) ∙ c.in_ok-next.ensures) in
    record { within = led.0; walked = led.1 }
