use Rattle.std.proofs.Common.{arith}
use Rattle.compose_model.specs.Nodes.{node}
use Rattle.compose_tree.proofs.Lookups.{edges_few}
use Rattle.compose_tree.proofs.PackedLookups.{edges_counted}
use Rattle.compose_tree.proofs.lent_table.LentTableComposeTable.edge_count.Goals as goal

pub overflow_cast-result : goal.overflow_cast-result
overflow_cast-result c =
    let x = node c.args.self.now c.args.node.0 in
    let n = edges_counted c.args.self.now x c.edges_of.result.now c.edges_of.ensures.value in
    let few = edges_few c.args.self.now x c.edges_of.ensures.settled.definitions in
    omega (arith, n, few)
