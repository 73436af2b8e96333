use Rattle.std.proofs.Common.{arith}
use Rattle.compose_model.specs.Nodes.{node}
use Rattle.compose_tree.proofs.PackedLookups.{edge_read, edges_counted}
use Rattle.compose_tree.proofs.lent_table.LentTableComposeTable.edge.Goals as goal

pub returns-clause-keysym : goal.returns-clause-keysym
returns-clause-keysym c =
    let x = node c.args.self.now c.args.node.0 in
    let n = edges_counted c.args.self.now x c.edges_of.result.now c.edges_of.ensures.value in
    (edge_read c.args.self.now x c.args.index c.edges_of.result.now c.index-edges_of-index.result c.unpack_target.result c.edges_of.ensures.value
    (omega (arith, n, c.requires.edge_in_range)) c.index-edges_of-index.is c.unpack_target.ensures).0

pub returns-clause-target : goal.returns-clause-target
returns-clause-target c =
    let x = node c.args.self.now c.args.node.0 in
    let n = edges_counted c.args.self.now x c.edges_of.result.now c.edges_of.ensures.value in
    (edge_read c.args.self.now x c.args.index c.edges_of.result.now c.index-edges_of-index.result c.unpack_target.result c.edges_of.ensures.value
    (omega (arith, n, c.requires.edge_in_range)) c.index-edges_of-index.is c.unpack_target.ensures).1
