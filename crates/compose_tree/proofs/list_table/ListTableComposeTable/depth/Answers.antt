use Rattle.std.proofs.Common.{◌∙◌, ap, arith}
use Rattle.compose_model.specs.Nodes.{node}
use Rattle.compose_tree.proofs.Lookups.{node_few, node_listed}
use Rattle.compose_tree.proofs.list_table.ListTableComposeTable.depth.Goals as goal

pub returns-clause-few : goal.returns-clause-few
returns-clause-few c =
    let few = node_few c.args.self.now (node c.args.self.now c.args.node.0) c.row.ensures.settled.definitions (node_listed c.args.self.now c.args.node.0 c.requires) in
    let e = c.depth.ensures ∙ ap (λ r. r.depth) c.row.ensures.value in
    omega arith
