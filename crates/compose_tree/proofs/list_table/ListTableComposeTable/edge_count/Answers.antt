use Rattle.std.proofs.Common.{◌∙◌, ap, length, arith}
use Rattle.std.proofs.lemmas.List.{length-map}
use Rattle.compose_model.specs.Nodes.{node, edges}
use Rattle.compose_tree.specs.Rows.{edge_of}
use Rattle.compose_tree.proofs.Lookups.{edges_few}
use Rattle.compose_tree.proofs.list_table.ListTableComposeTable.edge_count.Goals as goal

pub overflow_cast-result : goal.overflow_cast-result
overflow_cast-result c =
    let p = node c.args.self.now c.args.node.0 in
    let e = ap length c.edges.ensures ∙ ap (λ r. length r.edges) c.row.ensures.value ∙ length-map (edges c.args.self.now p) (edge_of c.args.self.now p) in
    let few = edges_few c.args.self.now p c.row.ensures.settled.definitions in
    omega arith

pub returns : goal.returns
returns c =
    let p = node c.args.self.now c.args.node.0 in
    ap length c.edges.ensures ∙ ap (λ r. length r.edges) c.row.ensures.value ∙ length-map (edges c.args.self.now p) (edge_of c.args.self.now p)
