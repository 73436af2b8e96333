use Rattle.std.proofs.Common.{◌∙◌, ap, length, arith}
use Rattle.std.proofs.lemmas.List.{length-map}
use Rattle.compose_model.specs.Nodes.{nodes}
use Rattle.compose_tree.specs.Rows.{rows_of, row_of}
use Rattle.compose_tree.proofs.Lookups.{some_node}
use Rattle.compose_tree.proofs.list_table.ListTableComposeTable.node_count.Goals as goal

pub returns-clause-some : goal.returns-clause-some
returns-clause-some c =
    let n = ap length (c.self.invariant.1 ∙ ap rows_of c.self.view_is) ∙ length-map (nodes c.args.self.now) (row_of c.args.self.now) in
    let s = some_node c.args.self.now in
    omega arith
