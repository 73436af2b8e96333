use Rattle.std.proofs.Common.{◌∙◌, ap, sym, arith}
use Rattle.compose_model.specs.Nodes.{node}
use Rattle.compose_tree.proofs.Lookups.{edges_few, scan_none, scan_found}
use Rattle.compose_tree.proofs.list_table.ListTableComposeTable.find.Goals as goal

pub returns-in_default : goal.returns-in_default
returns-in_default c =
    sym (scan_none c.args.self.now (node c.args.self.now c.args.node.0) c.args.keysym c.edges.result.now (c.edges.ensures ∙ ap (λ r. r.edges) c.row.ensures.value) c.in_default.ensures)

pub overflow_cast-result : goal.overflow_cast-result
overflow_cast-result c =
    let p = node c.args.self.now c.args.node.0 in
    let few = edges_few c.args.self.now p c.row.ensures.settled.definitions in
    let there = scan_found c.args.self.now p c.args.keysym c.in-Some.index c.edges.result.now (c.edges.ensures ∙ ap (λ r. r.edges) c.row.ensures.value) c.in-Some.ensures.0 c.in-Some.ensures.1 in
    omega (arith, few, there.0)

pub returns : goal.returns
returns c =
    scan_found c.args.self.now (node c.args.self.now c.args.node.0) c.args.keysym c.in-Some.index c.edges.result.now
    (c.edges.ensures ∙ ap (λ r. r.edges) c.row.ensures.value) c.in-Some.ensures.0 c.in-Some.ensures.1
