use Rattle.std.proofs.Common.{arith}
use Rattle.compose_tree.proofs.Lookups.{some_node, leaves_count}
use Rattle.compose_tree.proofs.PackedLookups.{packed_as, nodes_count}
use Rattle.compose_tree.proofs.lent_table.LentTableComposeTable.node_count.Goals as goal

pub overflow_sub-result : goal.overflow_sub-result
overflow_sub-result c =
    let p = packed_as c.self.inside.nodes.now c.self.inside.edges.now c.self.inside.texts.now c.self.inside.long_texts.now c.args.self.now c.self.invariant c.self.view_is in
    let n = nodes_count c.self.inside.nodes.now c.self.inside.edges.now c.self.inside.texts.now c.self.inside.long_texts.now c.args.self.now p in
    let some = some_node c.args.self.now in
    let m = leaves_count c.args.self.now p.settled in
    omega (arith, n, some, m, p.few_nodes, p.few_leaves)

pub overflow_cast-result : goal.overflow_cast-result
overflow_cast-result c =
    let p = packed_as c.self.inside.nodes.now c.self.inside.edges.now c.self.inside.texts.now c.self.inside.long_texts.now c.args.self.now c.self.invariant c.self.view_is in
    let n = nodes_count c.self.inside.nodes.now c.self.inside.edges.now c.self.inside.texts.now c.self.inside.long_texts.now c.args.self.now p in
    let some = some_node c.args.self.now in
    let m = leaves_count c.args.self.now p.settled in
    omega (arith, n, some, m, p.few_nodes, p.few_leaves)

pub returns-clause-count : goal.returns-clause-count
returns-clause-count c =
    let p = packed_as c.self.inside.nodes.now c.self.inside.edges.now c.self.inside.texts.now c.self.inside.long_texts.now c.args.self.now c.self.invariant c.self.view_is in
    let n = nodes_count c.self.inside.nodes.now c.self.inside.edges.now c.self.inside.texts.now c.self.inside.long_texts.now c.args.self.now p in
    let some = some_node c.args.self.now in
    let m = leaves_count c.args.self.now p.settled in
    omega (arith, n, some, m, p.few_nodes, p.few_leaves)

pub returns-clause-some : goal.returns-clause-some
returns-clause-some c =
    let p = packed_as c.self.inside.nodes.now c.self.inside.edges.now c.self.inside.texts.now c.self.inside.long_texts.now c.args.self.now c.self.invariant c.self.view_is in
    let n = nodes_count c.self.inside.nodes.now c.self.inside.edges.now c.self.inside.texts.now c.self.inside.long_texts.now c.args.self.now p in
    let some = some_node c.args.self.now in
    let m = leaves_count c.args.self.now p.settled in
    omega (arith, n, some, m, p.few_nodes, p.few_leaves)

pub returns-clause-few : goal.returns-clause-few
returns-clause-few c =
    let p = packed_as c.self.inside.nodes.now c.self.inside.edges.now c.self.inside.texts.now c.self.inside.long_texts.now c.args.self.now c.self.invariant c.self.view_is in
    let n = nodes_count c.self.inside.nodes.now c.self.inside.edges.now c.self.inside.texts.now c.self.inside.long_texts.now c.args.self.now p in
    let some = some_node c.args.self.now in
    let m = leaves_count c.args.self.now p.settled in
    omega (arith, n, some, m, p.few_nodes, p.few_leaves)
