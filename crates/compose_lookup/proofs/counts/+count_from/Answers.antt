use Rattle.std.proofs.Common.{◌∙◌, ◌+◌, take, sym, ap, arith}
use Rattle.compose_model.specs.Nodes.{node, edges, leaves}
use Rattle.compose_compare.proofs.Children.{to_node, to_leaf, child_path, deeper}
use Rattle.compose_compare.proofs.Written.{is_through}
use Rattle.compose_lookup.specs.Lookup.{count_after}
use Rattle.compose_lookup.proofs.Counted.{none_counted, node_counted, leaf_counted, all_counted, few_counted}
use Rattle.compose_lookup.proofs.counts.+count_from.Goals.{in-Node, in-Leaf}
use Rattle.compose_lookup.proofs.counts.+count_from.Goals as goal

pub count_from-count-requires : goal.count_from-count-requires
count_from-count-requires g t c κs within =
    let table = g.T.ComposeTable.definitions c.args.table.now in
    let p = node table c.args.node.0 in
    let k = c.edge-target.result.0 in
    let to = to_node table p k c.edge-target.result.1 c.in-Node.child c.edge-target.ensures.target c.in-Node.is in (
      deeper table c.args.node.0 k t c.in-Node.child c.requires.settled.definitions c.requires.in_range to c.decreases,
      (within, (c.requires.settled, (c.requires.few, to.in_range))),
    )

pub loop-index-init : goal.loop-index-init
loop-index-init g t c = let table = g.T.ComposeTable.definitions c.args.table.now in none_counted (node table c.args.node.0) (leaves table)

pub overflow_add-count : goal.overflow_add-count
overflow_add-count g t c =
    let table = g.T.ComposeTable.definitions c.args.table.now in
    let p = node table c.args.node.0 in
    let k = c.edge-target.result.0 in
    let to = to_node table p k c.edge-target.result.1 c.in-Node.child c.edge-target.ensures.target c.in-Node.is in
    let next = node_counted table c.requires.settled p c.loop-index.index k c.edge-target.ensures.keysym to.extended in
    let all = few_counted table (is_through p (take (c.loop-index.index + 1) (edges table p))) in
    let here = c.count_from-count.ensures ∙ ap (count_after table) (sym (child_path table p k c.in-Node.child to)) in
    let so_far = c.loop-index.invariant in
    let few = c.requires.few in
    omega arith

pub overflow_add-count-in-Leaf : goal.overflow_add-count-in-Leaf
overflow_add-count-in-Leaf g t c =
    let table = g.T.ComposeTable.definitions c.args.table.now in
    let p = node table c.args.node.0 in
    let k = c.edge-target.result.0 in
    let to = to_leaf table p k c.edge-target.result.1 c.in-Leaf.field-0 c.edge-target.ensures.target c.in-Leaf.is in
    let next = leaf_counted table c.requires.settled p c.loop-index.index k c.edge-target.ensures.keysym to.sequence to.extended in
    let all = few_counted table (is_through p (take (c.loop-index.index + 1) (edges table p))) in
    let so_far = c.loop-index.invariant in
    let few = c.requires.few in
    omega arith

pub loop-index-preserved : goal.loop-index-preserved
loop-index-preserved g t c = elim c.match-target.branch [
  | in-Node w ↦ (
      let table = g.T.ComposeTable.definitions c.args.table.now in
      let p = node table c.args.node.0 in
      let k = c.edge-target.result.0 in
      let to = to_node table p k c.edge-target.result.1 w.in-Node.child c.edge-target.ensures.target w.in-Node.is in
      let next = node_counted table c.requires.settled p c.loop-index.index k c.edge-target.ensures.keysym to.extended in
      let here = w.count_from-count.ensures ∙ ap (count_after table) (sym (child_path table p k w.in-Node.child to)) in
      let so_far = c.loop-index.invariant in
      let now = w.count-is in
      omega arith)
  | in-Leaf w ↦ (
      let table = g.T.ComposeTable.definitions c.args.table.now in
      let p = node table c.args.node.0 in
      let k = c.edge-target.result.0 in
      let to = to_leaf table p k c.edge-target.result.1 w.in-Leaf.field-0 c.edge-target.ensures.target w.in-Leaf.is in
      let next = leaf_counted table c.requires.settled p c.loop-index.index k c.edge-target.ensures.keysym to.sequence to.extended in
      let so_far = c.loop-index.invariant in
      let now = w.count-is in
      omega arith)
]

pub returns : goal.returns
returns g t c =
    let table = g.T.ComposeTable.definitions c.args.table.now in
    all_counted table c.requires.settled (node table c.args.node.0) c.loop-index.index c.loop-index.count
    (let e = c.edge_count-index-end.ensures in omega (arith, c.loop-index-test.false)) c.loop-index.invariant
