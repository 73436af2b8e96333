use Rattle.std.proofs.Common.{◌∙◌, ap, sym, take, length, arith}
use Rattle.compose_tree.specs.Rows.{with_edge}
use Rattle.compose_tree.proofs.Gathering.{rows_count, node_there, next_gathered}
use Rattle.compose_tree.proofs.list_table.list_rows.Goals as goal

pub push_edge-requires : goal.push_edge-requires
push_edge-requires c =
    let ds = c.args.depths.now in let es = c.args.edges.now in let k = c.loop-node_edge.node_edge-index in
    let n = rows_count 0 ds (take k es) in
    omega (arith, n, ap length c.loop-node_edge.invariant, node_there ds es k c.node_edge-item.result c.requires c.loop-node_edge-test.true c.node_edge-item.is)

pub loop-node_edge-preserved : goal.loop-node_edge-preserved
loop-node_edge-preserved c =
    let e = c.node_edge-item.result in
    c.in_ok-push_edge.ensures ∙ ap (λ rows. with_edge rows e.node e.edge) c.loop-node_edge.invariant
    ∙ sym (next_gathered c.args.depths.now c.args.edges.now c.loop-node_edge.node_edge-index e c.requires c.loop-node_edge-test.true c.node_edge-item.is)
