use Rattle.std.proofs.Common.{◌≡◌, ◌+◌, ◌<◌, ◌∙◌, ap, sym, set, get_or, take, length, length-take, replicate, arith, rules}
use Rattle.compose_tree.specs.Rows.{counts_of, gathered_rows}
use Rattle.compose_tree.proofs.Gathering.{rows_count, node_there, next_gathered, counts_none, count_at, one_counted}
use Rattle.compose_tree.proofs.Counts.{node_and_later, few_from}
use Rattle.compose_tree.proofs.packed_table.count_edges.Goals as goal

pub loop-edge-init : goal.loop-edge-init
loop-edge-init c =
    let none : c.in_ok-counts.counts.items ≡ replicate (length c.args.depths.now) 0 = search rules in
    none ∙ sym (counts_none 0 c.args.depths.now)

pub overflow_add-index_mut : goal.overflow_add-index_mut
overflow_add-index_mut c =
    let ds = c.args.depths.now in let es = c.args.edges.now in let k = c.loop-edge.edge-index in
    let e = c.edge-item.result in let counted = take k es in
    let there = node_there ds es k e c.requires.at_nodes c.loop-edge-test.true c.edge-item.is in
    let count = c.index_mut.ensures.value ∙ ap (λ counts. get_or counts e.node c.index_mut.result.now) c.loop-edge.invariant ∙ count_at 0 e.node c.index_mut.result.now ds counted there in
    let own = node_and_later (0 + e.node) counted in let few = few_from (0 + e.node) counted in
    let prefix = length-take k es in
    omega (arith, count, own, few, prefix, c.requires.few, c.loop-edge-test.true)

pub loop-edge-preserved : goal.loop-edge-preserved
loop-edge-preserved c =
    let ds = c.args.depths.now in let es = c.args.edges.now in let k = c.loop-edge.edge-index in
    let e = c.edge-item.result in
    let rows = gathered_rows 0 ds (take k es) in
    let there : e.node < length rows = let n = rows_count 0 ds (take k es) in omega (arith, n, node_there ds es k e c.requires.at_nodes c.loop-edge-test.true c.edge-item.is) in
    ap (λ counts. set counts e.node (c.index_mut.result.now + 1)) c.loop-edge.invariant
    ∙ sym (one_counted rows e.node c.index_mut.result.now e.edge there (c.index_mut.ensures.value ∙ ap (λ counts. get_or counts e.node c.index_mut.result.now) c.loop-edge.invariant))
    ∙ ap counts_of (sym (next_gathered ds es k e c.requires.at_nodes c.loop-edge-test.true c.edge-item.is))
