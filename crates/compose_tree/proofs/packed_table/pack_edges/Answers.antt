use Rattle.std.proofs.Common.{◌≡◌, ◌+◌, ◌∙◌, refl, ap, sym, set, take, drop, get_or, length, replicate, zero-add, arith, rules}
use Rattle.std.proofs.Math.Seq.{take-length, drop-length}
use Rattle.compose_tree.specs.declared.edge.NodeEdge.{NodeEdge}
use Rattle.compose_tree.specs.declared.packed.PackedNode.{PackedNode}
use Rattle.compose_tree.specs.Rows.{target_number, gathered_rows}
use Rattle.compose_tree.specs.Packed.{packed_nodes, packed_edges}
use Rattle.compose_tree.proofs.Gathering.{rows_count, counts_none}
use Rattle.compose_tree.proofs.PackedLookups.{packed_count}
use Rattle.compose_tree.proofs.Scattering.{laid_edges, laid_none, laid_all, end_offset, put_at}
use Rattle.compose_tree.proofs.packed_table.pack_edges.Goals as goal

pub bounds-nodes-depths : goal.bounds-nodes-depths
bounds-nodes-depths c =
    let rows = gathered_rows 0 c.args.depths.now c.args.edges.now in
    let n = ap length c.requires.nodes ∙ packed_count rows 0 in
    omega (arith, n, rows_count 0 c.args.depths.now c.args.edges.now)

pub loop-edge-init : goal.loop-edge-init
loop-edge-init c =
    let ds = c.args.depths.now in let es = c.args.edges.now in
    let rows = gathered_rows 0 ds es in
    let none : PackedNode = record { depth = 0; first = 0 } in
    let count : (get_or c.args.nodes.now (length ds) none).first ≡ length (packed_edges rows) =
    ap (λ ns. (get_or ns (length ds) none).first) c.requires.nodes ∙ ap (λ n. (get_or (packed_nodes 0 rows) n none).first) (sym (rows_count 0 ds es)) ∙ end_offset rows 0 none
    ∙ zero-add (length (packed_edges rows)) in
    let laid_blank : c.in_ok-packed.packed.items ≡ replicate (get_or c.args.nodes.now (length ds) none).first (record { keysym = c.default.result; target = 0 }) =
    c.in_ok-packed.ensures.items_if_clones_equal (λ y same. same) in
    let none_counted : c.in_ok-counts.counts.items ≡ replicate (length ds) 0 = search rules in
    record {
      so_far = laid_blank ∙ (λ t. replicate (count t) (record { keysym = c.default.ensures t; target = 0 })) ∙ sym (laid_none 0 ds es);
      counted = none_counted ∙ sym (counts_none 0 ds);
      as_many = refl;
    }

pub bounds-nodes-node : goal.bounds-nodes-node
bounds-nodes-node c =
    let p =
    put_at c.args.depths.now c.args.edges.now c.loop-edge.edge-index c.edge-item.result c.args.nodes.now c.loop-edge.packed.items c.loop-edge.counts.items
    c.requires.at_nodes c.loop-edge-test.true c.edge-item.is c.requires.nodes c.loop-edge.invariant.so_far c.loop-edge.invariant.counted in
    omega (arith, p.at_node)

pub overflow_add-offset : goal.overflow_add-offset
overflow_add-offset c =
    let p =
    put_at c.args.depths.now c.args.edges.now c.loop-edge.edge-index c.edge-item.result c.args.nodes.now c.loop-edge.packed.items c.loop-edge.counts.items
    c.requires.at_nodes c.loop-edge-test.true c.edge-item.is c.requires.nodes c.loop-edge.invariant.so_far c.loop-edge.invariant.counted in
    let none : PackedNode = record { depth = 0; first = 0 } in
    let offset : (get_or c.args.nodes.now c.edge-item.result.node none).first + c.index-count.result.now ≡ p.q =
    ap (λ n. (get_or c.args.nodes.now c.edge-item.result.node none).first + n) c.index-count.ensures ∙ p.next none c.index-count.result.now in
    omega (arith, p.within, offset, c.loop-edge.packed.small)

pub index_mut-requires : goal.index_mut-requires
index_mut-requires c =
    let p =
    put_at c.args.depths.now c.args.edges.now c.loop-edge.edge-index c.edge-item.result c.args.nodes.now c.loop-edge.packed.items c.loop-edge.counts.items
    c.requires.at_nodes c.loop-edge-test.true c.edge-item.is c.requires.nodes c.loop-edge.invariant.so_far c.loop-edge.invariant.counted in
    let none : PackedNode = record { depth = 0; first = 0 } in
    let offset : (get_or c.args.nodes.now c.edge-item.result.node none).first + c.index-count.result.now ≡ p.q =
    ap (λ n. (get_or c.args.nodes.now c.edge-item.result.node none).first + n) c.index-count.ensures ∙ p.next none c.index-count.result.now in
    omega (arith, p.within, offset)

pub overflow_add-count : goal.overflow_add-count
overflow_add-count c =
    let p =
    put_at c.args.depths.now c.args.edges.now c.loop-edge.edge-index c.edge-item.result c.args.nodes.now c.loop-edge.packed.items c.loop-edge.counts.items
    c.requires.at_nodes c.loop-edge-test.true c.edge-item.is c.requires.nodes c.loop-edge.invariant.so_far c.loop-edge.invariant.counted in
    let none : PackedNode = record { depth = 0; first = 0 } in
    let offset : (get_or c.args.nodes.now c.edge-item.result.node none).first + c.index-count.result.now ≡ p.q =
    ap (λ n. (get_or c.args.nodes.now c.edge-item.result.node none).first + n) c.index-count.ensures ∙ p.next none c.index-count.result.now in
    omega (arith, p.within, offset, c.loop-edge.packed.small)

pub loop-edge-preserved : goal.loop-edge-preserved
loop-edge-preserved c =
    let p =
    put_at c.args.depths.now c.args.edges.now c.loop-edge.edge-index c.edge-item.result c.args.nodes.now c.loop-edge.packed.items c.loop-edge.counts.items
    c.requires.at_nodes c.loop-edge-test.true c.edge-item.is c.requires.nodes c.loop-edge.invariant.so_far c.loop-edge.invariant.counted in
    let none : PackedNode = record { depth = 0; first = 0 } in
    let offset : (get_or c.args.nodes.now c.edge-item.result.node none).first + c.index-count.result.now ≡ p.q =
    ap (λ n. (get_or c.args.nodes.now c.edge-item.result.node none).first + n) c.index-count.ensures ∙ p.next none c.index-count.result.now in
    record {
      so_far = ap (λ q. set c.loop-edge.packed.items q c.pack_edge.result) offset ∙ ap (set c.loop-edge.packed.items p.q) c.pack_edge.ensures ∙ p.packed_is;
      counted = p.counts_are c.index-count.result.now c.index-count.ensures;
      as_many = c.note.ensures ∙ c.loop-edge.invariant.as_many;
    }

pub returns : goal.returns
returns c =
    let ds = c.args.depths.now in let es = c.args.edges.now in let k = c.loop-edge.edge-index in
    let all : k ≡ length es = omega arith in
    record {
      edges = c.loop-edge.invariant.so_far ∙ ap (λ n. laid_edges 0 ds (take n es) (drop n es)) all
          ∙ ap (λ x. laid_edges 0 ds x (drop (length es) es)) (take-length es) ∙ ap (laid_edges 0 ds es) (drop-length es) ∙ laid_all 0 ds es;
      hints = c.loop-edge.invariant.as_many;
    }

pub pack_edge-requires : goal.pack_edge-requires
pack_edge-requires c =
    let is = ap (λ (e : NodeEdge). target_number e.edge.target) c.edge-item.is in
    omega (arith, is, c.requires.numbers c.loop-edge.edge-index c.edge-item.result c.loop-edge-test.true)
