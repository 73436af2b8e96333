use Rattle.std.proofs.Common.{◌≡◌, ◌+◌, ◌∙◌, ap, get_or, length, zero-add, arith, rules}
use Rattle.std.proofs.lemmas.List.{length-map, get_or_default}
use Rattle.compose_tree.specs.Rows.{NodeRow, gathered_rows, edges_at}
use Rattle.compose_tree.specs.Packed.{packed_nodes}
use Rattle.compose_tree.proofs.Gathering.{rows_count, count_at}
use Rattle.compose_tree.proofs.Scattering.{nodes_step}
use Rattle.compose_tree.proofs.Counts.{node_and_later, all_from}
use Rattle.compose_tree.proofs.packed_table.pack_nodes.Goals as goal

pub index-requires : goal.index-requires
index-requires c =
    let rows = gathered_rows 0 c.args.depths.now c.args.edges.now in
    let n = ap length c.in_ok-counts.ensures ∙ length-map rows (λ (row : NodeRow). length row.edges) ∙ rows_count 0 c.args.depths.now c.args.edges.now in
    omega (arith, n)

pub loop-index-init : goal.loop-index-init
loop-index-init c = record {
  nodes = search rules;
  left = (let all = all_from c.args.edges.now in omega (arith, all));
}

pub overflow_add-offset : goal.overflow_add-offset
overflow_add-offset c =
    let ds = c.args.depths.now in let es = c.args.edges.now in let k = c.loop-index.index in
    let count : c.index.result.now ≡ length (edges_at (0 + k) es) =
    c.index.ensures ∙ ap (λ counts. get_or counts k c.index.result.now) c.in_ok-counts.ensures ∙ count_at 0 k c.index.result.now ds es c.loop-index-test.true in
    let same = ap (λ i. length (edges_at i es)) (zero-add k) in
    let left = node_and_later k es in
    omega (arith, count, same, left, c.loop-index.invariant.left, c.requires.few)

pub loop-index-preserved : goal.loop-index-preserved
loop-index-preserved c =
    let ds = c.args.depths.now in let es = c.args.edges.now in let k = c.loop-index.index in
    let count : c.index.result.now ≡ length (edges_at (0 + k) es) =
    c.index.ensures ∙ ap (λ counts. get_or counts k c.index.result.now) c.in_ok-counts.ensures ∙ count_at 0 k c.index.result.now ds es c.loop-index-test.true in
    let next : c.loop-index.offset + c.index.result.now ≡ c.loop-index.offset + length (edges_at k es) =
    ap (λ n. c.loop-index.offset + n) count ∙ ap (λ i. c.loop-index.offset + length (edges_at i es)) (zero-add k) in
    record {
      nodes =
          nodes_step ds es k c.loop-index.offset (c.loop-index.offset + c.index.result.now) (get_or ds k 0)
          (packed_nodes 0 (gathered_rows 0 ds es)) c.loop-index.nodes.items c.push.new.self.items c.loop-index-test.true
          (get_or_default ds k 0 (get_or ds k 0) c.loop-index-test.true) next c.in_ok-push.ensures.items c.loop-index.invariant.nodes;
      left = (let left = node_and_later k es in omega (arith, next, left, c.loop-index.invariant.left));
    }
