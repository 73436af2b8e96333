use Rattle.std.proofs.Common.{◌≡◌, ◌∙◌, ◌++◌, ◌∷◌, [], ◌+◌, List, ℕ, length, set, take, sym, ap, subst, arith, length-append}
use Rattle.std.proofs.lemmas.List.{length-set}
use Rattle.compose_model.specs.Nodes.{node, edges}
use Rattle.compose_model.specs.Table.{is_proper_prefix}
use Rattle.compose_tree.specs.Targets.{leaf_number}
use Rattle.compose_tree.proofs.Steps.{leaf_below}
use Rattle.compose_compare.specs.Passes.{IsWritten}
use Rattle.compose_compare.proofs.Children.{to_node, to_leaf, child_path, deeper}
use Rattle.compose_compare.proofs.Written.{is_through, node_written, leaf_written, all_written}
use Rattle.compose_lookup.proofs.lengths.+write_lengths.Goals.{in-Node, in-Leaf}
use Rattle.compose_lookup.proofs.lengths.+write_lengths.Goals as goal

pub write_lengths-requires : goal.write_lengths-requires
write_lengths-requires g t c κs within =
    let table = g.T.ComposeTable.definitions c.args.table.now in
    let p = node table c.args.node.0 in
    let k = c.edge-target.result.0 in
    let to = to_node table p k c.edge-target.result.1 c.in-Node.child c.edge-target.ensures.target c.in-Node.is in (
      deeper table c.args.node.0 k t c.in-Node.child c.requires.settled.definitions c.requires.in_range to c.decreases,
      (within, (c.requires.settled, (to.in_range, c.loop-index.invariant.fits))),
    )

pub bounds-lengths-leaf : goal.bounds-lengths-leaf
bounds-lengths-leaf g t c =
    let table = g.T.ComposeTable.definitions c.args.table.now in
    let below = (to_leaf table (node table c.args.node.0) c.edge-target.result.0 c.edge-target.result.1 c.in-Leaf.leaf c.edge-target.ensures.target c.in-Leaf.is).in_range in
    let fits = c.loop-index.invariant.fits in
    omega arith

pub loop-index-preserved : goal.loop-index-preserved
loop-index-preserved g t c = elim c.match-target.branch [
  | in-Node w ↦ (
      let table = g.T.ComposeTable.definitions c.args.table.now in
      let p = node table c.args.node.0 in
      let k = c.edge-target.result.0 in
      let to = to_node table p k c.edge-target.result.1 w.in-Node.child c.edge-target.ensures.target w.in-Node.is in
      record {
        fits = ap length w.lengths-is ∙ w.write_lengths.ensures.fits;
        written =
            subst (λ (xs : List ℕ). IsWritten 0 length table (is_through p (take (c.loop-index.index + 1) (edges table p))) c.args.lengths.now xs) (sym w.lengths-is)
            (node_written 0 length table c.requires.settled p
            (edges table p) c.loop-index.index k c.args.lengths.now c.loop-index.lengths w.write_lengths.new.lengths c.edge-target.ensures.keysym c.loop-index.invariant.written to.extended
            (subst (λ (q : List ℕ). IsWritten 0 length table (is_proper_prefix q) c.loop-index.lengths w.write_lengths.new.lengths)
            (sym (child_path table p k w.in-Node.child to)) w.write_lengths.ensures.written));
      })
  | in-Leaf w ↦ (
      let table = g.T.ComposeTable.definitions c.args.table.now in
      let p = node table c.args.node.0 in
      let k = c.edge-target.result.0 in
      let to = to_leaf table p k c.edge-target.result.1 w.in-Leaf.leaf c.edge-target.ensures.target w.in-Leaf.is in
      let value : c.depth-keys.result + 1 ≡ length (p ++ k ∷ []) = ap (λ n. n + 1) c.depth-keys.ensures.value ∙ sym (length-append p (k ∷ [])) in
      record {
        fits = ap length w.lengths-is ∙ length-set c.loop-index.lengths w.in-Leaf.leaf.0 (c.depth-keys.result + 1) ∙ c.loop-index.invariant.fits;
        written =
            leaf_written 0 length table c.requires.settled p
            (edges table p) c.loop-index.index k c.args.lengths.now c.loop-index.lengths c.match-target.lengths c.edge-target.ensures.keysym c.loop-index.invariant.written to.sequence
            (let n = leaf_below table (p ++ k ∷ []) to.sequence in let fits = c.loop-index.invariant.fits in omega arith)
            (w.lengths-is ∙ ap (λ n. set c.loop-index.lengths n (c.depth-keys.result + 1)) (sym to.number) ∙ ap (set c.loop-index.lengths (leaf_number table (p ++ k ∷ []))) value);
      })
]

pub returns-clause-written : goal.returns-clause-written
returns-clause-written g t c =
    let table = g.T.ComposeTable.definitions c.args.table.now in
    all_written 0 length table c.requires.settled (node table c.args.node.0) c.loop-index.index c.args.lengths.now c.loop-index.lengths
    (let e = c.edge_count-index-end.ensures in omega arith) c.loop-index.invariant.written
