use Rattle.std.proofs.Common.{◌≡◌, ◌∙◌, ◌+◌, ℕ, List, ◌∷◌, ◌++◌, [], length, set, take, sym, ap, subst, arith}
use Rattle.std.specs.Prelude.{is_some}
use Rattle.std.proofs.lemmas.List.{length-set}
use Rattle.compose_model.specs.Nodes.{node, edges}
use Rattle.compose_model.specs.Table.{is_proper_prefix}
use Rattle.compose_tree.specs.Targets.{leaf_number}
use Rattle.compose_tree.proofs.Steps.{leaf_below}
use Rattle.compose_compare.specs.declared.Change.{Change}
use Rattle.compose_compare.specs.declared.Change.TheVariants.{Removed}
use Rattle.compose_compare.specs.Change.{change}
use Rattle.compose_compare.specs.Passes.{node_of, node_in, position_node, old_change, IsWritten}
use Rattle.compose_compare.proofs.Children.{to_node, to_leaf, child_path, deeper}
use Rattle.compose_compare.proofs.Placed.{some_below, node_on, old_reported}
use Rattle.compose_compare.proofs.Written.{is_through, node_written, leaf_written, all_written}
use Rattle.compose_compare.proofs.passes.+visit_old.Goals.{in-Node, in-Leaf}
use Rattle.compose_compare.proofs.passes.+visit_old.Goals as goal

pub target_from-there-requires : goal.target_from-there-requires
target_from-there-requires g t c = some_below (g.U.ComposeTable.definitions c.args.new.now) (node (g.T.ComposeTable.definitions c.args.old.now) c.args.node.0) c.args.same c.requires.same

pub visit_old-requires : goal.visit_old-requires
visit_old-requires g t c κs within =
    let names = c.args.names.now in
    let old = g.T.ComposeTable.definitions c.args.old.now in
    let new = g.U.ComposeTable.definitions c.args.new.now in
    let p = node old c.args.node.0 in
    let k = c.edge-keysym.result.0 in
    let to = to_node old p k c.edge-keysym.result.1 c.in-Node.child c.edge-keysym.ensures.target c.in-Node.is in
    let path = child_path old p k c.in-Node.child to in (
      deeper old c.args.node.0 k t c.in-Node.child c.requires.old_settled.definitions c.requires.in_range to c.decreases,
      (
        within.0,
        (
          within.1,
          (
            c.requires.old_settled,
            (
              c.requires.new_settled,
              (
                to.in_range,
                (
                  c.node_after-after.ensures ∙ ap (position_node names old new) path,
                  (
                    c.node_at.ensures ∙ ap node_in (c.target_from-there.ensures p c.requires.same) ∙ node_on new p k ∙ ap (node_of new) path,
                    c.loop-index.invariant.fits,
                  ),
                ),
              ),
            ),
          ),
        ),
      ),
    )

pub bounds-changes-leaf : goal.bounds-changes-leaf
bounds-changes-leaf g t c =
    let table = g.T.ComposeTable.definitions c.args.old.now in
    let below = (to_leaf table (node table c.args.node.0) c.edge-keysym.result.0 c.edge-keysym.result.1 c.in-Leaf.leaf c.edge-keysym.ensures.target c.in-Leaf.is).in_range in
    let fits = c.loop-index.invariant.fits in
    omega arith

pub loop-index-preserved : goal.loop-index-preserved
loop-index-preserved g t c = elim c.match-target.branch [
  | in-Node w ↦ (
      let names = c.args.names.now in
      let old = g.T.ComposeTable.definitions c.args.old.now in
      let new = g.U.ComposeTable.definitions c.args.new.now in
      let p = node old c.args.node.0 in
      let k = c.edge-keysym.result.0 in
      let to = to_node old p k c.edge-keysym.result.1 w.in-Node.child c.edge-keysym.ensures.target w.in-Node.is in
      record {
        fits = ap length w.changes-is ∙ w.visit_old.ensures.fits;
        written =
            λ fresh. subst (λ (xs : List Change). IsWritten Removed (change names fresh old new) old (is_through p (take (c.loop-index.index + 1) (edges old p))) c.args.changes.now xs)
            (sym w.changes-is)
            (node_written Removed (change names fresh old new) old c.requires.old_settled p
            (edges old p) c.loop-index.index k c.args.changes.now c.loop-index.changes w.visit_old.new.changes c.edge-keysym.ensures.keysym (c.loop-index.invariant.written fresh) to.extended
            (subst (λ (q : List ℕ). IsWritten Removed (change names fresh old new) old (is_proper_prefix q) c.loop-index.changes w.visit_old.new.changes) (sym (child_path old p k w.in-Node.child to))
            (w.visit_old.ensures.written fresh)));
      })
  | in-Leaf w ↦ (
      let names = c.args.names.now in
      let old = g.T.ComposeTable.definitions c.args.old.now in
      let new = g.U.ComposeTable.definitions c.args.new.now in
      let p = node old c.args.node.0 in
      let k = c.edge-keysym.result.0 in
      let to = to_leaf old p k c.edge-keysym.result.1 w.in-Leaf.leaf c.edge-keysym.ensures.target w.in-Leaf.is in
      let value : (fresh : List ℕ) → w.old_change.result ≡ change names fresh old new (p ++ k ∷ []) = (λ fresh.
      w.old_change.ensures ∙ ap (old_change w.is_some.result) (c.target_from-there.ensures p c.requires.same)
      ∙ old_reported names fresh old new p k c.requires.new_settled to.sequence w.is_some.result (w.is_some.ensures ∙ ap is_some c.node_after-after.ensures)) in
      record {
        fits = ap length w.changes-is ∙ length-set c.loop-index.changes w.in-Leaf.leaf.0 w.old_change.result ∙ c.loop-index.invariant.fits;
        written =
            λ fresh. leaf_written Removed (change names fresh old new) old c.requires.old_settled p
            (edges old p) c.loop-index.index k c.args.changes.now c.loop-index.changes c.match-target.changes c.edge-keysym.ensures.keysym (c.loop-index.invariant.written fresh) to.sequence
            (let n = leaf_below old (p ++ k ∷ []) to.sequence in let fits = c.loop-index.invariant.fits in omega arith)
            (w.changes-is ∙ ap (λ n. set c.loop-index.changes n w.old_change.result) (sym to.number) ∙ ap (set c.loop-index.changes (leaf_number old (p ++ k ∷ []))) (value fresh));
      })
]

pub returns-clause-written : goal.returns-clause-written
returns-clause-written g t c = λ fresh.
    (let old = g.T.ComposeTable.definitions c.args.old.now in
    let new = g.U.ComposeTable.definitions c.args.new.now in
    all_written Removed (change c.args.names.now fresh old new) old c.requires.old_settled (node old c.args.node.0) c.loop-index.index c.args.changes.now c.loop-index.changes
    (let e = c.edge_count-index-end.ensures in omega arith) (c.loop-index.invariant.written fresh))
