use Rattle.std.proofs.Common.{◌≡◌, ◌∙◌, ◌+◌, ℕ, List, ◌∷◌, ◌++◌, [], not, ◌&&◌, length, set, take, cond, Option, None, Some, sym, ap, subst, arith}
use Rattle.std.specs.Prelude.{◌==◌}
use Rattle.std.proofs.lemmas.List.{length-set}
use Rattle.keysym_core.specs.Names as model
use Rattle.keysym_core.specs.Names.{KeysymNames}
use Rattle.compose_model.specs.Nodes.{node, edges, has_edge}
use Rattle.compose_model.specs.Table.{Definition, same, has_key, is_proper_prefix, is_sequence, text_at}
use Rattle.compose_tree.specs.Targets.{leaf_number}
use Rattle.compose_tree.proofs.Steps.{leaf_below}
use Rattle.compose_compare.specs.declared.Change.{Change}
use Rattle.compose_compare.specs.Change.{change, is_new_start}
use Rattle.compose_compare.specs.Passes.{node_of, node_in, begins_anew, new_change, IsWritten}
use Rattle.compose_compare.proofs.Children.{to_node, to_leaf, child_path, deeper}
use Rattle.compose_compare.proofs.Placed.{some_below, node_on, new_reported, anew_on, starts_on}
use Rattle.compose_compare.proofs.Written.{is_through, node_written, leaf_written, all_written}
use Rattle.compose_compare.proofs.passes.+visit_new.Goals.{in-Node, in-Leaf}
use Rattle.compose_compare.proofs.passes.+visit_new.Goals as goal

-- the change of a sequence of the new table
abbrev reported : KeysymNames → List ℕ → List Definition → List Definition → List ℕ → Option Change
reported names fresh old new s = cond (is_sequence old s) None (Some (change names fresh old new s))

pub target_from-there-requires : goal.target_from-there-requires
target_from-there-requires g t c = some_below (g.T.ComposeTable.definitions c.args.old.now) (node (g.U.ComposeTable.definitions c.args.new.now) c.args.node.0) c.args.same c.requires.same

pub visit_new-requires : goal.visit_new-requires
visit_new-requires g t c κs within =
    let names = c.args.names.now in
    let old = g.T.ComposeTable.definitions c.args.old.now in
    let new = g.U.ComposeTable.definitions c.args.new.now in
    let p = node new c.args.node.0 in
    let k = c.edge-keysym.result.0 in
    let to = to_node new p k c.edge-keysym.result.1 c.in-Node.child c.edge-keysym.ensures.target c.in-Node.is in
    let path = child_path new p k c.in-Node.child to in (
      deeper new c.args.node.0 k t c.in-Node.child c.requires.new_settled.definitions c.requires.in_range to c.decreases,
      (
        within.0,
        (
          within.1,
          (
            c.requires.old_settled,
            (
              c.requires.new_settled,
              (
                c.requires.rise,
                (
                  to.in_range,
                  (
                    c.node_at.ensures ∙ ap node_in (c.target_from-there.ensures p c.requires.same) ∙ node_on old p k ∙ ap (node_of old) path,
                    (
                      c.still_anew-begins.ensures ∙ ap (λ b. cond (c.args.node.0 == 0) (not (has_edge old [] k) && not (has_key c.args.fresh.now k)) b) c.requires.anew
                          ∙ anew_on names c.args.fresh.now old new c.args.node.0 k c.requires.in_range ∙ ap (begins_anew c.args.fresh.now old) path,
                      c.loop-index.invariant.fits,
                    ),
                  ),
                ),
              ),
            ),
          ),
        ),
      ),
    )

pub text-requires : goal.text-requires
text-requires g t c =
    let table = g.U.ComposeTable.definitions c.args.new.now in
    (to_leaf table (node table c.args.node.0) c.edge-keysym.result.0 c.edge-keysym.result.1 c.in-Leaf.leaf c.edge-keysym.ensures.target c.in-Leaf.is).in_range

pub bounds-changes-leaf : goal.bounds-changes-leaf
bounds-changes-leaf g t c =
    let table = g.U.ComposeTable.definitions c.args.new.now in
    let below = (to_leaf table (node table c.args.node.0) c.edge-keysym.result.0 c.edge-keysym.result.1 c.in-Leaf.leaf c.edge-keysym.ensures.target c.in-Leaf.is).in_range in
    let fits = c.loop-index.invariant.fits in
    omega arith

pub loop-index-preserved : goal.loop-index-preserved
loop-index-preserved g t c = elim c.match-target.branch [
  | in-Node w ↦ (
      let names = c.args.names.now in
      let fresh = c.args.fresh.now in
      let old = g.T.ComposeTable.definitions c.args.old.now in
      let new = g.U.ComposeTable.definitions c.args.new.now in
      let p = node new c.args.node.0 in
      let k = c.edge-keysym.result.0 in
      let to = to_node new p k c.edge-keysym.result.1 w.in-Node.child c.edge-keysym.ensures.target w.in-Node.is in
      record {
        fits = ap length w.changes-is ∙ w.visit_new.ensures.fits;
        written =
            subst (λ (xs : List (Option Change)). IsWritten None (reported names fresh old new) new (is_through p (take (c.loop-index.index + 1) (edges new p))) c.args.changes.now xs) (sym w.changes-is)
            (node_written None (reported names fresh old new) new c.requires.new_settled p
            (edges new p) c.loop-index.index k c.args.changes.now c.loop-index.changes w.visit_new.new.changes c.edge-keysym.ensures.keysym c.loop-index.invariant.written to.extended
            (subst (λ (q : List ℕ). IsWritten None (reported names fresh old new) new (is_proper_prefix q) c.loop-index.changes w.visit_new.new.changes)
            (sym (child_path new p k w.in-Node.child to)) w.visit_new.ensures.written));
      })
  | in-Leaf w ↦ (
      let names = c.args.names.now in
      let fresh = c.args.fresh.now in
      let old = g.T.ComposeTable.definitions c.args.old.now in
      let new = g.U.ComposeTable.definitions c.args.new.now in
      let p = node new c.args.node.0 in
      let k = c.edge-keysym.result.0 in
      let to = to_leaf new p k c.edge-keysym.result.1 w.in-Leaf.leaf c.edge-keysym.ensures.target w.in-Leaf.is in
      let text = w.text.result.now in
      let texted : text_at new (p ++ k ∷ []) ≡ Some text = sym to.text ∙ w.text.ensures.value in
      let begins : c.still_anew-begins.result ≡ begins_anew fresh old (p ++ k ∷ []) =
      c.still_anew-begins.ensures ∙ ap (λ b. cond (c.args.node.0 == 0) (not (has_edge old [] k) && not (has_key fresh k)) b) c.requires.anew
      ∙ anew_on names fresh old new c.args.node.0 k c.requires.in_range in
      let starts : w.is_start-starts.result ≡ is_new_start names fresh old new (p ++ k ∷ []) =
      w.is_start-starts.ensures ∙ ap (λ b. b && not (c.args.node.0 == 0 && same (model.text names k) text)) begins
      ∙ starts_on names fresh old new c.args.node.0 k text c.requires.in_range to.sequence texted in
      let value : w.new_change.result ≡ reported names fresh old new (p ++ k ∷ []) =
      w.new_change.ensures ∙ ap (λ o. new_change o w.is_start-starts.result) (c.target_from-there.ensures p c.requires.same)
      ∙ new_reported names fresh old new p k c.requires.old_settled w.is_start-starts.result starts in
      record {
        fits = ap length w.changes-is ∙ length-set c.loop-index.changes w.in-Leaf.leaf.0 w.new_change.result ∙ c.loop-index.invariant.fits;
        written =
            leaf_written None (reported names fresh old new) new c.requires.new_settled p
            (edges new p) c.loop-index.index k c.args.changes.now c.loop-index.changes c.match-target.changes c.edge-keysym.ensures.keysym c.loop-index.invariant.written to.sequence
            (let n = leaf_below new (p ++ k ∷ []) to.sequence in let fits = c.loop-index.invariant.fits in omega arith)
            (w.changes-is ∙ ap (λ n. set c.loop-index.changes n w.new_change.result) (sym to.number) ∙ ap (set c.loop-index.changes (leaf_number new (p ++ k ∷ []))) value);
      })
]

pub returns-clause-written : goal.returns-clause-written
returns-clause-written g t c =
    let old = g.T.ComposeTable.definitions c.args.old.now in
    let new = g.U.ComposeTable.definitions c.args.new.now in
    all_written None (reported c.args.names.now c.args.fresh.now old new) new c.requires.new_settled (node new c.args.node.0) c.loop-index.index c.args.changes.now c.loop-index.changes
    (let e = c.edge_count-index-end.ensures in omega arith) c.loop-index.invariant.written
