use Rattle.std.proofs.Common.{◌≡◌, ◌∙◌, true, false, rules, sym}
use Rattle.std.specs.Prelude.{option_copied}
use Rattle.std.proofs.lemmas.List.{get_or_default}
use Rattle.compose_tree.specs.declared.table.LeafId.{LeafId}
use Rattle.compose_lookup.specs.TextIndex.{sequence_at}
use Rattle.compose_listing.specs.Chosen.{is_typable}
use Rattle.compose_listing.proofs.Lines.{listed_yes, listed_no}
use Rattle.compose_listing.proofs.chosen.typable_leaves.Goals.{then-is_leaf_typable+in_ok-push, else-is_leaf_typable}
use Rattle.compose_listing.proofs.chosen.typable_leaves.Goals as goal

pub loop-leaf-preserved : goal.loop-leaf-preserved
loop-leaf-preserved g c = elim c.if-is_leaf_typable.branch [
  | then-is_leaf_typable+in_ok-push w ↦ (
      let table = g.T.ComposeTable.definitions c.args.listed.now.table.now in
      listed_yes (λ leaf. is_typable (option_copied c.args.repertoire) (sequence_at table leaf)) c.args.leaves.now c.loop-leaf.leaf-index _ c.loop-leaf.typable.items _ c.loop-leaf-test.true
      (get_or_default c.args.leaves.now c.loop-leaf.leaf-index _ _ c.loop-leaf-test.true) c.loop-leaf.invariant (sym c.is_leaf_typable.ensures ∙ w.if-is_leaf_typable.true) (search rules))
  | else-is_leaf_typable w ↦ (
      let table = g.T.ComposeTable.definitions c.args.listed.now.table.now in
      listed_no (λ leaf. is_typable (option_copied c.args.repertoire) (sequence_at table leaf)) c.args.leaves.now c.loop-leaf.leaf-index _ c.loop-leaf.typable.items _ c.loop-leaf-test.true
      (get_or_default c.args.leaves.now c.loop-leaf.leaf-index _ _ c.loop-leaf-test.true) c.loop-leaf.invariant (sym c.is_leaf_typable.ensures ∙ w.if-is_leaf_typable.false) (search rules))
]
