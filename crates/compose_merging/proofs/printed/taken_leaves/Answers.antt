use Rattle.std.proofs.Common.{◌≡◌, ◌∙◌, Bool, sym, ap}
use Rattle.compose_tree.specs.declared.table.LeafId.{LeafId}
use Rattle.compose_lookup.specs.TextIndex.{leaf_id}
use Rattle.compose_lookup.proofs.Asked.{taken, passed}
use Rattle.compose_merging.specs.Treatments.{is_taken_leaf}
use Rattle.compose_merging.proofs.printed.taken_leaves.Goals.{then-takes+in_ok-push, else-takes}
use Rattle.compose_merging.proofs.printed.taken_leaves.Goals as goal

pub loop-number-preserved : goal.loop-number-preserved
loop-number-preserved c =
    let takes : LeafId → Bool = is_taken_leaf c.args.treatments.now in let i = c.loop-number.number in let sofar = c.loop-number.leaves.items in
    let is : c.takes.result ≡ takes (leaf_id i) = c.takes.ensures in
    elim c.if-takes.branch [
      | then-takes+in_ok-push w ↦ ap (λ v. v.items) w.leaves-is ∙ w.in_ok-push.ensures.items ∙ taken takes i sofar c.loop-number.invariant (sym is ∙ w.if-takes.true)
      | else-takes w ↦ ap (λ v. v.items) w.leaves-is ∙ passed takes i sofar c.loop-number.invariant (sym is ∙ w.if-takes.false)
    ]
