use Rattle.std.proofs.Common.{◌∙◌, ◌+◌, ◌<◌, ℕ, List, Bool, [], get_or, sym, ap, subst, arith}
use Rattle.std.specs.Prelude.{unwrap_or}
use Rattle.compose_model.specs.Nodes.{leaves}
use Rattle.compose_compare.specs.declared.Change.TheVariants.{Kept}
use Rattle.compose_diff.specs.Line.{is_loss}
use Rattle.compose_diff_rows.specs.Rows.{written, text_in}
use Rattle.compose_diff_rows.proofs.LostTexts.{AreAmong, one_lost, one_kept}
use Rattle.compose_diff_rows.proofs.reported.lost_texts.Goals as goal
use Rattle.compose_diff_rows.proofs.reported.lost_texts.Goals.{then-is_loss+in_ok-push, else-is_loss}

pub loop-leaf-init : goal.loop-leaf-init
loop-leaf-init g c = λ i below lost. absurd (omega arith)

pub loop-leaf-preserved : goal.loop-leaf-preserved
loop-leaf-preserved g c =
    let table = g.T.ComposeTable.definitions c.args.old.now.table.now in
    let lost : ℕ → Bool = (λ i. is_loss (get_or c.args.changes.now i Kept)) in
    let text : ℕ → List ℕ = (λ i. text_in (written g.T.ComposeTable.definitions c.args.old.now) (get_or (leaves table) i [])) in
    let n = c.loop-leaf.leaf in
    elim c.if-is_loss.branch [
      | then-is_loss+in_ok-push w ↦ subst (AreAmong lost text (n + 1)) (sym (ap (λ v. v.items) w.texts-is ∙ w.in_ok-push.ensures.items))
          (one_lost lost text n c.loop-leaf.texts.items w.text.result c.loop-leaf.invariant (sym (ap (λ o. unwrap_or o []) w.text.ensures.value)))
      | else-is_loss w ↦ subst (AreAmong lost text (n + 1)) (sym (ap (λ v. v.items) w.texts-is)) (one_kept lost text n c.loop-leaf.texts.items c.loop-leaf.invariant (sym c.is_loss.ensures ∙ w.if-is_loss.false))
    ]

pub returns : goal.returns
returns g c = λ i below lost. (
    let end = c.leaf_count-leaf-end.ensures in
    let within : i < c.loop-leaf.leaf = omega (arith, below, c.requires, end, c.loop-leaf-test.false) in
    c.loop-leaf.invariant i within lost)
