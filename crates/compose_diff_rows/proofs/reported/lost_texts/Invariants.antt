use Rattle.std.proofs.Common.{[], get_or}
use Rattle.compose_model.specs.Nodes.{leaves}
use Rattle.compose_compare.specs.declared.Change.TheVariants.{Kept}
use Rattle.compose_diff.specs.Line.{is_loss}
use Rattle.compose_diff_rows.specs.Rows.{written, text_in}
use Rattle.compose_diff_rows.proofs.LostTexts.{AreAmong}
use Rattle.compose_diff_rows.proofs.reported.lost_texts.Given as goal

-- those of the leaves so far
abbrev pub invariant-loop-leaf : goal.invariant-loop-leaf
invariant-loop-leaf g l =
    let table = g.T.ComposeTable.definitions l.old.table.now in
    AreAmong (λ i. is_loss (get_or l.changes i Kept)) (λ i. text_in (written g.T.ComposeTable.definitions l.old) (get_or (leaves table) i [])) l.leaf l.texts.items
