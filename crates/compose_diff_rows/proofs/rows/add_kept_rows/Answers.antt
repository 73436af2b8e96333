use Rattle.std.proofs.Common.{◌∙◌, ℕ, List, Bool, ◌<◌, ◌++◌, ◌∷◌, [], length, not, sym, ap, append_assoc, arith}
use Rattle.compose_model.specs.Nodes.{leaves}
use Rattle.compose_diff_rows.specs.Rows.{written, reported_row, kept_row, is_reported, is_reported_of}
use Rattle.compose_diff_rows.proofs.RowsSoFar.{reported_added, not_reported, old_change_at}
use Rattle.compose_diff_rows.proofs.rows.add_kept_rows.Goals as goal
use Rattle.compose_diff_rows.proofs.rows.add_kept_rows.Goals.{then-not-is_reported+in_ok-push, else-not-is_reported}

pub loop-leaf-preserved : goal.loop-leaf-preserved
loop-leaf-preserved g c = λ names fresh new h.
    (let table = g.T.ComposeTable.definitions c.args.old.now.table.now in
    let old = written g.T.ComposeTable.definitions c.args.old.now in
    let whole = c.args.whole in
    let i = c.loop-leaf.leaf in
    let end = c.leaf_count-leaf-end.ensures in
    let below : i < length (leaves table) = omega (arith, c.loop-leaf-test.true, end) in
    let test : List ℕ → Bool = (λ s. not (is_reported_of whole names fresh table new.table s)) in
    let so_far = c.loop-leaf.invariant names fresh new h in
    let what = old_change_at names fresh table new.table c.args.changes.now h i _ below in
    elim c.if-not-is_reported.branch [
      | then-not-is_reported+in_ok-push w ↦ (
        so_far.0 ++ w.kept_row.result ∷ [],
        ap (λ v. v.items) w.rows-is ∙ w.in_ok-push.ensures.items ∙ ap (λ rows. rows ++ w.kept_row.result ∷ []) so_far.1 ∙ append_assoc c.args.rows.now.items so_far.0 (w.kept_row.result ∷ []),
        reported_added test (kept_row old) (leaves table) i below reported_row [] so_far.0 so_far.2 w.kept_row.result
            (ap (λ x. not (is_reported whole x)) (sym what) ∙ sym (ap not w.if-not-is_reported.ensures)) w.kept_row.ensures,
      )
      | else-not-is_reported w ↦ (
        so_far.0,
        ap (λ v. v.items) w.rows-is ∙ so_far.1,
        not_reported test (kept_row old) (leaves table) i below reported_row [] so_far.0 so_far.2 (ap (λ x. not (is_reported whole x)) (sym what) ∙ sym (ap not w.if-not-is_reported.ensures)),
      )
    ])
