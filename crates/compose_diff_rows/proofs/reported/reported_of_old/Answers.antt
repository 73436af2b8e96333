use Rattle.std.proofs.Common.{◌∙◌, ◌<◌, [], length, map, get_or, sym, ap, arith}
use Rattle.compose_model.specs.Nodes.{leaves}
use Rattle.compose_diff_rows.specs.Rows.{written, reported_sequence, reported_of, keys_of, entry_of, longer_named, now_of, is_reported, is_reported_of}
use Rattle.compose_diff_rows.proofs.RowsSoFar.{reported_added, not_reported, old_change_at}
use Rattle.compose_diff_rows.proofs.reported.reported_of_old.Goals as goal
use Rattle.compose_diff_rows.proofs.reported.reported_of_old.Goals.{then-is_reported+in_ok-push, else-is_reported}

pub loop-leaf-preserved : goal.loop-leaf-preserved
loop-leaf-preserved g c = λ fresh h.
    (let names = c.args.names.now in
    let table = g.T.ComposeTable.definitions c.args.old.now.table.now in
    let new = written g.T.ComposeTable.definitions c.args.new.now in
    let old = written g.T.ComposeTable.definitions c.args.old.now in
    let whole = c.args.whole in
    let i = c.loop-leaf.leaf in
    let end = c.leaf_count-leaf-end.ensures in
    let below : i < length (leaves table) = omega (arith, c.loop-leaf-test.true, end) in
    let test = is_reported_of whole names fresh table new.table in
    let row_for = reported_of names fresh old new old in
    let so_far = c.loop-leaf.invariant fresh h in
    let what = old_change_at names fresh table new.table c.args.changes.now h i _ below in
    elim c.if-is_reported.branch [
      | then-is_reported+in_ok-push w ↦ ap (λ v. map reported_sequence v.items) w.reported-is ∙ ap (map reported_sequence) w.in_ok-push.ensures.items
          ∙ reported_added test row_for (leaves table) i below reported_sequence [] c.loop-leaf.reported.items so_far w.lost_at.result (ap (is_reported whole) (sym what) ∙ sym w.if-is_reported.ensures)
          (λ j. record {
            change = (w.lost_at.ensures.change ∙ what) j;
            keys = w.lost_at.ensures.keys j;
            entry = w.lost_at.ensures.entry j;
            longer = (w.lost_at.ensures.longer ∙ ap (λ ch. longer_named names new ch (keys_of old (get_or (leaves table) i []))) what) j;
            typing = (w.lost_at.ensures.typing ∙ ap (λ ch. now_of new ch (entry_of old (get_or (leaves table) i []))) what) j;
          })
      | else-is_reported w ↦ ap (λ v. map reported_sequence v.items) w.reported-is
          ∙ not_reported test row_for (leaves table) i below reported_sequence [] c.loop-leaf.reported.items so_far (ap (is_reported whole) (sym what) ∙ sym w.if-is_reported.ensures)
    ])
