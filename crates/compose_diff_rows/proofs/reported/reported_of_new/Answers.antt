use Rattle.std.proofs.Common.{◌∙◌, ◌<◌, [], length, map, get_or, not, ap, arith}
use Rattle.std.specs.Option.{option_map, option_and_then}
use Rattle.compose_compare.specs.Change.{change}
use Rattle.compose_model.specs.Table.{is_sequence}
use Rattle.compose_model.specs.Nodes.{leaves}
use Rattle.compose_places.specs.Counting.{sequence_named}
use Rattle.compose_diff_rows.specs.Rows.{written, reported_sequence, named_sequence, reported_of, keys_of, longer_in, now_of}
use Rattle.compose_diff_rows.proofs.RowsSoFar.{reported_added, not_reported, reported_change, no_change, no_entry, never_waiting, not_waiting}
use Rattle.compose_diff_rows.proofs.reported.reported_of_new.Goals as goal
use Rattle.compose_diff_rows.proofs.reported.reported_of_new.Goals.{in-Some+in_ok-push, in_default}

pub loop-leaf-preserved : goal.loop-leaf-preserved
loop-leaf-preserved g c = λ names fresh old h.
    (let table = g.T.ComposeTable.definitions c.args.new.now.table.now in
    let new = written g.T.ComposeTable.definitions c.args.new.now in
    let i = c.loop-leaf.leaf in
    let end = c.leaf_count-leaf-end.ensures in
    let below : i < length (leaves table) = omega (arith, c.loop-leaf-test.true, end) in
    let row_for = reported_of names fresh old new new in
    let so_far = c.loop-leaf.invariant names fresh old h in
    elim c.match-changes-leaf.branch [
      | in-Some+in_ok-push w ↦ (
          let what = reported_change names fresh old.table table c.args.changes.now h i below _ w.in-Some.change w.in-Some.is in
          ap (λ v. map reported_sequence v.items) w.reported-is ∙ ap (map reported_sequence) w.in_ok-push.ensures.items
          ∙ reported_added (λ s. not (is_sequence old.table s)) row_for (leaves table) i below reported_sequence [] c.loop-leaf.reported.items so_far w.reported_at.result (ap not what.0)
          (λ j. record {
            change = (w.reported_at.ensures.change ∙ what.1) j;
            keys = w.reported_at.ensures.keys j;
            entry = w.reported_at.ensures.entry j;
            longer = (ap (option_map named_sequence) w.reported_at.ensures.longer
                ∙ not_waiting (change names fresh old.table table (get_or (leaves table) i []))
                (option_and_then (longer_in new) (sequence_named names (keys_of new (get_or (leaves table) i [])))) (never_waiting names fresh old.table table (get_or (leaves table) i []) what.0)) j;
            typing = (ap (option_map named_sequence) w.reported_at.ensures.typing
                ∙ ap (now_of new (change names fresh old.table table (get_or (leaves table) i []))) (no_entry old (get_or (leaves table) i []) what.0)) j;
          }))
      | in_default w ↦ ap (λ v. map reported_sequence v.items) w.reported-is
          ∙ not_reported (λ s. not (is_sequence old.table s)) row_for (leaves table) i below reported_sequence [] c.loop-leaf.reported.items so_far
          (ap not (no_change names fresh old.table table c.args.changes.now h i below _ w.in_default.is))
    ])
