use Rattle.std.proofs.Common.{◌≡◌, ◌∙◌, ◌+◌, ◌<◌, List, ℕ, Bool, true, false, cond, length, take, sym, arith}
use Rattle.std.specs.Prelude.{filter}
use Rattle.compose_model.specs.Nodes.{leaves}
use Rattle.compose_compare.specs.Change.{new_changes}
use Rattle.compose_merge.specs.Merged.{is_taken}
use Rattle.compose_diff_rows.proofs.RowsSoFar.{slot_is}
use Rattle.compose_diff_rows.proofs.TakenSoFar.{one_more}
use Rattle.compose_diff_rows.proofs.taken.count_taken.Goals.{then-is_taken_at, else-is_taken_at}
use Rattle.compose_diff_rows.proofs.taken.count_taken.Goals as goal

pub loop-leaf-preserved : goal.loop-leaf-preserved
loop-leaf-preserved g c =
    let names = c.args.names.now in
    let old = g.T.ComposeTable.definitions c.args.old.now in
    let table = g.T.ComposeTable.definitions c.args.new.now.table.now in
    let i = c.loop-leaf.leaf in
    let end = c.leaf_count-leaf-end.ensures in
    let below : i < length (leaves table) = omega (arith, c.loop-leaf-test.true, end) in
    let so_far = c.loop-leaf.invariant in
    let next : (b : Bool) → c.is_taken_at.result ≡ b → (fresh : List ℕ) → c.args.changes.now ≡ new_changes names fresh old table
    → length (filter (is_taken names fresh old table) (take (i + 1) (leaves table))) ≡ length (filter (is_taken names fresh old table) (take i (leaves table))) + cond b 1 0 =
    λ b e fresh h. one_more (is_taken names fresh old table) (leaves table) i below b (sym e ∙ c.is_taken_at.ensures fresh (slot_is names fresh old table c.args.changes.now h i below _)) in
    elim c.if-is_taken_at.branch [
      | then-is_taken_at w ↦ record {
        few = (let n = w.count-is in let few = so_far.few in omega arith);
        counted = λ fresh h. (let n = w.count-is in let before = so_far.counted fresh h in let after = next true w.if-is_taken_at.true fresh h in omega arith);
      }
      | else-is_taken_at w ↦ record {
        few = (let n = w.count-is in let few = so_far.few in omega arith);
        counted = λ fresh h. (let n = w.count-is in let before = so_far.counted fresh h in let after = next false w.if-is_taken_at.false fresh h in omega arith);
      }
    ]
