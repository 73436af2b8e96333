use Rattle.std.proofs.Common.{◌≡◌, ◌∙◌, List, ℕ, sym, ap, subst}
use Rattle.std.specs.Prelude.{Ok}
use Rattle.compose_answer.specs.Parts.{Explainable}
use Rattle.compose_diff_rows.specs.Answers.{compared_parts, written_in}
use Rattle.compose_diff_rows.specs.Rows.{Written}
use Rattle.compose_diff_rows.proofs.Joining.{after_read}
use Rattle.compose_migration.specs.Migration.{Parts}
use Rattle.compose_migration.specs.Values.{given_of}
use Rattle.compose_tree.specs.TableReturns.{first_table}
use Rattle.compose_merging.specs.Merges.{Asked, Merges, asked}
use Rattle.compose_merging.specs.Steps.{placed_parts}
use Rattle.compose_merging.proofs.Read.{tables_read}
use Rattle.compose_merging.proofs.Steps.{merges_answer}
use Rattle.compose_merging.proofs.merging.merge_read.Goals as goal

pub merge_sides-requires-clause-old : goal.merge_sides-requires-clause-old
merge_sides-requires-clause-old g c =
    let given = given_of c.args.input.now.tables in let placed = c.requires in
    c.in_ok-old.ensures.rows (g.T.ComposeTable.definitions c.args.migration.now.old.table)
    (subst (λ (p : Parts). first_table p.names given.old.sources given.old.rule ≡ Ok p.old) placed.is (tables_read given placed.expected placed.read).0)

pub merge_sides-requires-clause-new : goal.merge_sides-requires-clause-new
merge_sides-requires-clause-new g c =
    let given = given_of c.args.input.now.tables in let placed = c.requires in
    c.in_ok-new.ensures.rows (g.T.ComposeTable.definitions c.args.migration.now.new.table)
    (subst (λ (p : Parts). first_table p.names given.new.sources given.new.rule ≡ Ok p.new) placed.is (tables_read given placed.expected placed.read).1)

pub returns : goal.returns
returns g c =
    let view = g.T.ComposeTable.definitions in let placed = c.requires in let result = c.merge_sides.result in
    let given : Asked = asked c.args.input.now in
    let move : Parts = placed_parts view c.args.migration.now in
    let with : List ℕ → Explainable = (λ fresh. record { move = move; fresh = fresh }) in
    let read : compared_parts given.migration ≡ Ok (with c.in_ok-fresh.fresh.items) = after_read given.migration placed.expected move placed.read placed.is ∙ c.in_ok-fresh.ensures.0 in
    let fresh = c.deref-3.result.now in
    let is : compared_parts given.migration ≡ Ok (with fresh) = read ∙ ap (λ (xs : List ℕ). Ok (with xs)) (sym c.deref-3.ensures.value) in
    let old : Written = record { table = move.old; lines = c.deref.result.now; paths = given.old_paths } in
    let new : Written = record { table = move.new; lines = c.deref-2.result.now; paths = given.new_paths } in
    let old_lines = c.deref.ensures.value ∙ placed.old.lines in
    let new_lines = c.deref-2.ensures.value ∙ placed.new.lines in
    let old_is : old ≡ written_in move.names given.migration.old.sources given.old_paths move.old = λ i. record { table = move.old; lines = old_lines i; paths = given.old_paths } in
    let new_is : new ≡ written_in move.names given.migration.new.sources given.new_paths move.new = λ i. record { table = move.new; lines = new_lines i; paths = given.new_paths } in
    merges_answer given (with fresh) is result
    (subst (λ (o : Written). Merges move.names fresh o (written_in move.names given.migration.new.sources given.new_paths move.new) result) old_is
    (subst (λ (n : Written). Merges move.names fresh old n result) new_is c.merge_sides.ensures))
