use Rattle.std.proofs.Common.{◌≡◌, ◌∙◌, ℕ, List, [], length, sym, ap, subst, arith}
use Rattle.std.specs.Prelude.{filter, Ok}
use Rattle.keysym_core.specs.Names.{KeysymNames}
use Rattle.compose_merge.specs.Merged.{merged}
use Rattle.compose_model.specs.Table.{Definition}
use Rattle.compose_model.specs.declared.Rule.TheVariants.{Refuse}
use Rattle.compose_read.specs.Settle.{settled}
use Rattle.compose_merging.specs.Printed.{FailsBack, ReadsBack, listed_as, table_text}
use Rattle.compose_merging.specs.Treatments.{is_left_out, is_the_taken, treatments}
use Rattle.compose_merging.specs.declared.treatment.Treatment.{Treatment}
use Rattle.compose_merging.proofs.Steps.{large_merge, not_merged, not_read}
use Rattle.compose_merging.proofs.merging.merge_sides.Goals as goal

-- what is merged, by the rows of both sides
settled_as : (names : KeysymNames) (fresh : List ℕ) (a b old new rows : List Definition) → a ≡ old → b ≡ new → settled Refuse (merged names fresh [] a b) ≡ Ok rows → settled Refuse (merged names fresh [] old new) ≡ Ok rows
settled_as names fresh a b old new rows o n is =
    subst (λ (x : List Definition). settled Refuse (merged names fresh [] x new) ≡ Ok rows) o (subst (λ (y : List Definition). settled Refuse (merged names fresh [] a y) ≡ Ok rows) n is)

pub returns-in_err-rows : goal.returns-in_err-rows
returns-in_err-rows g c =
    let view = g.T.ComposeTable.definitions in let old = c.args.old.now in let new = c.args.new.now in
    not_merged c.args.names.now c.args.fresh.now (listed_as view old.listed) (listed_as view new.listed) c.from_residual.result c.in_err-rows.field-0.0 c.from_residual.ensures.1
    (λ is. large_merge c.args.names.now c.args.fresh.now old.rows new.rows (view old.listed.table.now) (view new.listed.table.now) c.requires.old c.requires.new
    (omega (arith, c.node_count.ensures.count, c.node_count.ensures.few)) (c.in_err-rows.ensures.large is))

pub returns-in_err-check_back : goal.returns-in_err-check_back
returns-in_err-check_back g c =
    let view = g.T.ComposeTable.definitions in let old = c.args.old.now in let new = c.args.new.now in let names = c.args.names.now in let fresh = c.args.fresh.now in
    let a = view old.listed.table.now in let b = view new.listed.table.now in let fault = c.in_err-check_back.field-0.0 in
    let treated = c.deref.ensures.value ∙ c.in_ok-treatments.ensures ∙ ap (treatments names fresh a) c.requires.new in
    let text = c.deref-2.ensures ∙ c.in_ok-table.ensures ∙ ap (table_text (listed_as view old.listed) (listed_as view new.listed)) treated in
    not_read names fresh (listed_as view old.listed) (listed_as view new.listed) c.from_residual-in_err-check_back.result fault c.from_residual-in_err-check_back.ensures.1
    (subst (λ (t : List ℕ). FailsBack names (merged names fresh [] a b) t fault) text
    (c.in_err-check_back.ensures.fault (merged names fresh [] a b) (settled_as names fresh old.rows new.rows a b c.in_ok-rows.rows c.requires.old c.requires.new c.in_ok-rows.ensures.exact)))

pub returns : goal.returns
returns g c =
    let view = g.T.ComposeTable.definitions in let old = c.args.old.now in let new = c.args.new.now in let names = c.args.names.now in let fresh = c.args.fresh.now in
    let a = view old.listed.table.now in let b = view new.listed.table.now in let told = c.in_ok-told.ensures in
    let each = c.in_ok-treatments.ensures ∙ ap (treatments names fresh a) c.requires.new in
    let treated = c.deref.ensures.value ∙ each in
    let counted = c.deref-3.ensures.value ∙ each in record {
      lines = told.table ∙ c.in_ok-table.ensures ∙ ap (table_text (listed_as view old.listed) (listed_as view new.listed)) treated;
      reads = subst (λ (t : List ℕ). ReadsBack names (merged names fresh [] a b) t) (c.deref-2.ensures ∙ sym told.table)
          (c.in_ok-check_back.ensures.read (merged names fresh [] a b) (settled_as names fresh old.rows new.rows a b c.in_ok-rows.rows c.requires.old c.requires.new c.in_ok-rows.ensures.exact));
      kept = told.kept ∙ ap length c.requires.old;
      taken = told.taken ∙ ap (λ (ts : List Treatment). length (filter is_the_taken ts)) counted;
      left_out = told.left_out ∙ ap (λ (ts : List Treatment). length (filter is_left_out ts)) counted;
    }
