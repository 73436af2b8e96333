use Rattle.std.proofs.Common.{rules, ◌≡◌, ◌∙◌, ap, sym, subst, take, drop, get_or, ◌+◌, ◌++◌, ◌∷◌, [], refl}
use Rattle.std.specs.Prelude.{Err}
use Rattle.std.proofs.lemmas.List.{take_more, take-append-drop, drop_more}
use Rattle.compose_given.specs.Reads.{AddsTable, AreTables, FailsReads, table_reads}
use Rattle.compose_given.proofs.Failing.{fails}
use Rattle.compose_given.proofs.InOrder.{no_table, tables_added, table_fails}
use Rattle.compose_given.proofs.reading.read_tables.Goals as goal

pub loop-each-preserved : goal.loop-each-preserved
loop-each-preserved g c =
    let folder = c.args.files.now.holds in let environment = c.args.environment.now in let items = c.args.wanted.now in
    let i = c.loop-each.each-index in let wanted = get_or items i no_table in let inv = c.loop-each.invariant in
    record {
      kept = c.in_ok-add_table.ensures.kept ∙ inv.kept;
      read = subst (λ ws. AreTables folder environment ws c.add_table.new.tables.items) (sym (take_more items i no_table c.loop-each-test.true))
          (tables_added folder environment (take i items) c.loop-each.tables.items c.add_table.new.tables.items wanted inv.read
          (subst (λ f. AddsTable f environment wanted c.loop-each.tables.items c.add_table.new.tables.items) inv.kept c.in_ok-add_table.ensures.read));
    }

pub returns-in_err-add_table-clause-fault : goal.returns-in_err-add_table-clause-fault
returns-in_err-add_table-clause-fault g c =
    let folder = c.args.files.now.holds in let environment = c.args.environment.now in let items = c.args.wanted.now in
    let i = c.loop-each.each-index in let wanted = get_or items i no_table in let inv = c.loop-each.invariant in
    let fault = c.in_err-add_table.field-0.0 in
    let is : c.from_residual.result ≡ Err fault = search rules in
    fails (FailsReads (table_reads folder environment items [])) c.from_residual.result fault is
    (subst (λ ws. FailsReads (table_reads folder environment ws []) fault) (ap (λ l. take i items ++ l) (sym (drop_more items i no_table c.loop-each-test.true)) ∙ take-append-drop i items)
    (table_fails folder environment (take i items) c.loop-each.tables.items wanted (drop (i + 1) items) fault inv.read
    (subst (λ f. FailsReads (table_reads f environment (wanted ∷ []) []) fault) inv.kept c.in_err-add_table.ensures.fault)))
