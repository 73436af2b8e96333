use Rattle.std.proofs.Common.{rules, ◌≡◌, ◌∙◌, sym, subst, ◌∷◌, []}
use Rattle.std.specs.Prelude.{Err}
use Rattle.compose_given.specs.Reads.{AreTables, FailsReads, names_of, names_read, paths_of, reads_of, table_reads, text_reads}
use Rattle.compose_given.proofs.Failing.{fails}
use Rattle.compose_given.proofs.InOrder.{after_names, after_tables, before_others}
use Rattle.compose_given.proofs.reading.read_parts.Goals as goal

pub returns-in_err-tables-clause-fault : goal.returns-in_err-tables-clause-fault
returns-in_err-tables-clause-fault g c =
    let folder = c.args.files.now.holds in let environment = c.args.environment.now in let wanted = c.args.wanted.now in
    let fault = c.in_err-tables.field-0.0 in let names = names_of wanted in let texts = text_reads folder (paths_of wanted) in
    let is : c.from_residual-in_err-tables.result ≡ Err fault = search rules in
    fails (FailsReads (reads_of folder environment wanted)) c.from_residual-in_err-tables.result fault is
    (after_names (names_read folder names) (table_reads folder environment wanted.tables.now texts) fault (c.in_ok-names.names, c.in_ok-names.ensures.read)
    (before_others folder environment wanted.tables.now texts fault
    (subst (λ f. FailsReads (table_reads f environment wanted.tables.now []) fault) c.in_ok-names.ensures.kept c.in_err-tables.ensures.fault)))

pub returns-in_err-texts-clause-fault : goal.returns-in_err-texts-clause-fault
returns-in_err-texts-clause-fault g c =
    let folder = c.args.files.now.holds in let environment = c.args.environment.now in let wanted = c.args.wanted.now in
    let fault = c.in_err-texts.field-0.0 in let names = names_of wanted in let texts = text_reads folder (paths_of wanted) in
    let names_kept = c.in_ok-names.ensures.kept in
    let is : c.from_residual-in_err-texts.result ≡ Err fault = search rules in
    fails (FailsReads (reads_of folder environment wanted)) c.from_residual-in_err-texts.result fault is
    (after_names (names_read folder names) (table_reads folder environment wanted.tables.now texts) fault (c.in_ok-names.names, c.in_ok-names.ensures.read)
    (after_tables folder environment wanted.tables.now c.in_ok-tables.tables.items texts fault
    (subst (λ f. AreTables f environment wanted.tables.now c.in_ok-tables.tables.items) names_kept c.in_ok-tables.ensures.read)
    (subst (λ f. FailsReads (text_reads f (paths_of wanted)) fault) (c.in_ok-tables.ensures.kept ∙ names_kept) c.in_err-texts.ensures.fault)))
