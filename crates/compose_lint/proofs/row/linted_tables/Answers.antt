use Rattle.std.proofs.Common.{◌∙◌, [], ◌∷◌, ◌++◌, ap₂, sym}
use Rattle.compose_lint.specs.Answers.{table_given}
use Rattle.compose_lint.specs.Rows.{linted}
use Rattle.compose_lint.proofs.Among.{last_more}
use Rattle.compose_lint.proofs.row.linted_tables.Goals as goal

pub loop-table-preserved : goal.loop-table-preserved
loop-table-preserved c =
    c.in_ok-push.ensures.items ∙ ap₂ (λ ts t. ts ++ t ∷ []) c.loop-table.invariant c.in_ok-one.ensures
    ∙ sym (last_more (λ t. linted c.args.names.now c.args.readers c.args.is_all (table_given t)) c.args.tables.now c.loop-table.table-index c.table-item.result c.loop-table-test.true c.table-item.is)
