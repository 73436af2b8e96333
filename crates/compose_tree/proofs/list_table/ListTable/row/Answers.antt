use Rattle.std.proofs.Common.{◌∙◌, ap, subst}
use Rattle.compose_read.specs.Settle.{IsSettled}
use Rattle.compose_tree.specs.Rows.{rows_of}
use Rattle.compose_tree.proofs.Lookups.{row_found}
use Rattle.compose_tree.proofs.list_table.ListTable.row.Goals as goal

pub returns-clause-value : goal.returns-clause-value
returns-clause-value c = row_found c.args.self.now c.self.inside.rows.items c.args.node.0 c.index.result.now (c.self.invariant.1 ∙ ap rows_of c.self.view_is) c.requires c.index.ensures

pub returns-clause-settled : goal.returns-clause-settled
returns-clause-settled c = subst IsSettled c.self.view_is c.self.invariant.0
