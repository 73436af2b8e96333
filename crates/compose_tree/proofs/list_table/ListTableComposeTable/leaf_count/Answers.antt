use Rattle.std.proofs.Common.{◌∙◌, ap, sym, subst, length}
use Rattle.compose_read.specs.Settle.{IsSettled}
use Rattle.compose_tree.proofs.Lookups.{leaves_count}
use Rattle.compose_tree.proofs.list_table.ListTableComposeTable.leaf_count.Goals as goal

pub returns : goal.returns
returns c = c.len.ensures.count ∙ ap length c.self.view_is ∙ sym (leaves_count c.args.self.now (subst IsSettled c.self.view_is c.len.ensures.settled))
