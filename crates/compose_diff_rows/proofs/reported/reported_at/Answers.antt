use Rattle.std.proofs.Common.{◌∙◌, sym}
use Rattle.compose_diff_rows.specs.Rows.{written}
use Rattle.compose_diff_rows.proofs.RowsSoFar.{keys_of_leaf}
use Rattle.compose_diff_rows.proofs.reported.reported_at.Goals as goal

pub returns-clause-keys : goal.returns-clause-keys
returns-clause-keys g c = c.keys_at.ensures ∙ sym (keys_of_leaf (written g.T.ComposeTable.definitions c.args.written.now) c.args.leaf.0 c.requires)
