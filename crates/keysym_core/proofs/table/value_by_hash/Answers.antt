use Rattle.std.proofs.Common.{◌∙◌}
use Rattle.keysym_core.proofs.Rows.{row_value-name_rows}
use Rattle.keysym_core.proofs.table.value_by_hash.Goals as goal

pub returns : goal.returns
returns c = c.copied.ensures ∙ c.get.ensures.value ∙ row_value-name_rows c.args.name.now c.args.rows.now.entries
