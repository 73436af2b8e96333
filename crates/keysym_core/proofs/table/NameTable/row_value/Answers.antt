use Rattle.std.proofs.Common.{◌∙◌, ap}
use Rattle.keysym_core.specs.Names.{row_value, KeysymNames}
use Rattle.keysym_core.proofs.Rows.{row_value-name_rows}
use Rattle.keysym_core.proofs.table.NameTable.row_value.Goals as goal

pub returns : goal.returns
returns c =
    c.copied.ensures ∙ c.get.ensures.value ∙ row_value-name_rows c.args.name.now c.self.inside.names.entries ∙ ap (λ (t : KeysymNames). row_value t.names c.args.name.now) c.self.view_is
