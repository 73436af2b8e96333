use Rattle.std.proofs.Common.{◌≡◌, ◌∙◌, ap, sym, rules, string_bytes}
use Rattle.keysym_core.specs.Names.{row_value}
use Rattle.keysym_core.specs.Table.{name_rows}
use Rattle.keysym_core.proofs.Rows.{row_value-name_rows}
use Rattle.keysym_core.proofs.table.value_by_hint.Goals as goal

pub returns-then-eq : goal.returns-then-eq
returns-then-eq c =
    let same : string_bytes c.in-Some.hinted.now ≡ c.args.name.now = search rules in
    sym c.in-Some.ensures.value
    ∙ row_value-name_rows (string_bytes c.in-Some.hinted.now) c.args.rows.now.entries
    ∙ ap (row_value (name_rows c.args.rows.now.entries)) same
