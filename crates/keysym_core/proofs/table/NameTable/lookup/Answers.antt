use Rattle.std.proofs.Common.{◌≡◌, ◌∙◌, ap, sym, subst, true}
use Rattle.std.specs.List.{list_all}
use Rattle.keysym_core.specs.Names.{KeysymNames, row_value, form_value}
use Rattle.keysym_core.specs.Table.{agrees_with_form}
use Rattle.keysym_core.proofs.Rows.{form_looks_up, value-without_form}
use Rattle.keysym_core.proofs.table.NameTable.lookup.Goals as goal

pub returns-in-Some : goal.returns-in-Some
returns-in-Some c =
    let agree = subst (λ (t : KeysymNames). list_all agrees_with_form t.names ≡ true) c.self.view_is c.self.invariant.agree in
    sym (form_looks_up c.args.self.now c.args.name.now c.in-Some.keysym agree (ap form_value (sym c.as_bytes.ensures.value) ∙ sym c.in-Some.ensures))

pub returns-in-None : goal.returns-in-None
returns-in-None c =
    c.value_by_hint.ensures
    ∙ ap (λ (t : KeysymNames). row_value t.names c.args.name.now) c.self.view_is
    ∙ sym (value-without_form c.args.self.now c.args.name.now (ap form_value (sym c.as_bytes.ensures.value) ∙ sym c.in-None.ensures))
