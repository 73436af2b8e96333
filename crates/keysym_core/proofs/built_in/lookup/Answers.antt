use Rattle.std.proofs.Common.{◌∙◌, ap, sym}
use Rattle.keysym_core.specs.Names.{form_value}
use Rattle.keysym_core.specs.BuiltIn.{built_in}
use Rattle.keysym_core.proofs.Rows.{form_looks_up, value-without_form}
use Rattle.keysym_core.proofs.BuiltInFacts.{names_agree}
use Rattle.keysym_core.proofs.built_in.lookup.Goals as goal

pub returns-in-Some : goal.returns-in-Some
returns-in-Some c = sym (form_looks_up built_in c.args.name.now c.in-Some.keysym names_agree (ap form_value (sym c.as_bytes.ensures.value) ∙ sym c.in-Some.ensures))

pub returns-in-None : goal.returns-in-None
returns-in-None c = c.row_value.ensures ∙ sym (value-without_form built_in c.args.name.now (ap form_value (sym c.as_bytes.ensures.value) ∙ sym c.in-None.ensures))
