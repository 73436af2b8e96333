use Rattle.std.proofs.Common.{◌∙◌, ap, sym}
use Rattle.std.specs.Prelude.{option_copied}
use Rattle.keysym_core.proofs.Rows.{no_index, first_name-at_index, form_looks_up, name_looks_up}
use Rattle.keysym_core.proofs.table.NameTable.first_name.Goals as goal

pub returns-in_err-index-clause-same : goal.returns-in_err-index-clause-same
returns-in_err-index-clause-same c =
    ap option_copied c.from_residual.ensures ∙ sym (no_index c.args.keysym 0 c.args.self.now.names (sym c.in_err-index.ensures.same))

pub returns-in_err-index-clause-forms : goal.returns-in_err-index-clause-forms
returns-in_err-index-clause-forms c = λ n form. form_looks_up c.args.self.now n c.args.keysym c.first_index.ensures.agree form

pub returns-clause-same : goal.returns-clause-same
returns-clause-same c = c.name_at.ensures ∙ first_name-at_index c.args.keysym c.in_ok-index.index c.args.self.now.names (sym c.in_ok-index.ensures.same)

pub returns-clause-found : goal.returns-clause-found
returns-clause-found c =
    name_looks_up c.args.self.now c.args.keysym c.name_at.result c.first_index.ensures.first_names
    (c.name_at.ensures ∙ first_name-at_index c.args.keysym c.in_ok-index.index c.args.self.now.names (sym c.in_ok-index.ensures.same))

pub returns-clause-forms : goal.returns-clause-forms
returns-clause-forms c = λ n form. form_looks_up c.args.self.now n c.args.keysym c.first_index.ensures.agree form
