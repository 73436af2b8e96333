use Rattle.std.proofs.Common.{◌∙◌, cond, sym, ap, string_bytes}
use Rattle.std.specs.Prelude.{Some, None, bytes_eq}
use Rattle.std.specs.Option.{option_or}
use Rattle.indexmap.specs.IndexMap.{get_by_text}
use Rattle.compose_lint.specs.Texts.{normal_form, is_normal}
use Rattle.compose_lint.proofs.AlikeOnes.{none_given, normal_given, form_given}
use Rattle.compose_lint.proofs.alike.add_line.Goals as goal

pub returns-in_default : goal.returns-in_default
returns-in_default c = λ q. none_given c.args.line.now q (get_by_text c.args.places.now q) (sym c.in_default.ensures)

pub returns-then-branch : goal.returns-then-branch
returns-then-branch c = λ q.
    normal_given c.args.line.now c.in-Some.definition.now q (get_by_text c.args.places.now q) (sym c.in-Some.ensures) (ap is_normal (sym c.text.ensures) ∙ sym c.in_ok-is_normal.ensures ∙ c.if-branch.true)

pub returns : goal.returns
returns c = λ q.
    (let old = get_by_text c.args.places.now q in let form = string_bytes c.in_ok-form.form in
    c.in_ok-add_first.ensures q
    ∙ ap (λ p. option_or old (cond (bytes_eq form q) (Some p) None)) c.place.ensures
    ∙ form_given c.args.line.now c.in-Some.definition.now q form old (sym c.in-Some.ensures) (ap is_normal (sym c.text.ensures) ∙ sym c.in_ok-is_normal.ensures ∙ c.if-branch.false)
    (c.in_ok-form.ensures ∙ ap normal_form c.text-2.ensures))
