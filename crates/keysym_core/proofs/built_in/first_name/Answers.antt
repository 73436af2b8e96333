use Rattle.std.proofs.Common.{◌≡◌, ◌∙◌, ap, sym, rules, arith, None, Some, slice_get}
use Rattle.std.specs.Prelude.{option_copied}
use Rattle.std.proofs.lemmas.Grind.{common_steps}
use Rattle.std.specs.Str.{IsUtf8}
use Rattle.keysym_core.specs.Names.{NameRow}
use Rattle.keysym_core.specs.BuiltIn.{built_in_rows}
use Rattle.keysym_core.specs.Places.{index_of, keysym_hash}
use Rattle.keysym_core.specs.declared.built_in_places.TheConstants.{KEYSYM_SHIFTS, KEYSYM_INDEXES}
use Rattle.keysym_core.specs.Names.{value}
use Rattle.keysym_core.specs.Printed.{first_name}
use Rattle.keysym_core.specs.BuiltIn.{built_in}
use Rattle.keysym_core.proofs.Rows.{form_looks_up}
use Rattle.keysym_core.proofs.BuiltInFacts.{keysym_place, names_agree}
use Rattle.keysym_core.proofs.BuiltInFound.{name_none, name_other, name_same, name_is_utf8, first_names_look_up, row_has_value}
use Rattle.keysym_core.proofs.built_in.first_name.Goals as goal

pub returns-in_err-name-clause-same : goal.returns-in_err-name-clause-same
returns-in_err-name-clause-same c =
    let place : c.index_of.result ≡ keysym_place c.args.keysym = c.index_of.ensures ∙ ap (index_of KEYSYM_SHIFTS KEYSYM_INDEXES) (c.keysym_hash-hash.ensures ∙ ap keysym_hash c.value.ensures.same) in
    let none : slice_get built_in_rows c.index_of.result ≡ None = search rules in
    ap option_copied c.from_residual.ensures ∙ sym (name_none c.args.keysym c.index_of.result place none)

pub returns-then-known-value-clause-same : goal.returns-then-known-value-clause-same
returns-then-known-value-clause-same c =
    let row : NameRow = record { name = c.in_ok-name.name.now; value = c.in_ok-name.known } in
    let place : c.index_of.result ≡ keysym_place c.args.keysym = c.index_of.ensures ∙ ap (index_of KEYSYM_SHIFTS KEYSYM_INDEXES) (c.keysym_hash-hash.ensures ∙ ap keysym_hash c.value.ensures.same) in
    let there : slice_get built_in_rows c.index_of.result ≡ Some row = sym c.in_ok-name.ensures in
    sym (name_other c.args.keysym c.index_of.result row place there (λ e. c.if-known-value.true (e ∙ sym c.value-2.ensures.same)))

pub unwrap-requires : goal.unwrap-requires
unwrap-requires c =
    let row : NameRow = record { name = c.in_ok-name.name.now; value = c.in_ok-name.known } in
    let utf8 : IsUtf8 c.in_ok-name.name.now = name_is_utf8 c.index_of.result row (sym c.in_ok-name.ensures) in
    grind (arith, common_steps)

pub returns-clause-same : goal.returns-clause-same
returns-clause-same c =
    let row : NameRow = record { name = c.in_ok-name.name.now; value = c.in_ok-name.known } in
    let place : c.index_of.result ≡ keysym_place c.args.keysym = c.index_of.ensures ∙ ap (index_of KEYSYM_SHIFTS KEYSYM_INDEXES) (c.keysym_hash-hash.ensures ∙ ap keysym_hash c.value.ensures.same) in
    let reported : c.unwrap.result.now ≡ c.in_ok-name.name.now = search rules in
    ap Some reported ∙ sym (name_same c.args.keysym c.index_of.result row place (sym c.in_ok-name.ensures) (c.if-known-value.false ∙ c.value-2.ensures.same))

pub returns-clause-found : goal.returns-clause-found
returns-clause-found c =
    let row : NameRow = record { name = c.in_ok-name.name.now; value = c.in_ok-name.known } in
    let place : c.index_of.result ≡ keysym_place c.args.keysym = c.index_of.ensures ∙ ap (index_of KEYSYM_SHIFTS KEYSYM_INDEXES) (c.keysym_hash-hash.ensures ∙ ap keysym_hash c.value.ensures.same) in
    let reported : c.unwrap.result.now ≡ c.in_ok-name.name.now = search rules in
    let first : first_name built_in_rows c.args.keysym ≡ Some c.in_ok-name.name.now = name_same c.args.keysym c.index_of.result row place (sym c.in_ok-name.ensures) (c.if-known-value.false ∙ c.value-2.ensures.same) in
    ap (value built_in) reported ∙ row_has_value built_in c.in_ok-name.name.now c.args.keysym (first_names_look_up c.args.keysym c.in_ok-name.name.now first)

pub returns-in_err-name-clause-forms : goal.returns-in_err-name-clause-forms
returns-in_err-name-clause-forms c = λ n form. form_looks_up built_in n c.args.keysym names_agree form

pub returns-then-known-value-clause-forms : goal.returns-then-known-value-clause-forms
returns-then-known-value-clause-forms c = λ n form. form_looks_up built_in n c.args.keysym names_agree form

pub returns-clause-forms : goal.returns-clause-forms
returns-clause-forms c = λ n form. form_looks_up built_in n c.args.keysym names_agree form
