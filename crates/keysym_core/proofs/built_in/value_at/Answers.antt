use Rattle.std.proofs.Common.{◌≡◌, ◌≢◌, ◌∙◌, sym, subst, rules, slice_get, None, Some, IfSome, true, false, bytes_eq}
use Rattle.std.proofs.lemmas.Bool.{true≢false}
use Rattle.keysym_core.specs.Names.{NameRow, row_value}
use Rattle.keysym_core.specs.BuiltIn.{built_in_rows}
use Rattle.keysym_core.proofs.BuiltInFound.{value_none, value_other, value_same, value_of_row, value_is_keysym, bytes_eq-same, bytes_eq-from}
use Rattle.keysym_core.proofs.built_in.value_at.Goals as goal

pub returns-in_err-known-clause-placed : goal.returns-in_err-known-clause-placed
returns-in_err-known-clause-placed c = λ place.
    let none : slice_get built_in_rows c.args.index ≡ None = search rules in
    c.from_residual.ensures ∙ sym (value_none c.args.name.now c.args.index place none)

pub returns-then-not-is_same-clause-placed : goal.returns-then-not-is_same-clause-placed
returns-then-not-is_same-clause-placed c = λ place.
    let row : NameRow = record { name = c.in_ok-known.known.now; value = c.in_ok-known.keysym } in
    let test : bytes_eq row.name c.as_bytes.result.now ≡ false = sym c.is_same.ensures ∙ c.if-not-is_same.true in
    let other : row.name ≢ c.args.name.now = λ e. true≢false (sym (bytes_eq-from row.name c.as_bytes.result.now (e ∙ sym c.as_bytes.ensures.value)) ∙ test) in
    sym (value_other c.args.name.now c.args.index row place (sym c.in_ok-known.ensures) other)

pub returns-clause-found : goal.returns-clause-found
returns-clause-found c =
    let row : NameRow = record { name = c.in_ok-known.known.now; value = c.in_ok-known.keysym } in
    let test : bytes_eq row.name c.as_bytes.result.now ≡ true = sym c.is_same.ensures ∙ c.if-not-is_same.false in
    let same : row.name ≡ c.args.name.now = bytes_eq-same row.name c.as_bytes.result.now test ∙ c.as_bytes.ensures.value in
    let there = sym c.in_ok-known.ensures in
    subst (λ o. IfSome o (λ k. row_value built_in_rows c.args.name.now ≡ Some k)) (sym (c.new.ensures.some (value_is_keysym c.args.index row there)))
    (value_of_row c.args.name.now c.args.index row there same)

pub returns-clause-placed : goal.returns-clause-placed
returns-clause-placed c = λ place.
    let row : NameRow = record { name = c.in_ok-known.known.now; value = c.in_ok-known.keysym } in
    let test : bytes_eq row.name c.as_bytes.result.now ≡ true = sym c.is_same.ensures ∙ c.if-not-is_same.false in
    let same : row.name ≡ c.args.name.now = bytes_eq-same row.name c.as_bytes.result.now test ∙ c.as_bytes.ensures.value in
    let there = sym c.in_ok-known.ensures in
    c.new.ensures.some (value_is_keysym c.args.index row there) ∙ sym (value_same c.args.name.now c.args.index row place there same)
