use Rattle.std.proofs.Common.{◌≡◌, ◌∙◌, ◌+◌, ◌-◌, ◌*◌, take, drop, sym, ap, subst, arith}
use Rattle.std.specs.Prelude.{Some}
use Rattle.std.specs.Str.{IsUtf8}
use Rattle.compose_c.proofs.LooseParts.{leaf_within, own_text, text_there}
use Rattle.compose_c.proofs.loose.text_of.Goals as goal

pub returns-then-leaf-arrays : goal.returns-then-leaf-arrays
returns-then-leaf-arrays c table is below =
    absurd (let within = leaf_within c.args.arrays.now table is c.args.leaf below in omega (arith, within, c.if-leaf-arrays.true))

pub returns-in_err-bytes : goal.returns-in_err-bytes
returns-in_err-bytes c table is below =
    let a = c.args.arrays.now in
    let i = c.args.leaf in
    let q = own_text a table is i below in
    let four : i * 4 + 4 - i * 4 ≡ 4 = omega arith in
    let turned : i * 4 ≡ 4 * i = omega arith in
    let entry =
    c.in_ok-entry.ensures (omega arith) (omega (arith, q.within)) ∙ ap (λ n. take n (drop (i * 4) a.texts.now)) four ∙ ap (λ k. take 4 (drop k a.texts.now)) turned ∙ q.entry in
    absurd (c.in_err-bytes.ensures q.before _ entry q.placed)

pub returns-in-Ok : goal.returns-in-Ok
returns-in-Ok c table is below =
    let a = c.args.arrays.now in
    let i = c.args.leaf in
    let q = own_text a table is i below in
    let four : i * 4 + 4 - i * 4 ≡ 4 = omega arith in
    let turned : i * 4 ≡ 4 * i = omega arith in
    let entry =
    c.in_ok-entry.ensures (omega arith) (omega (arith, q.within)) ∙ ap (λ n. take n (drop (i * 4) a.texts.now)) four ∙ ap (λ k. take 4 (drop k a.texts.now)) turned ∙ q.entry in
    let same = c.in_ok-bytes.ensures q.before _ entry q.placed in
    text_there a table is i below ∙ ap (λ t. Some t) (sym same) ∙ ap (λ t. Some t) (sym c.in-Ok.ensures.cases.0)

pub returns-in-Err : goal.returns-in-Err
returns-in-Err c table is below =
    let a = c.args.arrays.now in
    let i = c.args.leaf in
    let q = own_text a table is i below in
    let four : i * 4 + 4 - i * 4 ≡ 4 = omega arith in
    let turned : i * 4 ≡ 4 * i = omega arith in
    let entry =
    c.in_ok-entry.ensures (omega arith) (omega (arith, q.within)) ∙ ap (λ n. take n (drop (i * 4) a.texts.now)) four ∙ ap (λ k. take 4 (drop k a.texts.now)) turned ∙ q.entry in
    let same = c.in_ok-bytes.ensures q.before _ entry q.placed in
    c.in-Err.ensures.cases.0 (subst IsUtf8 (sym same) q.text_utf8)
