use Rattle.std.proofs.Common.{arith, ap, ◌∙◌, take, subst, ◌≡◌}
use Rattle.std.proofs.lemmas.Int.Digits.{digits_more, digits_value_more}
use Rattle.std.proofs.lemmas.Grind.{common_steps}
use Rattle.std.specs.Str.Parse.{AllDigits, digits_value}
use Rattle.compose_text.proofs.Digits.{fewer_than_eight, list_all-from_all_digits}
use Rattle.compose_text.proofs.numeral.hexadecimal.Goals as goal

pub overflow_mul-number : goal.overflow_mul-number
overflow_mul-number c =
    let small = fewer_than_eight c.args.digits.now c.loop-digit.digit-index c.requires c.loop-digit-test.true c.loop-digit.invariant.0 in
    grind (arith, common_steps)

pub overflow_add-number : goal.overflow_add-number
overflow_add-number c =
    let small = fewer_than_eight c.args.digits.now c.loop-digit.digit-index c.requires c.loop-digit-test.true c.loop-digit.invariant.0 in
    let digit = c.in_ok-value.ensures.0 in
    grind (arith, common_steps)

pub loop-digit-preserved : goal.loop-digit-preserved
loop-digit-preserved c =
    let ds = c.args.digits.now in
    let i = c.loop-digit.digit-index in
    let digit = c.in_ok-value.ensures in
    (digits_more 16 ds i c.loop-digit-test.true c.loop-digit.invariant.0 (grind (arith, common_steps)), rw (digits_value_more 16 ds i c.loop-digit-test.true) (grind (arith, common_steps)))

pub returns : goal.returns
returns c =
    let ds = c.args.digits.now in
    let whole : take c.loop-digit.digit-index ds ≡ ds = grind (arith, common_steps) in
    let all : AllDigits 16 ds = subst (AllDigits 16) whole c.loop-digit.invariant.0 in
    let test = list_all-from_all_digits ds all in
    let number : c.loop-digit.number ≡ digits_value 16 ds = c.loop-digit.invariant.1 ∙ ap (digits_value 16) whole in
    grind (arith, common_steps)
