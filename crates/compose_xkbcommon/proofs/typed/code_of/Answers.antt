use Rattle.std.proofs.Common.{◌<◌, ◌+◌, ◌*◌, ap, ◌∙◌, arith}
use Rattle.std.specs.Char.{digit_value}
use Rattle.compose_lex.proofs.Codes.{Code, code_more}
use Rattle.compose_xkbcommon.proofs.typed.code_of.Goals as goal

-- the next digit keeps the value of the code small
next : (c : goal.In-Some) → (c.loop-len.value * c.args.radix + c.in-Some.digit < 4096) × Code c.args.radix (c.loop-len.value * c.args.radix + c.in-Some.digit) c.args.bytes.now (c.loop-len.len + 1)
next c =
    let same = ap digit_value c.from.ensures in
    code_more c.args.radix c.loop-len.value c.in-Some.digit c.args.bytes.now c.loop-len.len c.requires.high c.loop-len-test.true (omega (arith, c.in-Some.ensures.value.0, same))
    (c.in-Some.ensures.value.1 ∙ same) c.loop-len.invariant

pub overflow_mul-value : goal.overflow_mul-value
overflow_mul-value c = let n = next c in omega (arith, n.0)

pub overflow_add-value : goal.overflow_add-value
overflow_add-value c = let n = next c in omega (arith, n.0)

pub loop-len-preserved : goal.loop-len-preserved
loop-len-preserved c = let n = next c in n.1
