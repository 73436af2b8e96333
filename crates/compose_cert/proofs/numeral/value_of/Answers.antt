use Rattle.std.proofs.Common.{arith}
use Rattle.compose_cert.proofs.Numerals.{digit_taken, too_great}
use Rattle.compose_cert.proofs.numeral.value_of.Goals as goal

pub returns-then-more-from : goal.returns-then-more-from
returns-then-more-from c =
    let word = c.args.word.now in
    let taken = digit_taken c.args.notation c.loop-byte.value c.in_ok-digit.digit c.loop-byte.byte-index word (omega arith) c.in_ok-digit.ensures c.loop-byte.invariant.1 c.loop-byte.invariant.2 in
    let great = rw (c.from.ensures, c.radix.ensures, c.from-in-loop-byte.ensures, c.from-in-loop-byte-2.ensures) at c.if-more-from.true in
    too_great c.args.notation c.args.most _ _ word great taken.1

pub loop-byte-preserved : goal.loop-byte-preserved
loop-byte-preserved c =
    let word = c.args.word.now in
    let taken = digit_taken c.args.notation c.loop-byte.value c.in_ok-digit.digit c.loop-byte.byte-index word (omega arith) c.in_ok-digit.ensures c.loop-byte.invariant.1 c.loop-byte.invariant.2 in
    let small = rw c.from-in-loop-byte-2.ensures at c.if-more-from.false in
    (small, taken.0, rw (c.from.ensures, c.radix.ensures, c.from-in-loop-byte.ensures) taken.1)
