use Rattle.std.proofs.Common.{arith, ap, length, length-append, encode_utf8}
use Rattle.std.proofs.lemmas.Str.{length-encode, len_utf8_bounds}
use Rattle.compose_walk.proofs.step.own_text.Goals as goal

pub push-requires : goal.push-requires
push-requires c = omega (arith, length-encode c.in-Some.character, len_utf8_bounds c.in-Some.character, ap length c.new-own.ensures)

pub returns-in-Some-clause-short : goal.returns-in-Some-clause-short
returns-in-Some-clause-short c =
    omega (
      arith,
      length-encode c.in-Some.character,
      len_utf8_bounds c.in-Some.character,
      ap length c.new-own.ensures,
      ap length c.push.ensures.bytes,
      length-append c.new-own.result.bytes
          (encode_utf8 c.in-Some.character),
    )
