use Rattle.std.proofs.Common.{arith}
use Rattle.compose_lex.proofs.Firsts.{cut_first}
use Rattle.compose_lex.proofs.lexer.result_at.Goals as goal

pub range_from-requires : goal.range_from-requires
range_from-requires c =
    λ _. cut_first c.args.rest.now c.as_bytes.result.now c.in-Some-eq34.field-0.now c.utf8.rest c.as_bytes.ensures.value c.in-Some-eq34.ensures.value (omega (arith, c.in-Some-eq34.field-0-test))
