use Rattle.std.proofs.Common.{arith}
use Rattle.compose_lex.proofs.Firsts.{cut_first}
use Rattle.compose_lex.proofs.lexer.next_at.Goals as goal

pub range_from-requires : goal.range_from-requires
range_from-requires c =
    λ _. cut_first c.args.rest.now c.as_bytes.result.now c.in-Some-eq58.field-0.now c.utf8.rest c.as_bytes.ensures.value c.in-Some-eq58.ensures.value (omega (arith, c.in-Some-eq58.field-0-test))

pub range_from-requires-in-Some-eq60 : goal.range_from-requires-in-Some-eq60
range_from-requires-in-Some-eq60 c =
    λ _. cut_first c.args.rest.now c.as_bytes.result.now c.in-Some-eq60.field-0.now c.utf8.rest c.as_bytes.ensures.value c.in-Some-eq60.ensures.value (omega (arith, c.in-Some-eq60.field-0-test))
