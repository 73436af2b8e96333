use Rattle.std.proofs.Common.{arith}
use Rattle.compose_lex.proofs.Firsts.{cut_first}
use Rattle.compose_find.proofs.percent.meaning_at.Goals as goal

pub range_from-requires : goal.range_from-requires
range_from-requires c =
    λ _. cut_first c.args.behind.now c.as_bytes.result.now c.in-Some-eq37.field-0.now c.utf8.behind c.as_bytes.ensures.value c.in-Some-eq37.ensures.value (omega (arith, c.in-Some-eq37.field-0-test))

pub range_from-requires-in-Some-eq83 : goal.range_from-requires-in-Some-eq83
range_from-requires-in-Some-eq83 c =
    λ _. cut_first c.args.behind.now c.as_bytes.result.now c.in-Some-eq83.field-0.now c.utf8.behind c.as_bytes.ensures.value c.in-Some-eq83.ensures.value (omega (arith, c.in-Some-eq83.field-0-test))

pub range_from-requires-in-Some-eq76 : goal.range_from-requires-in-Some-eq76
range_from-requires-in-Some-eq76 c =
    λ _. cut_first c.args.behind.now c.as_bytes.result.now c.in-Some-eq76.field-0.now c.utf8.behind c.as_bytes.ensures.value c.in-Some-eq76.ensures.value (omega (arith, c.in-Some-eq76.field-0-test))

pub range_from-requires-in-Some-eq72 : goal.range_from-requires-in-Some-eq72
range_from-requires-in-Some-eq72 c =
    λ _. cut_first c.args.behind.now c.as_bytes.result.now c.in-Some-eq72.field-0.now c.utf8.behind c.as_bytes.ensures.value c.in-Some-eq72.ensures.value (omega (arith, c.in-Some-eq72.field-0-test))
