use Rattle.compose_lex.proofs.Codes.{Code}
use Rattle.compose_lex.proofs.escapes.code_of.Given as goal

abbrev pub invariant-loop-len : goal.invariant-loop-len
invariant-loop-len l = Code l.radix l.value l.bytes l.len
