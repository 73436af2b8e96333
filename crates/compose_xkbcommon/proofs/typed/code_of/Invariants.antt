use Rattle.compose_lex.proofs.Codes.{Code}
use Rattle.compose_xkbcommon.proofs.typed.code_of.Given as goal

abbrev pub invariant-loop-len : goal.invariant-loop-len
invariant-loop-len l = Code l.radix l.value l.bytes l.len
