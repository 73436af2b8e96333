use Rattle.std.proofs.Common.{string_bytes}
use Rattle.compose_lex.proofs.QuoteRuns.{Quoted}
use Rattle.compose_lex.proofs.quotes.push_inside.Given as goal

abbrev pub invariant-loop-at : goal.invariant-loop-at
invariant-loop-at l = Quoted l.text (string_bytes l.fn.quoted) (string_bytes l.quoted) l.done l.at
