use Rattle.compose_lex.proofs.Strings.{Inside}
use Rattle.compose_xkbcommon.proofs.tokens.inside_at.Given as goal

-- the raw text is what was read, and then the raw text of the rest
abbrev pub invariant-loop-at : goal.invariant-loop-at
invariant-loop-at l = Inside l.rest l.taken l.at
