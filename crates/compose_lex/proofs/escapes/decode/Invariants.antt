use Rattle.std.proofs.Common.{◌-◌, length}
use Rattle.compose_lex.proofs.Decodes.{Decodes}
use Rattle.compose_lex.proofs.escapes.decode.Given as goal

abbrev pub invariant-loop-first : goal.invariant-loop-first
invariant-loop-first l = Decodes l.raw l.at l.kept.items l.len

abbrev pub decreases-loop-first : goal.decreases-loop-first
decreases-loop-first l = length l.raw - l.at
