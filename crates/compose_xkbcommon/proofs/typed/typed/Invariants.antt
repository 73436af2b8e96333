use Rattle.std.proofs.Common.{◌-◌, length}
use Rattle.compose_xkbcommon.proofs.Escapes.{Types}
use Rattle.compose_xkbcommon.proofs.typed.typed.Given as goal

abbrev pub invariant-loop-first : goal.invariant-loop-first
invariant-loop-first l = Types l.raw l.at l.bytes.items

abbrev pub decreases-loop-first : goal.decreases-loop-first
decreases-loop-first l = length l.raw - l.at
