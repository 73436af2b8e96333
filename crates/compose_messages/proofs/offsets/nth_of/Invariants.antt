use Rattle.std.proofs.Common.{◌≡◌, ◌+◌, drop}
use Rattle.compose_messages.specs.Places.{nth_of}
use Rattle.compose_messages.proofs.offsets.nth_of.Given as goal

-- the wanted byte comes this much further on
abbrev pub invariant-loop-at : goal.invariant-loop-at
invariant-loop-at l = l.at + nth_of l.byte l.left (drop l.at l.line) ≡ nth_of l.byte l.count l.line
