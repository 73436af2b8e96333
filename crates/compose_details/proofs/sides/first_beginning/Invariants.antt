use Rattle.std.proofs.Common.{◌≡◌, drop}
use Rattle.compose_details.specs.Sides.{first_beginning}
use Rattle.compose_details.proofs.sides.first_beginning.Given as goal

-- the result depends on the remaining ones alone
abbrev pub invariant-loop-slot : goal.invariant-loop-slot
invariant-loop-slot l = first_beginning l.definitions l.keys (drop l.slot-index l.counting) ≡ first_beginning l.definitions l.keys l.counting
