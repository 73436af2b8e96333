use Rattle.std.proofs.Common.{◌≡◌, ℕ, List}
use Rattle.compose_skip.specs.Places.{visit}
use Rattle.compose_skip.proofs.Parts.{fault_from}
use Rattle.compose_skip.proofs.line.events_fault.Given as goal

abbrev pub invariant-loop-index : goal.invariant-loop-index
invariant-loop-index l = (bytes : List ℕ) → fault_from l.names (visit l.place bytes) l.events l.index ≡ fault_from l.names (visit l.place bytes) l.events 0
