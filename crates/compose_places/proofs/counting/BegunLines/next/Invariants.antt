use Rattle.std.proofs.Common.{◌≡◌, take}
use Rattle.std.specs.Prelude.{filter}
use Rattle.compose_places.specs.Counting.{begins_definition}
use Rattle.compose_places.proofs.counting.BegunLines.next.Given as goal

-- the lines that are left are those that were left at first
abbrev pub invariant-loop-self : goal.invariant-loop-self
invariant-loop-self l = filter (λ v. begins_definition v.bytes) (take l.self-inside.left l.self-inside.visits) ≡ l.fn.self

abbrev pub decreases-loop-self : goal.decreases-loop-self
decreases-loop-self l = l.self-inside.left
