use Rattle.std.proofs.Common.{length}
use Rattle.compose_many.proofs.Owning.{ClosedSoFar}
use Rattle.compose_many.proofs.owners.close_each.Given as goal

abbrev pub invariant-owners : goal.invariant-owners
invariant-owners g l = ClosedSoFar l.number g.A.Responder.reading (g.A.Responder.state l.fn.service) (g.A.Responder.state l.service) l.owners l.rest

abbrev pub decreases-owners : goal.decreases-owners
decreases-owners g l = length l.rest
