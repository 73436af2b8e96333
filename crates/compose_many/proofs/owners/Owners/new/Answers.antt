use Rattle.std.proofs.Common.{List, sym, subst}
use Rattle.compose_many.specs.Owners.{EachOnce}
use Rattle.compose_many.specs.declared.owners.Owner.{Owner}
use Rattle.compose_many.proofs.Once.{once_none}
use Rattle.compose_many.proofs.owners.Owners.new.Goals as goal

pub invariant_of-result : goal.invariant_of-result
invariant_of-result c = subst (λ (os : List Owner). EachOnce os) (sym c.new.ensures.items) once_none
