use Rattle.compose_walk.proofs.Firsts.{first_difference, no_difference}
use Rattle.compose_walk.proofs.law_differences.Goals as goal

pub returns : goal.returns
returns c = record { first = first_difference; none = no_difference }
