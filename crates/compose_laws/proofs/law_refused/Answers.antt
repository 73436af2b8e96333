use Rattle.compose_laws.proofs.Silent.{silent}
use Rattle.compose_laws.proofs.law_refused.Goals as goal

pub returns : goal.returns
returns c = silent
