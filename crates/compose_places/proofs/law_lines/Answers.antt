use Rattle.compose_places.proofs.CountingLaw.{are_lines}
use Rattle.compose_places.proofs.law_lines.Goals as goal

pub returns : goal.returns
returns c = are_lines
