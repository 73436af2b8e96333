use Rattle.compose_diff.proofs.Gone.{source_is_gone}
use Rattle.compose_diff.proofs.law_gone.Goals as goal

pub returns : goal.returns
returns c = source_is_gone
