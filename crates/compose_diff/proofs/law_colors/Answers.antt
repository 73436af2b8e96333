use Rattle.compose_diff.proofs.Colored.{answer_back}
use Rattle.compose_diff.proofs.law_colors.Goals as goal

pub returns : goal.returns
returns c = answer_back
