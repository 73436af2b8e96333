use Rattle.compose_lint.proofs.Blanks.{blank_at_end}
use Rattle.compose_lint.proofs.law_blank_at_end.Goals as goal

pub returns : goal.returns
returns c line b blank = blank_at_end line b blank
