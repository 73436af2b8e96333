use Rattle.compose_lint.proofs.AcceptAgain.{accepts_all}
use Rattle.compose_lint.proofs.law_accept_text.Goals as goal

pub returns : goal.returns
returns c rows = accepts_all rows
