use Rattle.compose_diff.proofs.AcceptAgain.{accepts_all}
use Rattle.compose_diff.proofs.law_accept_text.Goals as goal

pub returns : goal.returns
returns c rows keyed = accepts_all rows keyed
