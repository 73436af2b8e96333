use Rattle.compose_promise.proofs.Yes.{kept}
use Rattle.compose_promise.proofs.law_yes.Goals as goal

pub returns : goal.returns
returns c = kept
