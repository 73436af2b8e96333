use Rattle.compose_promise.proofs.Runs.{keeps, follows}
use Rattle.compose_promise.proofs.law_keeps_typing.Goals as goal

pub returns : goal.returns
returns c = record { only = keeps; enough = follows }
