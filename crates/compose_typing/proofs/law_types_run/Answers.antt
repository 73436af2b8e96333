use Rattle.compose_typing.proofs.Runs.{types_run}
use Rattle.compose_typing.proofs.law_types_run.Goals as goal

pub returns : goal.returns
returns c = types_run
