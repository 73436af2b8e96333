use Rattle.compose_typing.proofs.Loads.{types_opening}
use Rattle.compose_typing.proofs.law_types_opening.Goals as goal

pub returns : goal.returns
returns c = types_opening
