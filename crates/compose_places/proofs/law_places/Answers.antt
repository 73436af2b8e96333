use Rattle.compose_places.proofs.Decided.{definition_lines_exact, as_many}
use Rattle.compose_places.proofs.law_places.Goals as goal

pub returns : goal.returns
returns c = record { lines = definition_lines_exact; as_many = as_many }
