use Rattle.compose_find.proofs.Held.{finds_bytes}
use Rattle.compose_find.proofs.law.law_held.Goals as goal

pub returns : goal.returns
returns c = finds_bytes
