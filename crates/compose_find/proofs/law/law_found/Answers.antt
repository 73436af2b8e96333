use Rattle.compose_find.proofs.Followed.{finds_sources}
use Rattle.compose_find.proofs.law.law_found.Goals as goal

pub returns : goal.returns
returns c = finds_sources
