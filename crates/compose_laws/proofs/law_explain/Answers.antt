use Rattle.compose_laws.proofs.Explained.{explains, explains_not}
use Rattle.compose_laws.proofs.law_explain.Goals as goal

pub returns : goal.returns
returns c = record { keeps = explains; differs = explains_not }
