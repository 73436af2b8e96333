use Rattle.compose_laws.proofs.Makes.{makes, makes_none}
use Rattle.compose_laws.proofs.law_make.Goals as goal

pub returns : goal.returns
returns c = record { certified = makes; none = makes_none }
