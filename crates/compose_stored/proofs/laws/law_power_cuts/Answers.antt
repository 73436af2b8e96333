use Rattle.compose_stored.proofs.Whole.{holds_whatever_is_lost}
use Rattle.compose_stored.proofs.laws.law_power_cuts.Goals as goal

pub returns : goal.returns
returns c = holds_whatever_is_lost
