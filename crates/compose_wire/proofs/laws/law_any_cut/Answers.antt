use Rattle.compose_wire.proofs.AnyCut.{any_cut}
use Rattle.compose_wire.proofs.laws.law_any_cut.Goals as goal

pub returns : goal.returns
returns c = any_cut
