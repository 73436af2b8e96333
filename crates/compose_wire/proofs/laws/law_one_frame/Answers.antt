use Rattle.compose_wire.proofs.OneFrame.{one_frame}
use Rattle.compose_wire.proofs.laws.law_one_frame.Goals as goal

pub returns : goal.returns
returns c = one_frame
