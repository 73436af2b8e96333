use Rattle.compose_wire.proofs.Stream.{one_stream}
use Rattle.compose_wire.proofs.laws.law_one_stream.Goals as goal

pub returns : goal.returns
returns c = one_stream
