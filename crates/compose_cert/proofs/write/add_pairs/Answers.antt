use Rattle.std.proofs.Common.{arith}
use Rattle.compose_cert.proofs.Written.{pair_added, numbers_left}
use Rattle.compose_cert.proofs.write.add_pairs.Goals as goal

pub loop-pair-preserved : goal.loop-pair-preserved
loop-pair-preserved c = (
  pair_added _ _ _ c.args.pairs.now c.loop-pair.pair-index (omega arith) c.in_ok-write.ensures.bytes c.loop-pair.invariant.0,
  numbers_left c.args.pairs.now c.loop-pair.pair-index _ (omega arith) (omega arith) (omega arith) c.loop-pair.invariant.1,
)
