use Rattle.std.proofs.Common.{arith}
use Rattle.compose_client.proofs.Keysyms.{each_is_keysym}
use Rattle.compose_client.proofs.laws.are_keysyms.Goals as goal

pub returns : goal.returns
returns c = each_is_keysym c.args.keysyms.now (λ k h. c.loop-keysym.invariant k (omega arith))
