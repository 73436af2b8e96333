use Rattle.std.proofs.Common.{arith}
use Rattle.compose_wire.proofs.Sizes.{are_bytes}
use Rattle.compose_client.proofs.request.with_payload.Goals as goal

pub returns-clause-fits : goal.returns-clause-fits
returns-clause-fits c = (omega arith, are_bytes c.args.payload.now c.type_inv.payload)
