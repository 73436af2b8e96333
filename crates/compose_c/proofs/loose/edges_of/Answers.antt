use Rattle.std.proofs.Common.{arith}
use Rattle.compose_c.proofs.LooseParts.{node_within, own_edges, on_some}
use Rattle.compose_c.proofs.loose.edges_of.Goals as goal

pub returns-then-number-arrays : goal.returns-then-number-arrays
returns-then-number-arrays c table is below = let within = node_within c.args.arrays.now table is c.args.node below in omega (arith, within, c.if-number-arrays.true)

pub returns : goal.returns
returns c table is below =
    let own = own_edges c.args.arrays.now table is c.args.node (record { depth = 0; first = 0 }) below in
    on_some _ _ c.part.result (c.part.ensures own.0 own.1) (λ x h. own.2 x.now h)
