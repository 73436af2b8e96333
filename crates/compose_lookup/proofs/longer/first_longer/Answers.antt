use Rattle.std.specs.Prelude.{Some, None}
use Rattle.compose_model.specs.Nodes.{node}
use Rattle.compose_lookup.proofs.Shorter.{first_is, leaf_within}
use Rattle.compose_lookup.proofs.longer.first_longer.Goals as goal

pub returns-in-Some : goal.returns-in-Some
returns-in-Some g c =
    let table = g.T.ComposeTable.definitions c.args.table.now in
    let settled = c.node_count.ensures.settled in
    let p = node table c.args.node.0 in record {
      sequence = first_is table settled p (Some c.in-Some.found) c.in-Some.ensures;
      in_table = leaf_within table settled p c.in-Some.found c.in-Some.ensures;
    }

pub returns-in-None : goal.returns-in-None
returns-in-None g c =
    let table = g.T.ComposeTable.definitions c.args.table.now in record { sequence = first_is table c.node_count.ensures.settled (node table c.args.node.0) None c.in-None.ensures; in_table = tt }
