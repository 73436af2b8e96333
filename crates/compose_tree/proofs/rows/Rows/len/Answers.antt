use Rattle.std.proofs.Common.{ap, length, arith}
use Rattle.compose_tree.proofs.Gathering.{rows_count}
use Rattle.compose_tree.proofs.rows.Rows.len.Goals as goal

pub returns : goal.returns
returns c =
    let n = rows_count 0 c.self.inside.depths.items c.self.inside.edges.items in
    let m = ap length c.self.view_is in
    omega (arith, n, m)
