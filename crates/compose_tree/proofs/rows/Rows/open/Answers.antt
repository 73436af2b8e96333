use Rattle.std.proofs.Common.{◌++◌, ◌∷◌, [], ◌∙◌, ap, length, arith}
use Rattle.compose_tree.specs.Rows.{NodeRow}
use Rattle.compose_tree.proofs.Gathering.{rows_count, row_opened}
use Rattle.compose_tree.proofs.rows.Rows.open.Goals as goal

pub overflow_cast-node : goal.overflow_cast-node
overflow_cast-node c =
    let n = rows_count 0 c.self.inside.depths.items c.self.inside.edges.items in
    let m = ap length c.self.view_is in
    omega (arith, n, m, c.requires)

pub returns : goal.returns
returns c =
    let row : NodeRow = record { depth = c.args.depth; edges = c.args.edge ∷ [] } in
    row_opened c.self.inside.depths.items c.push.new.self.items c.self.inside.edges.items c.push-2.new.self.items c.args.depth c.len-node.result c.args.edge c.self.invariant
    (omega arith) c.in_ok-push.ensures.items c.in_ok-push-2.ensures.items
    ∙ ap (λ rows. rows ++ row ∷ []) c.self.view_is
