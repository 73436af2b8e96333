use Rattle.std.proofs.Common.{◌<◌, ◌∙◌, ap, length, arith}
use Rattle.std.proofs.lemmas.List.Elements.{All-push}
use Rattle.compose_tree.specs.declared.edge.NodeEdge.{NodeEdge}
use Rattle.compose_tree.specs.Rows.{gathered_rows, with_edge}
use Rattle.compose_tree.proofs.Gathering.{rows_count, edge_gathered}
use Rattle.compose_tree.proofs.rows.Rows.push_edge.Goals as goal

pub invariant_of-self-2 : goal.invariant_of-self-2
invariant_of-self-2 c =
    let e : NodeEdge = record { node = c.args.node; edge = c.args.edge } in
    let ds = c.self.inside.depths.items in
    let n = rows_count 0 ds c.self.inside.edges.items in
    let m = ap length c.self.view_is in
    rw c.in_ok-push.ensures.items (All-push (λ (x : NodeEdge). x.node < length ds) c.self.inside.edges.items e c.self.invariant (omega (arith, n, m, c.requires)))

pub returns : goal.returns
returns c =
    let e : NodeEdge = record { node = c.args.node; edge = c.args.edge } in
    let ds = c.self.inside.depths.items in
    let n = rows_count 0 ds c.self.inside.edges.items in
    let m = ap length c.self.view_is in
    ap (gathered_rows 0 ds) c.in_ok-push.ensures.items ∙ edge_gathered ds c.self.inside.edges.items e (omega (arith, n, m, c.requires))
    ∙ ap (λ rows. with_edge rows c.args.node c.args.edge) c.self.view_is
