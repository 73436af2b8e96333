use Rattle.std.proofs.Common.{◌∙◌, sym}
use Rattle.compose_model.specs.Nodes.{node, edges}
use Rattle.compose_check.specs.Conditions.{one_edge_conditions}
use Rattle.compose_fresh.proofs.Unmet.{unmet_at, met_at, none_left}
use Rattle.compose_check.proofs.edges.check_pair.Goals as goal

pub returns-in-Some : goal.returns-in-Some
returns-in-Some g c =
    let old = g.T.ComposeTable.definitions c.args.old.now in
    let new = g.U.ComposeTable.definitions c.args.new.now in
    let u = node old c.args.pair.old.0 in
    sym
    (unmet_at (one_edge_conditions c.args.names.now old new c.args.certificate.now.pairs c.args.pair.index u (node new c.args.pair.new.0))
    (edges old u) c.loop-edge.edge c.edge-keysym.result.0 c.in-Some.fault c.edge-keysym.ensures.keysym (sym c.check_edge.ensures ∙ c.in-Some.is))
    ∙ c.loop-edge.invariant

pub loop-edge-preserved : goal.loop-edge-preserved
loop-edge-preserved g c =
    let old = g.T.ComposeTable.definitions c.args.old.now in
    let new = g.U.ComposeTable.definitions c.args.new.now in
    let u = node old c.args.pair.old.0 in
    met_at (one_edge_conditions c.args.names.now old new c.args.certificate.now.pairs c.args.pair.index u (node new c.args.pair.new.0))
    (edges old u) c.loop-edge.edge c.edge-keysym.result.0 c.edge-keysym.ensures.keysym (sym c.check_edge.ensures ∙ none_left c.check_edge.result c.in_default.not-Some)
    ∙ c.loop-edge.invariant
