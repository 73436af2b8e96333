use Rattle.std.proofs.Common.{◌<◌, length, get_or, ◌∙◌, ap, arith}
use Rattle.std.proofs.lemmas.List.{take_all}
use Rattle.compose_model.specs.Nodes.{node, edges}
use Rattle.compose_walk.specs.Pass.{differs_at}
use Rattle.compose_walk.specs.Stands.{partners_at, found_at}
use Rattle.compose_walk.proofs.Nodes.{found_more, slice_get_at, node_done}
use Rattle.compose_walk.proofs.pass.Pass.take_node.Goals as goal

pub loop-index-preserved : goal.loop-index-preserved
loop-index-preserved g c =
    let old = g.T.ComposeTable.definitions c.args.old.now in
    let es = edges old (node old c.args.node.0) in
    let below : c.loop-index.index < length es = omega (arith, c.edge_count-index-end.ensures) in
    let at = slice_get_at es c.loop-index.index below in
    record {
      stands = c.in_ok-take_edge.ensures.stands;
      found =
          found_more (found_at old (node old c.args.node.0)) (differs_at c.args.names.now old (g.U.ComposeTable.definitions c.args.new.now) (node old c.args.node.0)) es c.loop-index.index
          (get_or es c.loop-index.index 0)
          c.args.self.now.found.items c.loop-index.self.found.items c.take_edge.new.self.found.items at c.loop-index.invariant.found
          (c.in_ok-take_edge.ensures.found (get_or es c.loop-index.index 0) at);
    }

pub returns-clause-stands : goal.returns-clause-stands
returns-clause-stands g c =
    let old = g.T.ComposeTable.definitions c.args.old.now in
    let es = edges old (node old c.args.node.0) in
    c.loop-index.invariant.stands
    ∙ ap (partners_at c.args.names.now old (g.U.ComposeTable.definitions c.args.new.now) c.args.node.0) (take_all c.loop-index.index es (omega (arith, c.edge_count-index-end.ensures)))
    ∙ node_done c.args.names.now old (g.U.ComposeTable.definitions c.args.new.now) c.requires.table c.args.node.0 c.requires.in_range
