use Rattle.std.proofs.Common.{◌<◌, [], length, ◌∙◌, ap, arith}
use Rattle.compose_model.specs.Nodes.{nodes, node}
use Rattle.compose_walk.specs.Stands.{partners_at}
use Rattle.compose_walk.proofs.Nodes.{node_skipped, nodes_done, standing, dark, found_next, found_dark, partner_read}
use Rattle.compose_walk.proofs.pass.Pass.run.Goals as goal

pub loop-number-preserved-in_default : goal.loop-number-preserved-in_default
loop-number-preserved-in_default g c =
    let names = c.args.names.now in
    let old = g.T.ComposeTable.definitions c.args.old.now in
    let new = g.U.ComposeTable.definitions c.args.new.now in
    let below : c.loop-number.number < length (nodes old) = omega (arith, c.node_count-number-end.ensures.count) in
    let none =
    dark names old new c.requires.table (node old c.loop-number.number)
    (partner_read names old new c.requires.table c.loop-number.number below c.loop-number.pass.stands.items c.loop-number.invariant.stands c.index.result.now c.index.ensures
    ∙ c.in_default.is) in
    record {
      stands = c.loop-number.invariant.stands ∙ node_skipped names old new c.requires.table c.loop-number.number below none;
      found =
          found_next names c.args.fresh.now old new c.loop-number.number c.loop-number.pass.found.items c.loop-number.pass.found.items below c.loop-number.invariant.found
          (found_dark names old new (node old c.loop-number.number) c.loop-number.pass.found.items none);
    }

pub loop-number-preserved : goal.loop-number-preserved
loop-number-preserved g c =
    let old = g.T.ComposeTable.definitions c.args.old.now in
    let below : c.loop-number.number < length (nodes old) = omega (arith, c.node_count-number-end.ensures.count) in
    record {
      stands = c.in_ok-take_node.ensures.stands;
      found =
          found_next c.args.names.now c.args.fresh.now old
          (g.U.ComposeTable.definitions c.args.new.now) c.loop-number.number c.loop-number.pass.found.items
          c.take_node.new.self.found.items below c.loop-number.invariant.found c.in_ok-take_node.ensures.found;
    }

pub take_node-requires-clause-new_in_range : goal.take_node-requires-clause-new_in_range
take_node-requires-clause-new_in_range g c =
    let names = c.args.names.now in
    let old = g.T.ComposeTable.definitions c.args.old.now in
    let new = g.U.ComposeTable.definitions c.args.new.now in
    let below : c.loop-number.number < length (nodes old) = omega (arith, c.node_count-number-end.ensures.count) in
    (standing names old new c.requires.table (node old c.loop-number.number) c.in-Some.stand
    (partner_read names old new c.requires.table c.loop-number.number below c.loop-number.pass.stands.items c.loop-number.invariant.stands c.index.result.now c.index.ensures
    ∙ c.in-Some.is)).in_range

pub take_node-requires-clause-agree : goal.take_node-requires-clause-agree
take_node-requires-clause-agree g c =
    let names = c.args.names.now in
    let old = g.T.ComposeTable.definitions c.args.old.now in
    let new = g.U.ComposeTable.definitions c.args.new.now in
    let below : c.loop-number.number < length (nodes old) = omega (arith, c.node_count-number-end.ensures.count) in
    (standing names old new c.requires.table (node old c.loop-number.number) c.in-Some.stand
    (partner_read names old new c.requires.table c.loop-number.number below c.loop-number.pass.stands.items c.loop-number.invariant.stands c.index.result.now c.index.ensures ∙ c.in-Some.is)).agree

pub take_node-requires-clause-together : goal.take_node-requires-clause-together
take_node-requires-clause-together g c =
    let names = c.args.names.now in
    let old = g.T.ComposeTable.definitions c.args.old.now in
    let new = g.U.ComposeTable.definitions c.args.new.now in
    let below : c.loop-number.number < length (nodes old) = omega (arith, c.node_count-number-end.ensures.count) in
    (standing names old new c.requires.table (node old c.loop-number.number) c.in-Some.stand
    (partner_read names old new c.requires.table c.loop-number.number below c.loop-number.pass.stands.items c.loop-number.invariant.stands c.index.result.now c.index.ensures
    ∙ c.in-Some.is)).together

pub returns-clause-stands : goal.returns-clause-stands
returns-clause-stands g c =
    let names = c.args.names.now in
    let old = g.T.ComposeTable.definitions c.args.old.now in
    let new = g.U.ComposeTable.definitions c.args.new.now in
    c.loop-number.invariant.stands ∙ ap (λ n. partners_at names old new n []) (omega (arith, c.node_count-number-end.ensures.count)) ∙ nodes_done names old new c.requires.table
