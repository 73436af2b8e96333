use Rattle.std.proofs.Common.{sym, ◌∙◌, ap}
use Rattle.std.specs.Prelude.{is_some}
use Rattle.compose_model.specs.Nodes.{node}
use Rattle.compose_tree.proofs.Steps.{target_fed}
use Rattle.compose_walk.proofs.NodeNumbers.{node_is_node}
use Rattle.compose_compare.proofs.Placed.{stood_below, still_lost, now_lost, position_next}
use Rattle.compose_compare.proofs.passes.node_after.Goals as goal

pub returns-in_default : goal.returns-in_default
returns-in_default g c =
    let old = g.T.ComposeTable.definitions c.args.old.now in
    let new = g.U.ComposeTable.definitions c.args.new.now in
    still_lost c.args.names.now old new (node old c.args.node.0) c.args.keysym c.requires.table (node_is_node old c.args.node.0 c.requires.in_range) (sym c.in_default.is ∙ c.requires.stand)

pub step-requires : goal.step-requires
step-requires g c =
    let old = g.T.ComposeTable.definitions c.args.old.now in
    stood_below c.args.names.now old (g.U.ComposeTable.definitions c.args.new.now) (node old c.args.node.0) c.in-Some.there (sym c.in-Some.is ∙ c.requires.stand)

pub key_step-old_step-requires-clause-fed : goal.key_step-old_step-requires-clause-fed
key_step-old_step-requires-clause-fed g c =
    target_fed (g.T.ComposeTable.definitions c.args.old.now) (node (g.T.ComposeTable.definitions c.args.old.now) c.args.node.0) c.args.keysym c.args.target c.requires.table c.requires.target

pub key_step-new_step-requires-clause-node_in_range : goal.key_step-new_step-requires-clause-node_in_range
key_step-new_step-requires-clause-node_in_range g c =
    let old = g.T.ComposeTable.definitions c.args.old.now in
    stood_below c.args.names.now old (g.U.ComposeTable.definitions c.args.new.now) (node old c.args.node.0) c.in-Some.there (sym c.in-Some.is ∙ c.requires.stand)

pub key_step-new_step-requires-clause-fed : goal.key_step-new_step-requires-clause-fed
key_step-new_step-requires-clause-fed g c =
    target_fed (g.T.ComposeTable.definitions c.args.old.now) (node (g.T.ComposeTable.definitions c.args.old.now) c.args.node.0) c.args.keysym c.args.target c.requires.table c.requires.target

pub returns-then-is_some : goal.returns-then-is_some
returns-then-is_some g c =
    let old = g.T.ComposeTable.definitions c.args.old.now in
    let new = g.U.ComposeTable.definitions c.args.new.now in
    now_lost c.args.names.now old new (node old c.args.node.0) c.args.keysym c.requires.table (node_is_node old c.args.node.0 c.requires.in_range) c.in-Some.there (sym c.in-Some.is ∙ c.requires.stand)
    c.key_step-old_step.result c.key_step-new_step.result c.key_step-old_step.ensures.step c.key_step-new_step.ensures.step
    (ap is_some (sym c.difference.ensures) ∙ sym c.is_some.ensures ∙ c.if-is_some.true)

pub returns : goal.returns
returns g c =
    let old = g.T.ComposeTable.definitions c.args.old.now in
    let new = g.U.ComposeTable.definitions c.args.new.now in
    position_next c.args.names.now old new (node old c.args.node.0) c.args.keysym c.requires.table (node_is_node old c.args.node.0 c.requires.in_range) c.in-Some.there
    (sym c.in-Some.is ∙ c.requires.stand)
    c.key_step-old_step.result c.key_step-new_step.result c.key_step-old_step.ensures.step c.key_step-new_step.ensures.step
    (ap is_some (sym c.difference.ensures) ∙ sym c.is_some.ensures ∙ c.if-is_some.false)
