use Rattle.std.proofs.Common.{sym, ◌∙◌}
use Rattle.compose_model.specs.Nodes.{node}
use Rattle.compose_walk.proofs.NodeNumbers.{node_is_node}
use Rattle.compose_walk.proofs.Nodes.{standing}
use Rattle.compose_walk.proofs.Traces.{some_partner, some_difference, evidence_is}
use Rattle.compose_walk.proofs.pass.Pass.evidence.Goals as goal

pub step-new_target-requires : goal.step-new_target-requires
step-new_target-requires g c =
    let names = c.args.names.now in
    let old = g.T.ComposeTable.definitions c.args.old.now in
    let new = g.U.ComposeTable.definitions c.args.new.now in
    let at =
    sym
    (some_partner names old new c.requires.table c.args.found.node c.requires.in_range c.requires.agree c.args.self.now.stands.items c.requires.stands c.index-slot.result.now c.index-slot.ensures)
    ∙ c.unwrap-stand.ensures in
    (standing names old new c.requires.table (node old c.args.found.node) c.unwrap-stand.result at).in_range

pub key_step-new_step-requires-clause-node_in_range : goal.key_step-new_step-requires-clause-node_in_range
key_step-new_step-requires-clause-node_in_range g c =
    let names = c.args.names.now in
    let old = g.T.ComposeTable.definitions c.args.old.now in
    let new = g.U.ComposeTable.definitions c.args.new.now in
    let at =
    sym
    (some_partner names old new c.requires.table c.args.found.node c.requires.in_range c.requires.agree c.args.self.now.stands.items c.requires.stands c.index-slot.result.now c.index-slot.ensures)
    ∙ c.unwrap-stand.ensures in
    (standing names old new c.requires.table (node old c.args.found.node) c.unwrap-stand.result at).in_range

pub counterexample-requires-clause-differ : goal.counterexample-requires-clause-differ
counterexample-requires-clause-differ g c =
    let names = c.args.names.now in
    let old = g.T.ComposeTable.definitions c.args.old.now in
    let new = g.U.ComposeTable.definitions c.args.new.now in
    let at =
    sym
    (some_partner names old new c.requires.table c.args.found.node c.requires.in_range c.requires.agree c.args.self.now.stands.items c.requires.stands c.index-slot.result.now c.index-slot.ensures)
    ∙ c.unwrap-stand.ensures in
    let expected = standing names old new c.requires.table (node old c.args.found.node) c.unwrap-stand.result at in
    some_difference names old new (node old c.args.found.node) (node new c.unwrap-stand.result.new_node.0) c.args.found.keysym (node_is_node old c.args.found.node c.requires.in_range)
    (node_is_node new c.unwrap-stand.result.new_node.0 expected.in_range) expected.together
    c.key_step-old_step.result c.key_step-new_step.result c.key_step-old_step.ensures.step c.key_step-new_step.ensures.step c.requires.differ

pub returns : goal.returns
returns g c =
    let names = c.args.names.now in
    let old = g.T.ComposeTable.definitions c.args.old.now in
    let new = g.U.ComposeTable.definitions c.args.new.now in
    let at =
    sym
    (some_partner names old new c.requires.table c.args.found.node c.requires.in_range c.requires.agree c.args.self.now.stands.items c.requires.stands c.index-slot.result.now c.index-slot.ensures)
    ∙ c.unwrap-stand.ensures in
    let expected = standing names old new c.requires.table (node old c.args.found.node) c.unwrap-stand.result at in
    evidence_is names old new (node old c.args.found.node) (node new c.unwrap-stand.result.new_node.0) c.args.found.keysym (node_is_node old c.args.found.node c.requires.in_range)
    (node_is_node new c.unwrap-stand.result.new_node.0 expected.in_range) expected.together
    c.key_step-old_step.result c.key_step-new_step.result c.key_step-old_step.ensures.step c.key_step-new_step.ensures.step
    c.counterexample.result (c.counterexample.ensures.keys ∙ c.keys_to-keys.ensures) c.counterexample.ensures.kind c.counterexample.ensures.old_text c.counterexample.ensures.new_text
