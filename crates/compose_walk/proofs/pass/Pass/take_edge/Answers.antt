use Rattle.std.proofs.Common.{refl, ◌∙◌, arith}
use Rattle.compose_model.specs.Nodes.{node}
use Rattle.compose_tree.proofs.Steps.{target_fed}
use Rattle.compose_walk.proofs.Edges.{partners_if_differs, partners_at_leaf, child_below, partners_at_child, found_if_differs, found_unless_differs}
use Rattle.compose_walk.proofs.pass.Pass.take_edge.Goals as goal

pub key_step-old_step-requires-clause-fed : goal.key_step-old_step-requires-clause-fed
key_step-old_step-requires-clause-fed g c =
    target_fed (g.T.ComposeTable.definitions c.args.old.now)
    (node (g.T.ComposeTable.definitions c.args.old.now) c.args.node.0) c.edge-keysym.result.0 c.edge-keysym.result.1 c.requires.table c.edge-keysym.ensures.target

pub key_step-new_step-requires-clause-fed : goal.key_step-new_step-requires-clause-fed
key_step-new_step-requires-clause-fed g c =
    target_fed (g.T.ComposeTable.definitions c.args.old.now)
    (node (g.T.ComposeTable.definitions c.args.old.now) c.args.node.0) c.edge-keysym.result.0 c.edge-keysym.result.1 c.requires.table c.edge-keysym.ensures.target

pub returns-then-is_some-clause-stands : goal.returns-then-is_some-clause-stands
returns-then-is_some-clause-stands g c =
    partners_if_differs c.args.names.now (g.T.ComposeTable.definitions c.args.old.now)
    (g.U.ComposeTable.definitions c.args.new.now) c.requires.table c.args.node.0 c.args.new_node.0 c.args.index c.edge-keysym.result.0 c.edge-keysym.result.1
    c.requires.in_range c.requires.new_in_range c.edge-keysym.ensures.keysym c.edge-keysym.ensures.target c.requires.agree c.requires.together c.args.self.now.stands.items c.requires.stands
    c.key_step-old_step.result c.key_step-new_step.result c.key_step-old_step.ensures.step c.key_step-new_step.ensures.step (cc)

pub returns-then-is_some-clause-found : goal.returns-then-is_some-clause-found
returns-then-is_some-clause-found g c = λ m h.
    (c.in_ok-push.ensures.items
    ∙ found_if_differs c.args.names.now (g.T.ComposeTable.definitions c.args.old.now)
    (g.U.ComposeTable.definitions c.args.new.now) c.requires.table c.args.node.0 c.args.new_node.0 c.args.index c.edge-keysym.result.0 c.edge-keysym.result.1
    c.requires.in_range c.requires.new_in_range c.edge-keysym.ensures.keysym c.edge-keysym.ensures.target c.requires.agree c.requires.together c.args.self.now.stands.items c.requires.stands
    c.key_step-old_step.result c.key_step-new_step.result c.key_step-old_step.ensures.step c.key_step-new_step.ensures.step (cc) c.args.self.now.found.items _ c.depth.ensures.value refl refl m h)

pub returns-in_default-clause-stands : goal.returns-in_default-clause-stands
returns-in_default-clause-stands g c =
    partners_at_leaf c.args.names.now (g.T.ComposeTable.definitions c.args.old.now)
    (g.U.ComposeTable.definitions c.args.new.now) c.requires.table c.args.node.0 c.args.new_node.0 c.args.index c.edge-keysym.result.0 c.edge-keysym.result.1
    c.requires.in_range c.requires.new_in_range c.edge-keysym.ensures.keysym c.edge-keysym.ensures.target c.requires.agree c.requires.together c.args.self.now.stands.items c.requires.stands
    c.key_step-old_step.result c.key_step-new_step.result c.key_step-old_step.ensures.step c.key_step-new_step.ensures.step c.in_default.not-Node

pub returns-in_default-clause-found : goal.returns-in_default-clause-found
returns-in_default-clause-found g c =
    found_unless_differs c.args.names.now (g.T.ComposeTable.definitions c.args.old.now)
    (g.U.ComposeTable.definitions c.args.new.now) c.requires.table c.args.node.0 c.args.new_node.0 c.args.index c.edge-keysym.result.0 c.edge-keysym.result.1
    c.requires.in_range c.requires.new_in_range c.edge-keysym.ensures.keysym c.edge-keysym.ensures.target c.requires.agree c.requires.together c.args.self.now.stands.items c.requires.stands
    c.key_step-old_step.result c.key_step-new_step.result c.key_step-old_step.ensures.step c.key_step-new_step.ensures.step (cc) c.args.self.now.found.items

pub index_mut-requires : goal.index_mut-requires
index_mut-requires g c =
    let below =
    child_below c.args.names.now (g.T.ComposeTable.definitions c.args.old.now)
    (g.U.ComposeTable.definitions c.args.new.now) c.requires.table c.args.node.0 c.args.new_node.0 c.args.index c.edge-keysym.result.0 c.edge-keysym.result.1
    c.requires.in_range c.requires.new_in_range c.edge-keysym.ensures.keysym c.edge-keysym.ensures.target c.requires.agree c.requires.together c.args.self.now.stands.items c.requires.stands
    c.key_step-old_step.result c.key_step-new_step.result c.key_step-old_step.ensures.step c.key_step-new_step.ensures.step c.in-Node.child c.in-Node.is in
    omega (arith, c.args.self.now.stands.ok.0)

pub returns-clause-stands : goal.returns-clause-stands
returns-clause-stands g c =
    partners_at_child c.args.names.now (g.T.ComposeTable.definitions c.args.old.now)
    (g.U.ComposeTable.definitions c.args.new.now) c.requires.table c.args.node.0 c.args.new_node.0 c.args.index c.edge-keysym.result.0 c.edge-keysym.result.1
    c.requires.in_range c.requires.new_in_range c.edge-keysym.ensures.keysym c.edge-keysym.ensures.target c.requires.agree c.requires.together c.args.self.now.stands.items c.requires.stands
    c.key_step-old_step.result c.key_step-new_step.result c.key_step-old_step.ensures.step c.key_step-new_step.ensures.step c.in-Node.child _ c.in-Node.is (cc) refl refl refl

pub returns-clause-found : goal.returns-clause-found
returns-clause-found g c =
    found_unless_differs c.args.names.now (g.T.ComposeTable.definitions c.args.old.now)
    (g.U.ComposeTable.definitions c.args.new.now) c.requires.table c.args.node.0 c.args.new_node.0 c.args.index c.edge-keysym.result.0 c.edge-keysym.result.1
    c.requires.in_range c.requires.new_in_range c.edge-keysym.ensures.keysym c.edge-keysym.ensures.target c.requires.agree c.requires.together c.args.self.now.stands.items c.requires.stands
    c.key_step-old_step.result c.key_step-new_step.result c.key_step-old_step.ensures.step c.key_step-new_step.ensures.step (cc) c.args.self.now.found.items
