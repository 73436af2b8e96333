use Rattle.std.proofs.Common.{refl, sym, ◌∙◌, ap, eqb-true, Some}
use Rattle.compose_model.specs.Nodes.{node}
use Rattle.compose_walk.proofs.NodeNumbers.{root_at_zero, not_root}
use Rattle.compose_walk.proofs.Stepped.{step_to_node, step_to_leaf, step_at_rest, step_breaks, to_leaf_below}
use Rattle.compose_walk.proofs.step.key_step.Goals as goal

pub text-requires : goal.text-requires
text-requires g c =
    let table = g.T.ComposeTable.definitions c.args.table.now in
    to_leaf_below table (node table c.args.node.0) c.args.key c.in-Leaf.leaf (ap Some (sym c.in-Leaf.is) ∙ sym c.in-Some.is ∙ c.requires.target)

pub returns-in-Node-clause-step : goal.returns-in-Node-clause-step
returns-in-Node-clause-step g c =
    let table = g.T.ComposeTable.definitions c.args.table.now in
    step_to_node c.args.names.now table (node table c.args.node.0) c.args.key c.requires.fed c.in-Node.next (ap Some (sym c.in-Node.is) ∙ sym c.in-Some.is ∙ c.requires.target) _ refl refl refl

pub returns-in-Leaf-clause-step : goal.returns-in-Leaf-clause-step
returns-in-Leaf-clause-step g c =
    let table = g.T.ComposeTable.definitions c.args.table.now in
    step_to_leaf c.args.names.now table (node table c.args.node.0) c.args.key c.requires.fed c.in-Leaf.leaf c.text.result.now
    (ap Some (sym c.in-Leaf.is) ∙ sym c.in-Some.is ∙ c.requires.target) c.text.ensures.value _ refl refl refl

pub returns-then-eq-clause-step : goal.returns-then-eq-clause-step
returns-then-eq-clause-step g c =
    let table = g.T.ComposeTable.definitions c.args.table.now in
    step_at_rest c.args.names.now table (node table c.args.node.0) c.args.key c.requires.fed (sym c.in_default.is ∙ c.requires.target)
    (root_at_zero table c.args.node.0 (eqb-true c.args.node.0 0 (sym c.eq.ensures ∙ c.if-eq.true))) _ refl c.own_text.ensures.text refl

pub returns-else-eq-clause-step : goal.returns-else-eq-clause-step
returns-else-eq-clause-step g c =
    let table = g.T.ComposeTable.definitions c.args.table.now in
    step_breaks c.args.names.now table (node table c.args.node.0) c.args.key c.requires.fed (sym c.in_default.is ∙ c.requires.target)
    (not_root table c.args.node.0 c.requires.node_in_range (sym c.eq.ensures ∙ c.if-eq.false)) _ refl refl refl
