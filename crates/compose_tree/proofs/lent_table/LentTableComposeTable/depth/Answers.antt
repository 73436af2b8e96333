use Rattle.std.proofs.Common.{arith}
use Rattle.compose_model.specs.Nodes.{node}
use Rattle.compose_tree.specs.declared.packed.PackedNode.{PackedNode}
use Rattle.compose_tree.proofs.Lookups.{node_few, node_listed}
use Rattle.compose_tree.proofs.PackedLookups.{packed_as, node_entries}
use Rattle.compose_tree.proofs.lent_table.LentTableComposeTable.depth.Goals as goal

pub bounds-self-inside-node : goal.bounds-self-inside-node
bounds-self-inside-node c =
    let p = packed_as c.self.inside.nodes.now c.self.inside.edges.now c.self.inside.texts.now c.self.inside.long_texts.now c.args.self.now c.self.invariant c.self.view_is in
    let within = (node_entries c.self.inside.nodes.now c.self.inside.edges.now c.self.inside.texts.now c.self.inside.long_texts.now c.args.self.now p c.args.node.0 c.requires).within in
    omega (arith, within)

pub returns-clause-value : goal.returns-clause-value
returns-clause-value c =
    let p = packed_as c.self.inside.nodes.now c.self.inside.edges.now c.self.inside.texts.now c.self.inside.long_texts.now c.args.self.now c.self.invariant c.self.view_is in
    let z : PackedNode = record { depth = 0; first = 0 } in
    (node_entries c.self.inside.nodes.now c.self.inside.edges.now c.self.inside.texts.now
    c.self.inside.long_texts.now c.args.self.now p c.args.node.0 c.requires).depth z

pub returns-clause-few : goal.returns-clause-few
returns-clause-few c =
    let p = packed_as c.self.inside.nodes.now c.self.inside.edges.now c.self.inside.texts.now c.self.inside.long_texts.now c.args.self.now c.self.invariant c.self.view_is in
    let z : PackedNode = record { depth = 0; first = 0 } in
    let e = (node_entries c.self.inside.nodes.now c.self.inside.edges.now c.self.inside.texts.now
    c.self.inside.long_texts.now c.args.self.now p c.args.node.0 c.requires).depth z in
    let few = node_few c.args.self.now (node c.args.self.now c.args.node.0) p.settled.definitions (node_listed c.args.self.now c.args.node.0 c.requires) in
    omega (arith, e, few)
