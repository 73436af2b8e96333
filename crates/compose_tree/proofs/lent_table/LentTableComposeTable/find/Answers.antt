use Rattle.std.proofs.Common.{sym, arith}
use Rattle.compose_model.specs.Nodes.{node}
use Rattle.compose_tree.proofs.Lookups.{edges_few}
use Rattle.compose_tree.proofs.PackedLookups.{keys_rise, step_none, index_read}
use Rattle.compose_tree.proofs.lent_table.LentTableComposeTable.find.Goals as goal

pub index_by_hints-requires : goal.index_by_hints-requires
index_by_hints-requires c = keys_rise c.args.self.now (node c.args.self.now c.args.node.0) c.edges_of.result.now c.edges_of.ensures.value

pub returns-in_default : goal.returns-in_default
returns-in_default c = sym (step_none c.args.self.now (node c.args.self.now c.args.node.0) c.args.keysym c.edges_of.result.now c.edges_of.ensures.value c.in_default.ensures)

pub overflow_cast-result : goal.overflow_cast-result
overflow_cast-result c =
    let x = node c.args.self.now c.args.node.0 in
    let few = edges_few c.args.self.now x c.edges_of.ensures.settled.definitions in
    let there = index_read c.args.self.now x c.args.keysym c.in-Some.index c.edges_of.result.now c.edges_of.ensures.value c.in-Some.ensures.0 c.in-Some.ensures.1 in
    omega (arith, few, there.0)

pub returns : goal.returns
returns c =
    index_read c.args.self.now (node c.args.self.now c.args.node.0) c.args.keysym c.in-Some.index c.edges_of.result.now c.edges_of.ensures.value c.in-Some.ensures.0 c.in-Some.ensures.1
