use Rattle.std.proofs.Common.{◌∙◌, length, ap, arith}
use Rattle.compose_tree.proofs.Counts.{edges_few_in_all, edges_packed, numbers_few}
use Rattle.compose_tree.proofs.Lookups.{leaves_count}
use Rattle.compose_tree.proofs.packed_table.PackedTableBuildTable.build.Goals as goal

pub pack_nodes-requires-clause-few : goal.pack_nodes-requires-clause-few
pack_nodes-requires-clause-few c =
    let built = c.in_ok-rows.ensures in
    let few = edges_few_in_all c.args.sequences c.parts.result.0.now c.parts.result.1.now built.settled c.parts.ensures.at_nodes (c.parts.ensures.rows ∙ built.rows) in
    omega (arith, few, built.leaves)

pub pack_edges-requires-clause-numbers : goal.pack_edges-requires-clause-numbers
pack_edges-requires-clause-numbers c =
    let built = c.in_ok-rows.ensures in
    let leaves = leaves_count c.args.sequences built.settled in
    numbers_few c.args.sequences c.parts.result.0.now c.parts.result.1.now 2147483648 (omega (arith, built.few)) (omega (arith, built.leaves, leaves)) c.parts.ensures.at_nodes
    (c.parts.ensures.rows ∙ built.rows)

pub new-requires : goal.new-requires
new-requires c =
    let built = c.in_ok-rows.ensures in
    let few = edges_few_in_all c.args.sequences c.parts.result.0.now c.parts.result.1.now built.settled c.parts.ensures.at_nodes (c.parts.ensures.rows ∙ built.rows) in
    omega (arith, few, built.leaves)

pub from_arrays-requires-clause-hints : goal.from_arrays-requires-clause-hints
from_arrays-requires-clause-hints c =
    let packed = ap length c.in_ok-edges.ensures.edges ∙ edges_packed c.parts.result.0.now c.parts.result.1.now c.parts.ensures.at_nodes in
    omega (arith, packed, c.pack_edges.ensures.hints, c.in_ok-hints.ensures)
