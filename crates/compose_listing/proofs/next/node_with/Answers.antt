use Rattle.std.proofs.Common.{◌≡◌, ◌∙◌, ◌<◌, [], length, sym, ap, subst, arith, rules}
use Rattle.std.specs.Prelude.{Option, Some, None, MatchOption}
use Rattle.std.proofs.lemmas.List.{take_all}
use Rattle.compose_model.specs.Nodes.{nodes, node as at, edges}
use Rattle.compose_model.proofs.NodeLemmas.{node_zero}
use Rattle.compose_tree.specs.declared.table.NodeId.{NodeId}
use Rattle.compose_tree.proofs.Lookups.{some_node}
use Rattle.compose_listing.proofs.Followed.{follow_nowhere, follow_no_leaf, to_next}
use Rattle.compose_listing.proofs.next.node_with.Goals as goal

pub loop-keysym-init : goal.loop-keysym-init
loop-keysym-init g c =
    let table = g.T.ComposeTable.definitions c.args.table.now in let some : 0 < length (nodes table) = omega (arith, some_node table) in record { within = some; walked = node_zero table }

pub returns-in_err-next : goal.returns-in_err-next
returns-in_err-next g c =
    let table = g.T.ComposeTable.definitions c.args.table.now in
    let keys = c.args.keys.now in
    let is : c.from_residual.result ≡ None = search rules in
    subst (λ (o : Option NodeId). MatchOption o (edges table keys ≡ []) (λ node. (node.0 < length (nodes table)) × (at table node.0 ≡ keys))) (sym is)
    (follow_nowhere table c.node_count.ensures.settled keys c.loop-keysym.keysym-index c.keysym-item.result c.loop-keysym.node.0 c.loop-keysym-test.true (sym c.keysym-item.is)
    c.loop-keysym.invariant.walked (sym c.in_err-next.was ∙ c.step.ensures))

pub returns-in-Leaf : goal.returns-in-Leaf
returns-in-Leaf g c =
    follow_no_leaf (g.T.ComposeTable.definitions c.args.table.now) c.node_count.ensures.settled c.args.keys.now c.loop-keysym.keysym-index c.keysym-item.result c.loop-keysym.node.0 c.loop-keysym-test.true
    (sym c.keysym-item.is) c.loop-keysym.invariant.walked c.in-Leaf.field-0 (sym (c.in_ok-next.was ∙ ap Some c.in-Leaf.is) ∙ c.step.ensures)

pub loop-keysym-preserved : goal.loop-keysym-preserved
loop-keysym-preserved g c =
    let next = to_next (g.T.ComposeTable.definitions c.args.table.now) c.node_count.ensures.settled c.args.keys.now c.loop-keysym.keysym-index c.keysym-item.result c.loop-keysym.node.0
    c.loop-keysym-test.true (sym c.keysym-item.is) c.loop-keysym.invariant.walked c.in-Node.next (sym (c.in_ok-next.was ∙ ap Some c.in-Node.is) ∙ c.step.ensures) in
    record { within = next.0; walked = next.1 }

pub returns : goal.returns
returns g c = (c.loop-keysym.invariant.within, c.loop-keysym.invariant.walked ∙ take_all c.loop-keysym.keysym-index c.args.keys.now c.loop-keysym-test.false)
