use Rattle.std.proofs.Common.{sym, ◌∙◌, arith}
use Rattle.compose_state.proofs.PathNodes.{at_root, at_in_range, at_next, at_stop, typed_again}
use Rattle.compose_state.proofs.state.node_of.Goals as goal

pub loop-index-init : goal.loop-index-init
loop-index-init g c = at_root (g.T.ComposeTable.definitions c.args.table.now) c.args.keysyms.now

pub child_at-requires : goal.child_at-requires
child_at-requires g c = at_in_range (g.T.ComposeTable.definitions c.args.table.now) c.args.keysyms.now c.loop-index.index c.loop-index.node.0 c.loop-index.invariant

pub returns-in_err-node-clause-value : goal.returns-in_err-node-clause-value
returns-in_err-node-clause-value g c =
    c.from_residual.ensures ∙
    sym (at_stop (g.T.ComposeTable.definitions c.args.table.now) c.args.keysyms.now c.loop-index.index c.loop-index.node.0 c.index-keysyms-index.result c.index-keysyms-index.result
    c.loop-index.invariant c.loop-index-test.true c.index-keysyms-index.is (sym c.child_at.ensures ∙ c.in_err-node.was))

pub loop-index-preserved : goal.loop-index-preserved
loop-index-preserved g c =
    at_next (g.T.ComposeTable.definitions c.args.table.now) c.args.keysyms.now c.loop-index.index c.loop-index.node.0 c.index-keysyms-index.result c.index-keysyms-index.result c.in_ok-node.node
    c.loop-index.invariant c.loop-index-test.true c.index-keysyms-index.is (sym c.child_at.ensures ∙ c.in_ok-node.was)

pub returns-clause-again : goal.returns-clause-again
returns-clause-again g c some =
    typed_again (g.T.ComposeTable.definitions c.args.table.now) c.args.keysyms.now c.loop-index.index c.loop-index.node.0 c.node_count-nodes.ensures.settled.definitions c.loop-index.invariant
    (omega (arith, c.loop-index.auto.index-end))
