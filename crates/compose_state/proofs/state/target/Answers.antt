use Rattle.std.proofs.Common.{sym, ◌∙◌, ap, option_map}
use Rattle.compose_tree.specs.Targets.{target_of}
use Rattle.compose_state.proofs.PathNodes.{node_found, no_node, no_node_no_target}
use Rattle.compose_state.proofs.state.target.Goals as goal

pub returns-in_err-node-clause-value : goal.returns-in_err-node-clause-value
returns-in_err-node-clause-value g c =
    let table = g.T.ComposeTable.definitions c.args.table.now in
    ap (option_map (λ found. found.1)) c.from_residual.ensures
    ∙ sym (no_node_no_target table c.args.pending.now c.args.keysym (no_node table c.args.pending.now (sym c.node_of.ensures.value ∙ c.in_err-node.was)))

pub edge_after-requires : goal.edge_after-requires
edge_after-requires g c = (node_found (g.T.ComposeTable.definitions c.args.table.now) c.args.pending.now c.in_ok-node.node (sym c.node_of.ensures.value ∙ c.in_ok-node.was)).in_range

pub returns-clause-value : goal.returns-clause-value
returns-clause-value g c =
    let table = g.T.ComposeTable.definitions c.args.table.now in
    let is = (node_found table c.args.pending.now c.in_ok-node.node (sym c.node_of.ensures.value ∙ c.in_ok-node.was)).is in
    c.edge_after.ensures ∙ ap (λ p. target_of table p c.args.keysym) is
