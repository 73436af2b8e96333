use Rattle.std.proofs.Common.{◌≡◌, [], None, true, false, sym, ◌∙◌, ap, rules}
use Rattle.compose_model.specs.Nodes.{is_node}
use Rattle.compose_model.proofs.NodeLemmas.{pending_is_node, root_is_node}
use Rattle.compose_state.specs.NodeIds.{node_id}
use Rattle.compose_state.proofs.PathNodes.{no_node}
use Rattle.compose_state.proofs.state.ComposeState.refeed_to_node.Goals as goal

pub returns-in-None-clause-node : goal.returns-in-None-clause-node
returns-in-None-clause-node g c =
    let table = g.T.ComposeTable.definitions c.args.table.now in
    let found : node_id table c.refeed_pending.new.self.pending ≡ None = search rules in
    let none = no_node table c.refeed_pending.new.self.pending found in
    let clash : true ≡ false = sym (ap (is_node table) (ap (λ s. s.pending) c.refeed_pending.ensures) ∙ pending_is_node table [] c.args.self.now.pending (root_is_node table)) ∙ none in
    cc
