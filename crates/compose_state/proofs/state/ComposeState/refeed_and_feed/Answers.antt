use Rattle.std.proofs.Common.{◌≡◌, ◌∙◌, ap, sym, None, Some, rules}
use Rattle.compose_model.specs.Session.{loaded}
use Rattle.compose_tree.specs.Targets.{target_of}
use Rattle.compose_state.proofs.PathNodes.{node_found}
use Rattle.compose_state.proofs.Feeding.{fed_apart, answered_apart, same_fed, same_answered}
use Rattle.compose_state.proofs.state.ComposeState.refeed_and_feed.Goals as goal

pub edge_after-requires : goal.edge_after-requires
edge_after-requires g c = (node_found (g.T.ComposeTable.definitions c.args.table.now) c.refed_node-node.new.self.pending c.refed_node-node.result c.refed_node-node.ensures.node).in_range

pub follow-requires-clause-leads : goal.follow-requires-clause-leads
follow-requires-clause-leads g c =
    let table = g.T.ComposeTable.definitions c.args.table.now in
    let is = (node_found table c.refed_node-node.new.self.pending c.refed_node-node.result c.refed_node-node.ensures.node).is in
    let found : target_of table c.refed_node-node.new.self.pending c.args.keysym ≡ Some c.in-Some.target = ap (λ p. target_of table p c.args.keysym) (sym is) ∙ search rules in
    found

pub returns-in-Some-clause-state : goal.returns-in-Some-clause-state
returns-in-Some-clause-state g c =
    let table = g.T.ComposeTable.definitions c.args.table.now in
    c.follow.ensures.state ∙ same_fed table c.refed_node-node.new.self (loaded table c.args.self.now) c.args.keysym (sym c.is_ignored.ensures ∙ c.if-is_ignored.false) c.refed_node-node.ensures.pending

pub returns-in-Some-clause-reported : goal.returns-in-Some-clause-reported
returns-in-Some-clause-reported g c =
    let table = g.T.ComposeTable.definitions c.args.table.now in
    same_answered table c.refed_node-node.new.self (loaded table c.args.self.now) c.args.keysym (sym c.is_ignored.ensures ∙ c.if-is_ignored.false) c.refed_node-node.ensures.pending
    c.args.names.now c.follow.result (c.follow.ensures.reported c.args.names.now)

pub returns-in-None-clause-state : goal.returns-in-None-clause-state
returns-in-None-clause-state g c =
    let table = g.T.ComposeTable.definitions c.args.table.now in
    let is = (node_found table c.refed_node-node.new.self.pending c.refed_node-node.result c.refed_node-node.ensures.node).is in
    let accepted = sym c.is_ignored.ensures ∙ c.if-is_ignored.false in
    let leads : target_of table c.refed_node-node.new.self.pending c.args.keysym ≡ None = ap (λ p. target_of table p c.args.keysym) (sym is) ∙ search rules in
    c.feed_apart.ensures.state ∙ fed_apart table c.refed_node-node.new.self c.args.keysym accepted leads
    ∙ same_fed table c.refed_node-node.new.self (loaded table c.args.self.now) c.args.keysym accepted c.refed_node-node.ensures.pending

pub returns-in-None-clause-reported : goal.returns-in-None-clause-reported
returns-in-None-clause-reported g c =
    let table = g.T.ComposeTable.definitions c.args.table.now in
    let is = (node_found table c.refed_node-node.new.self.pending c.refed_node-node.result c.refed_node-node.ensures.node).is in
    let accepted = sym c.is_ignored.ensures ∙ c.if-is_ignored.false in
    let leads : target_of table c.refed_node-node.new.self.pending c.args.keysym ≡ None = ap (λ p. target_of table p c.args.keysym) (sym is) ∙ search rules in
    same_answered table c.refed_node-node.new.self (loaded table c.args.self.now) c.args.keysym accepted c.refed_node-node.ensures.pending c.args.names.now c.feed_apart.result
    (answered_apart table c.refed_node-node.new.self c.args.keysym accepted leads c.args.names.now c.feed_apart.result
    c.feed_apart.ensures.accepted (c.feed_apart.ensures.status ∙ ap (λ s. s.status) c.feed_apart.ensures.state) c.feed_apart.ensures.text c.feed_apart.ensures.source)
