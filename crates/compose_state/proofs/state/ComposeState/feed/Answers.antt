use Rattle.std.proofs.Common.{◌≡◌, ◌∙◌, ap, sym, None, rules}
use Rattle.compose_tree.specs.Targets.{target_of}
use Rattle.compose_state.proofs.Feeding.{fed_apart, answered_apart}
use Rattle.compose_state.proofs.state.ComposeState.feed.Goals as goal

pub returns-in-Some-clause-reported : goal.returns-in-Some-clause-reported
returns-in-Some-clause-reported g c = c.follow.ensures.reported c.args.names.now

pub returns-in-None-clause-state : goal.returns-in-None-clause-state
returns-in-None-clause-state g c =
    let table = g.T.ComposeTable.definitions c.args.table.now in
    let leads : target_of table c.args.self.now.pending c.args.keysym ≡ None = search rules in
    c.feed_apart.ensures.state ∙ fed_apart table c.args.self.now c.args.keysym (sym c.is_ignored.ensures ∙ c.if-is_ignored.false) leads

pub returns-in-None-clause-reported : goal.returns-in-None-clause-reported
returns-in-None-clause-reported g c =
    let table = g.T.ComposeTable.definitions c.args.table.now in
    let leads : target_of table c.args.self.now.pending c.args.keysym ≡ None = search rules in
    answered_apart table c.args.self.now c.args.keysym (sym c.is_ignored.ensures ∙ c.if-is_ignored.false) leads c.args.names.now c.feed_apart.result
    c.feed_apart.ensures.accepted (c.feed_apart.ensures.status ∙ ap (λ s. s.status) c.feed_apart.ensures.state) c.feed_apart.ensures.text c.feed_apart.ensures.source
