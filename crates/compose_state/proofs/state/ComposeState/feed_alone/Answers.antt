use Rattle.std.proofs.Common.{◌≡◌, ◌∙◌, ap, sym, None, rules}
use Rattle.compose_tree.specs.Targets.{target_of}
use Rattle.compose_state.proofs.Feeding.{fed_apart}
use Rattle.compose_state.proofs.Alone.{alone_apart, alone_to}
use Rattle.compose_state.proofs.state.ComposeState.feed_alone.Goals as goal

pub returns-in-Some-clause-reported : goal.returns-in-Some-clause-reported
returns-in-Some-clause-reported g c =
    let table = g.T.ComposeTable.definitions c.args.table.now in
    alone_to table c.args.self.now c.args.keysym (sym c.is_ignored-ignored.ensures ∙ c.if-ignored.false) c.in-Some.target (search rules) c.follow.result c.follow.ensures.reported

pub returns-in-None-clause-state : goal.returns-in-None-clause-state
returns-in-None-clause-state g c =
    let table = g.T.ComposeTable.definitions c.args.table.now in
    let leads : target_of table c.args.self.now.pending c.args.keysym ≡ None = search rules in
    c.break_off.ensures.state ∙ fed_apart table c.args.self.now c.args.keysym (sym c.is_ignored-ignored.ensures ∙ c.if-ignored.false) leads

pub returns-in-None-clause-reported : goal.returns-in-None-clause-reported
returns-in-None-clause-reported g c =
    let table = g.T.ComposeTable.definitions c.args.table.now in
    let leads : target_of table c.args.self.now.pending c.args.keysym ≡ None = search rules in
    alone_apart table c.args.self.now c.args.keysym (sym c.is_ignored-ignored.ensures ∙ c.if-ignored.false) leads c.break_off.result
    c.break_off.ensures.accepted (c.break_off.ensures.status ∙ ap (λ s. s.status) c.break_off.ensures.state) c.break_off.ensures.text
