use Rattle.std.proofs.Common.{◌≡◌, ◌∙◌, ap, sym, None, rules}
use Rattle.compose_model.specs.Session.{Session}
use Rattle.compose_tree.specs.Targets.{target_of}
use Rattle.compose_state.proofs.Feeding.{fed_apart}
use Rattle.compose_state.proofs.Alone.{alone_apart}
use Rattle.compose_c.specs.States.{session_of}
use Rattle.compose_c.proofs.feeding.feed.Goals as goal

pub returns-in-None-clause-state : goal.returns-in-None-clause-state
returns-in-None-clause-state g c =
    let table = g.T.ComposeTable.definitions c.args.table.now in
    let s : Session = session_of c.args.state.now in
    let leads : target_of table s.pending c.args.keysym ≡ None = search rules in
    c.break_off.ensures.state ∙ fed_apart table s c.args.keysym (sym c.is_ignored-ignored.ensures ∙ c.if-ignored.false) leads

pub returns-in-None-clause-reported : goal.returns-in-None-clause-reported
returns-in-None-clause-reported g c =
    let table = g.T.ComposeTable.definitions c.args.table.now in
    let s : Session = session_of c.args.state.now in
    let leads : target_of table s.pending c.args.keysym ≡ None = search rules in
    alone_apart table s c.args.keysym (sym c.is_ignored-ignored.ensures ∙ c.if-ignored.false) leads c.break_off.result
    c.break_off.ensures.accepted (c.break_off.ensures.status ∙ ap (λ s. s.status) c.break_off.ensures.state) c.break_off.ensures.text
