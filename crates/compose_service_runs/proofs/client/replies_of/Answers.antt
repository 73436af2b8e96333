use Rattle.std.proofs.Common.{◌∙◌, ap, sym, refl, inl, inr, rules, [], ◌∷◌}
use Rattle.std.specs.Prelude.{None, Some, Option}
use Rattle.compose_wire.specs.declared.reply.Reply.{Reply}
use Rattle.compose_input.specs.declared.fault.Fault.TheVariants.{NoMemory}
use Rattle.compose_service_runs.specs.Turns.{then_turns}
use Rattle.compose_service_runs.specs.Clients.{FailsExchange}
use Rattle.compose_service_runs.proofs.Underway.{turn, next_answered, next_closed, next_fails, all_answered, with_fault}
use Rattle.compose_service_runs.proofs.client.replies_of.Goals as goal

pub returns-in_default-clause-turns : goal.returns-in_default-clause-turns
returns-in_default-clause-turns g c =
    let turns = g.P.Peer.turns in let now = turns c.loop-request.peer in let q = c.request-item.result in
    next_closed (turns c.args.peer.now) now (turns c.ask.new.self) c.args.requests.now c.loop-request.request-index q c.loop-request.replies.items c.loop-request.invariant c.loop-request-test.true c.request-item.is
    (c.in_ok-reply.ensures.reply ∙ ap (λ (r : Option Reply). then_turns now (turn q r ∷ [])) c.in_default.is)

pub loop-request-preserved : goal.loop-request-preserved
loop-request-preserved g c =
    let turns = g.P.Peer.turns in let now = turns c.loop-request.peer in let q = c.request-item.result in
    rw c.in_ok-push.ensures.items
    (next_answered (turns c.args.peer.now) now (turns c.ask.new.self) c.args.requests.now c.loop-request.request-index q c.loop-request.replies.items c.in-Some.reply c.loop-request.invariant c.loop-request-test.true c.request-item.is (sym c.if-is_refused.ensures)
    (c.in_ok-reply.ensures.reply ∙ ap (λ (r : Option Reply). then_turns now (turn q r ∷ [])) c.in-Some.is))

pub returns-clause-turns : goal.returns-clause-turns
returns-clause-turns g c =
    all_answered (g.P.Peer.turns c.args.peer.now) (g.P.Peer.turns c.loop-request.peer) c.args.requests.now c.loop-request.request-index c.loop-request.replies.items c.loop-request.invariant c.loop-request-test.false

pub returns-in_err-reply-clause-fault : goal.returns-in_err-reply-clause-fault
returns-in_err-reply-clause-fault g c =
    let turns = g.P.Peer.turns in let gives = g.P.Peer.gives in let fault = c.in_err-reply.field-0.0 in
    with_fault c.from_residual.result fault (FailsExchange turns gives c.args.requests.now c.args.peer.now) (search rules)
    (inr (next_fails turns gives c.args.peer.now c.loop-request.peer c.args.requests.now c.loop-request.request-index c.request-item.result c.loop-request.replies.items fault
    c.loop-request.invariant c.loop-request-test.true c.request-item.is c.in_err-reply.ensures.fault))

pub returns-in_err-push-clause-fault : goal.returns-in_err-push-clause-fault
returns-in_err-push-clause-fault g c =
    with_fault c.from_residual-in_err-push.result NoMemory (FailsExchange g.P.Peer.turns g.P.Peer.gives c.args.requests.now c.args.peer.now) (search rules) (inl refl)
