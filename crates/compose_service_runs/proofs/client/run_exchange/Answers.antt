use Rattle.std.proofs.Common.{◌∙◌, ap, subst, refl, inl, rules, ℕ, List}
use Rattle.compose_session.specs.ReplyLine.{reported}
use Rattle.compose_wire.specs.declared.reply.Reply.{Reply}
use Rattle.compose_wire.specs.declared.request.Request.{Request}
use Rattle.compose_service_runs.specs.Turns.{then_turns, turns_of}
use Rattle.compose_input.specs.declared.fault.Fault.TheVariants.{NoMemory}
use Rattle.compose_service_runs.specs.Clients.{FailsExchange}
use Rattle.compose_service_runs.proofs.Underway.{with_fault}
use Rattle.compose_service_runs.proofs.client.run_exchange.Goals as goal

pub returns-clause-exchange : goal.returns-clause-exchange
returns-clause-exchange g c =
    let sent = c.args.sent in let before = g.P.Peer.turns c.args.peer.now in let replies = c.in_ok-replies.replies.items in
    record {
      replies = replies;
      turns = c.in_ok-replies.ensures.turns ∙ ap (λ (requests : List Request). then_turns before (turns_of requests replies)) c.deref.ensures.value;
      report = c.in_ok-report.report;
      is_report =
          c.in_ok-report.ensures
          ∙ (ap (λ (requests : List Request). reported sent.names requests c.deref-3.result.now) c.deref-2.ensures.value ∙ ap (reported sent.names sent.requests.items) c.deref-3.ensures.value);
      printed = c.in_ok-printed.printed;
      is_printed = c.in_ok-printed.ensures;
      noted = c.with_notes.ensures;
    }

pub returns-in_err-replies-clause-fault : goal.returns-in_err-replies-clause-fault
returns-in_err-replies-clause-fault g c =
    let fault = c.in_err-replies.field-0.0 in let fails = FailsExchange g.P.Peer.turns g.P.Peer.gives in
    with_fault c.from_residual.result fault (fails c.args.sent.requests.items c.args.peer.now) (search rules)
    (subst (λ (requests : List Request). fails requests c.args.peer.now fault) c.deref.ensures.value c.in_err-replies.ensures.fault)

pub returns-in_err-report-clause-fault : goal.returns-in_err-report-clause-fault
returns-in_err-report-clause-fault g c =
    with_fault c.from_residual-in_err-report.result NoMemory (FailsExchange g.P.Peer.turns g.P.Peer.gives c.args.sent.requests.items c.args.peer.now) (search rules) (inl refl)

pub returns-in_err-printed-clause-fault : goal.returns-in_err-printed-clause-fault
returns-in_err-printed-clause-fault g c =
    with_fault c.from_residual-in_err-printed.result NoMemory (FailsExchange g.P.Peer.turns g.P.Peer.gives c.args.sent.requests.items c.args.peer.now) (search rules) (inl refl)
