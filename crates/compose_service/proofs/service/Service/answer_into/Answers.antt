use Rattle.std.proofs.Common.{sym, ap, subst}
use Rattle.compose_machine.specs.Machine.{ServiceState}
use Rattle.compose_machine.specs.Late.{AreKept}
use Rattle.compose_wire.specs.Messages.{Body}
use Rattle.compose_wire.specs.Requests.{body_of}
use Rattle.compose_service.specs.Answered.{Answered}
use Rattle.compose_service.proofs.Answering.{answered_stored, answered_step}
use Rattle.compose_service.proofs.service.Service.answer_into.Goals as goal

pub returns-clause-stored : goal.returns-clause-stored
returns-clause-stored g c =
    answered_stored c.args.self.now c.args.request.now.session (body_of c.args.request.now.body) c.body_into.new.answer c.body_into.new.self c.body_into.ensures

pub returns-clause-step : goal.returns-clause-step
returns-clause-step g c =
    answered_step c.args.self.now c.args.request.now.session (body_of c.args.request.now.body) c.body_into.new.answer c.body_into.new.self
    (subst (λ (s : ServiceState). AreKept s.table s.sessions) c.self.view_is c.self.invariant) c.body_into.ensures

pub returns-in-Key-clause-stored : goal.returns-in-Key-clause-stored
returns-in-Key-clause-stored g c =
    let n = c.args.request.now.session in
    let answered : Answered c.args.self.now n (body_of c.args.request.now.body) c.key_into.new.answer c.key_into.new.self =
    subst (λ (b : Body). Answered c.args.self.now n b c.key_into.new.answer c.key_into.new.self) (ap body_of (sym c.in-Key.is)) c.key_into.ensures in
    answered_stored c.args.self.now n (body_of c.args.request.now.body) c.key_into.new.answer c.key_into.new.self answered

pub returns-in-Key-clause-step : goal.returns-in-Key-clause-step
returns-in-Key-clause-step g c =
    let n = c.args.request.now.session in
    let answered : Answered c.args.self.now n (body_of c.args.request.now.body) c.key_into.new.answer c.key_into.new.self =
    subst (λ (b : Body). Answered c.args.self.now n b c.key_into.new.answer c.key_into.new.self) (ap body_of (sym c.in-Key.is)) c.key_into.ensures in
    answered_step c.args.self.now n (body_of c.args.request.now.body) c.key_into.new.answer c.key_into.new.self (subst (λ (s : ServiceState). AreKept s.table s.sessions) c.self.view_is c.self.invariant) answered
