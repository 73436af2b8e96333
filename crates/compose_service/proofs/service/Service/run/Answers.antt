use Rattle.std.proofs.Common.{◌≡◌, List, [], ◌∷◌, ◌++◌, map, subst, arith, rules}
use Rattle.std.proofs.lemmas.List.{take_all}
use Rattle.compose_wire.specs.Requests.{request_of}
use Rattle.compose_wire.specs.declared.request.Request.{Request}
use Rattle.compose_machine.specs.Late.{seen}
use Rattle.compose_service.specs.Reading.{reading}
use Rattle.compose_service.proofs.Running.{Reported, run_more, none_yet}
use Rattle.compose_service.proofs.service.Service.run.Goals as goal

pub loop-request-init : goal.loop-request-init
loop-request-init g c = record {
  answered = none_yet reading (seen c.args.self.now) c.in-Ok.replies.items c.in-Ok.ensures.items;
  many = c.in-Ok.ensures.len;
  room = c.in-Ok.ensures.capacity;
}

pub loop-request-preserved : goal.loop-request-preserved
loop-request-preserved g c =
    let q = c.request-item.result in
    let pushed : c.push.new.self.items ≡ c.loop-request.replies.items ++ c.answer-reply.result ∷ [] = search rules in
    record {
      answered =
          run_more reading (seen c.args.self.now) (seen c.loop-request.self)
          (seen c.answer-reply.new.self) c.args.requests.now c.loop-request.request-index q q c.loop-request.replies.items c.push.new.self.items c.answer-reply.result
          c.loop-request-test.true c.request-item.is pushed c.loop-request.invariant.answered c.answer-reply.ensures.step;
      many = search rules;
      room = omega (arith, c.push.ensures.capacity);
    }

pub returns-clause-ok : goal.returns-clause-ok
returns-clause-ok g c =
    subst (λ (qs : List Request). Reported reading (seen c.args.self.now) (map request_of qs) c.loop-request.replies.items (seen c.loop-request.self))
    (take_all c.loop-request.request-index c.args.requests.now (omega arith)) c.loop-request.invariant.answered
