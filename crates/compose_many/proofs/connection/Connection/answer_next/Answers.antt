use Rattle.std.proofs.Common.{◌≡◌, ◌+◌, ◌∙◌, ◌++◌, ◌≤◌, List, refl, sym, ap, subst, length, Result, arith}
use Rattle.compose_many.specs.Owners.{owners_noted}
use Rattle.compose_many.specs.declared.owners.Owner.{Owner}
use Rattle.compose_wire.specs.Requests.{request_of}
use Rattle.compose_wire.specs.Frames.{reply_bytes}
use Rattle.compose_machine.specs.Laws.{is_load}
use Rattle.compose_many.specs.Connection.{ConnectionState, max_reply}
use Rattle.compose_many.specs.Steps.{OneAnswered, NextAs}
use Rattle.compose_many.specs.declared.connection.Stop.{Stop}
use Rattle.compose_many.proofs.Answering.{next_answered, next_reported}
use Rattle.compose_many.proofs.Owning.{noted_is}
use Rattle.compose_many.proofs.connection.Connection.answer_next.Goals as goal

pub returns : goal.returns
returns g c =
    let so = c.in-Ok.ensures in
    let reported = c.answer_into.ensures in
    let bytes : c.as_slice.result.now ≡ reply_bytes reported.0 = c.as_slice.ensures.value ∙ c.put_reply.ensures.value reported.0 reported.2 in
    let before : ConnectionState = record { held = c.self.inside.feeder; unsent = c.self.inside.unsent.items; answered = c.self.inside.answered; refused = c.self.inside.refused } in
    let after : ConnectionState = record { held = c.first_request.new.feeder; unsent = c.append-2.new.bytes.items; answered = c.self.inside.answered + 1; refused = c.self.inside.refused } in
    let old = g.S.Responder.state c.args.service.now in
    let new = g.S.Responder.state c.answer_into.new.self in
    let kind = is_load (request_of c.in-Ok.request).body in
    let owners = c.args.owners.now.list in
    let owners' = c.note.new.self.list in
    subst (λ (r : Result (Unit {0}) Stop). NextAs c.args.limit c.args.number owners owners' g.S.Responder.reading old new c.args.self.now after r) (sym c.after_reply.ensures)
    (next_reported c.args.limit c.args.number owners owners' g.S.Responder.reading old new c.args.self.now after kind
    (subst (λ (o : ConnectionState). OneAnswered c.args.limit c.args.number owners owners' g.S.Responder.reading old new o after kind) c.self.view_is
    (next_answered c.args.limit c.args.number owners owners' g.S.Responder.reading old new before c.first_request.new.feeder c.append-2.new.bytes.items (request_of c.in-Ok.request) reported.0 kind
    (ap (λ (o : ConnectionState). o.refused) c.self.view_is ∙ c.requires) (omega arith) (omega arith) so.so.0 so.so.1 reported.1
    (c.append-2.ensures ∙ ap (λ y. y ++ c.as_slice.result.now) so.items ∙ ap (λ y. c.self.inside.unsent.items ++ y) bytes)
    (subst (λ y. length y ≤ max_reply) bytes c.as_slice.ensures.fits) refl
    (c.note.ensures ∙ ap (λ (o : List Owner). owners_noted c.args.number c.in-Ok.request.session o c.in-Ok.request.body c.answer_into.new.reply.answer) so.owners
    ∙ noted_is c.args.number c.in-Ok.request.session owners c.in-Ok.request.body c.answer_into.new.reply.answer reported.0.answer reported.2.1))))
