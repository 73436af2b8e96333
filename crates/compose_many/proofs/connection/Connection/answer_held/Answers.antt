use Rattle.std.proofs.Common.{[], ◌∷◌, ◌++◌, false}
use Rattle.compose_many.specs.Connection.{answers}
use Rattle.compose_many.proofs.Happening.{loads-more}
use Rattle.compose_many.proofs.Answering.{answers_more, owned_more, stays_open, answers_stop}
use Rattle.compose_many.proofs.connection.Connection.answer_held.Goals as goal

pub answers-preserved : goal.answers-preserved
answers-preserved g c =
    let so = c.answers.invariant.so in
    let next = c.in-Ok.ensures in
    record {
      so = (
        so.0 ++ answers next.0 ∷ [],
        answers_more c.args.limit g.S.Responder.reading (g.S.Responder.state c.args.service.now) c.args.self.now (g.S.Responder.state c.answers.service)
            (g.S.Responder.state c.answer_next.new.service) c.answers.self c.answer_next.new.self so.0 so.1 next.0 next.1 next.2,
        loads-more so.0 next.0 0 false next.3 so.2,
        owned_more c.args.limit g.S.Responder.reading (g.S.Responder.state c.args.service.now) c.args.self.now (g.S.Responder.state c.answers.service)
            (g.S.Responder.state c.answer_next.new.service) c.answers.self c.answer_next.new.self so.0 so.1 c.args.number c.args.owners.now.list c.answers.owners.list c.answer_next.new.owners.list so.3 next.0 next.4,
      );
      goes_on = stays_open c.args.limit c.answers.self c.answer_next.new.self next.0 next.1;
    }

pub returns-in-Err : goal.returns-in-Err
returns-in-Err g c =
    let so = c.answers.invariant.so in
    answers_stop c.args.limit g.S.Responder.reading (g.S.Responder.state c.args.service.now) c.args.self.now (g.S.Responder.state c.answers.service)
    (g.S.Responder.state c.answer_next.new.service) c.answers.self c.answer_next.new.self so.0 so.1 c.args.number c.args.owners.now.list c.answers.owners.list c.answer_next.new.owners.list so.3 c.in-Err.stop so.2 c.in-Err.ensures
