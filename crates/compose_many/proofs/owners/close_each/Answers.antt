use Rattle.compose_many.proofs.Owning.{closed_more, closed_same, closed_all}
use Rattle.compose_many.proofs.owners.close_each.Goals as goal

pub owners-preserved-then-owner-number : goal.owners-preserved-then-owner-number
owners-preserved-then-owner-number g c =
    let so = c.close.ensures in
    closed_more c.args.number g.A.Responder.reading (g.A.Responder.state c.args.service.now) (g.A.Responder.state c.owners.service) c.args.owners.now c.owners.rest.now c.in-Some.before.now c.in-Some.owner.now
    c.in-Some.ensures.cases.0 c.owners.invariant (g.A.Responder.state c.close.new.service) c.if-owner-number.true so.0 so.1 so.2 so.3

pub owners-preserved : goal.owners-preserved
owners-preserved g c =
    closed_same c.args.number g.A.Responder.reading (g.A.Responder.state c.args.service.now) (g.A.Responder.state c.owners.service) c.args.owners.now c.owners.rest.now c.in-Some.before.now c.in-Some.owner.now
    c.in-Some.ensures.cases.0 c.owners.invariant c.if-owner-number.false

pub returns : goal.returns
returns g c =
    closed_all c.args.number g.A.Responder.reading (g.A.Responder.state c.args.service.now) (g.A.Responder.state c.owners.service) c.args.owners.now c.owners.rest.now c.in_default.ensures.cases c.owners.invariant
