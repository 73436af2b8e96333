use Rattle.std.proofs.Common.{List, not, ◌==◌, sym, ap, subst}
use Rattle.compose_many.specs.Owners.{OwnersState, EachOnce, ClosesOwn}
use Rattle.compose_many.specs.declared.owners.Owner.{Owner}
use Rattle.compose_many.proofs.Once.{once_filter}
use Rattle.compose_many.proofs.Owning.{closes_as}
use Rattle.compose_many.proofs.owners.close_own.Goals as goal

pub invariant_of-owners : goal.invariant_of-owners
invariant_of-owners g c =
    subst (λ (os : List Owner). EachOnce os) (sym c.forget_all.ensures) (once_filter (λ (o : Owner). not (o.connection == c.args.number)) c.owners.inside.list.items c.owners.invariant)

pub returns : goal.returns
returns g c =
    let so = c.close_each.ensures in
    closes_as c.args.number g.A.Responder.reading (g.A.Responder.state c.args.service.now) (g.A.Responder.state c.close_each.new.service) c.owners.inside.list.items c.args.owners.now.list
    c.forget_all.new.owners.items c.owners.invariant (ap (λ (o : OwnersState). o.list) c.owners.view_is) c.forget_all.ensures so.0
    (subst (λ (os : List Owner). ClosesOwn c.args.number os so.0) c.as_slice.ensures.value so.1) so.2
