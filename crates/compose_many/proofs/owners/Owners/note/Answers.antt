use Rattle.std.proofs.Common.{List, sym, subst}
use Rattle.compose_many.specs.Owners.{EachOnce}
use Rattle.compose_many.specs.declared.owners.Owner.{Owner}
use Rattle.compose_many.proofs.Once.{once_noted}
use Rattle.compose_many.proofs.owners.Owners.note.Goals as goal

pub invariant_of-self : goal.invariant_of-self
invariant_of-self c =
    subst (λ (os : List Owner). EachOnce os) (sym c.note.ensures)
    (once_noted c.args.number c.args.request.now.session c.self.inside.list.items c.args.request.now.body c.args.reply.now.answer c.self.invariant)
