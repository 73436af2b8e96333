use Rattle.std.proofs.Common.{◌∙◌, sym, subst}
use Rattle.compose_wire.specs.Messages as words
use Rattle.compose_wire.specs.declared.reply.ReplyBody.TheVariants.{Refused}
use Rattle.compose_machine.specs.Machine.{ServiceState, with_sessions}
use Rattle.compose_service.specs.Answered.{Answered}
use Rattle.compose_service.proofs.Answering.{answered_kept, key_no_session, key_bad}
use Rattle.compose_service.proofs.service.Service.refuse_key.Goals as goal

pub invariant_of-self : goal.invariant_of-self
invariant_of-self g c =
    let old : ServiceState =
    record {
      table = g.T.ComposeTable.definitions c.self.inside.table;
      names = c.self.inside.names;
      repertoire = c.self.inside.repertoire;
      allowed = c.self.inside.allowed;
      loads = c.self.inside.loads;
      sessions =
          c.self.inside.sessions;
    } in
    let n = c.args.number in
    answered_kept old n (words.key c.args.keysym) (Refused c.code.result) (with_sessions old c.refeed.new.self) c.self.invariant
    (key_no_session old n c.refeed.new.self c.refeed.ensures.value c.args.keysym c.code.result c.code.ensures (sym c.refeed.ensures.some ∙ c.if-not-refeed.true))

pub returns-then-not-refeed : goal.returns-then-not-refeed
returns-then-not-refeed g c =
    let old : ServiceState =
    record {
      table = g.T.ComposeTable.definitions c.self.inside.table;
      names = c.self.inside.names;
      repertoire = c.self.inside.repertoire;
      allowed = c.self.inside.allowed;
      loads = c.self.inside.loads;
      sessions =
          c.self.inside.sessions;
    } in
    let n = c.args.number in
    subst (λ (o : ServiceState). Answered o n (words.key c.args.keysym) (Refused c.code.result) (with_sessions old c.refeed.new.self)) c.self.view_is
    (key_no_session old n c.refeed.new.self c.refeed.ensures.value c.args.keysym c.code.result c.code.ensures (sym c.refeed.ensures.some ∙ c.if-not-refeed.true))

pub invariant_of-self-2 : goal.invariant_of-self-2
invariant_of-self-2 g c =
    let old : ServiceState =
    record {
      table = g.T.ComposeTable.definitions c.self.inside.table;
      names = c.self.inside.names;
      repertoire = c.self.inside.repertoire;
      allowed = c.self.inside.allowed;
      loads = c.self.inside.loads;
      sessions =
          c.self.inside.sessions;
    } in
    let n = c.args.number in
    answered_kept old n (words.key c.args.keysym) (Refused c.code-2.result) (with_sessions old c.refeed.new.self) c.self.invariant
    (key_bad old n c.refeed.new.self c.refeed.ensures.value c.args.keysym c.code-2.result c.code-2.ensures (sym c.refeed.ensures.some ∙ c.if-not-refeed.false) c.requires)

pub returns : goal.returns
returns g c =
    let old : ServiceState =
    record {
      table = g.T.ComposeTable.definitions c.self.inside.table;
      names = c.self.inside.names;
      repertoire = c.self.inside.repertoire;
      allowed = c.self.inside.allowed;
      loads = c.self.inside.loads;
      sessions =
          c.self.inside.sessions;
    } in
    let n = c.args.number in
    subst (λ (o : ServiceState). Answered o n (words.key c.args.keysym) (Refused c.code-2.result) (with_sessions old c.refeed.new.self)) c.self.view_is
    (key_bad old n c.refeed.new.self c.refeed.ensures.value c.args.keysym c.code-2.result c.code-2.ensures (sym c.refeed.ensures.some ∙ c.if-not-refeed.false) c.requires)
