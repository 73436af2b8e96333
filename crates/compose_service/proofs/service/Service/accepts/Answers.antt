use Rattle.std.proofs.Common.{◌≡◌, true, false, subst, sym, ◌∙◌, ap}
use Rattle.compose_machine.specs.Machine.{ServiceState, Accepts, are_allowed}
use Rattle.compose_service.proofs.service.Service.accepts.Goals as goal

pub returns-then-not-has_all : goal.returns-then-not-has_all
returns-then-not-has_all g c =
    let inside : ServiceState =
    record {
      table = g.T.ComposeTable.definitions c.self.inside.table;
      names = c.self.inside.names;
      repertoire = c.self.inside.repertoire;
      allowed = c.self.inside.allowed;
      loads = c.self.inside.loads;
      sessions =
          c.self.inside.sessions;
    } in
    let table = g.T.ComposeTable.definitions c.args.table.now in
    let certificate = c.args.certificate.now in
    let barred : are_allowed inside.allowed certificate.fresh ≡ false = ap (are_allowed inside.allowed) (sym c.fresh_keys.ensures) ∙ sym c.has_all.ensures ∙ c.if-not-has_all.true in
    record {
      prefix_free = c.node_count-nodes.ensures.settled.prefix_free;
      yes = λ e. cc;
      no = λ e a. (let accepted = subst (λ (s : ServiceState). Accepts s table certificate) (sym c.self.view_is) a in let clash : false ≡ true = sym barred ∙ accepted.1 in cc);
    }

pub returns-in-Yes : goal.returns-in-Yes
returns-in-Yes g c =
    let inside : ServiceState =
    record {
      table = g.T.ComposeTable.definitions c.self.inside.table;
      names = c.self.inside.names;
      repertoire = c.self.inside.repertoire;
      allowed = c.self.inside.allowed;
      loads = c.self.inside.loads;
      sessions =
          c.self.inside.sessions;
    } in
    let table = g.T.ComposeTable.definitions c.args.table.now in
    let certificate = c.args.certificate.now in
    let all : are_allowed inside.allowed certificate.fresh ≡ true = ap (are_allowed inside.allowed) (sym c.fresh_keys.ensures) ∙ sym c.has_all.ensures ∙ c.if-not-has_all.false in
    record {
      prefix_free = c.node_count-nodes.ensures.settled.prefix_free;
      yes = λ e. subst (λ (s : ServiceState). Accepts s table certificate) c.self.view_is (c.check-verdict.ensures.valid c.in-Yes.is, all);
      no = λ e. cc;
    }

pub returns-in-No : goal.returns-in-No
returns-in-No g c =
    let inside : ServiceState =
    record {
      table = g.T.ComposeTable.definitions c.self.inside.table;
      names = c.self.inside.names;
      repertoire = c.self.inside.repertoire;
      allowed = c.self.inside.allowed;
      loads = c.self.inside.loads;
      sessions =
          c.self.inside.sessions;
    } in
    let table = g.T.ComposeTable.definitions c.args.table.now in
    let certificate = c.args.certificate.now in
    record {
      prefix_free = c.node_count-nodes.ensures.settled.prefix_free;
      yes = λ e. cc;
      no = λ e a. (let accepted = subst (λ (s : ServiceState). Accepts s table certificate) (sym c.self.view_is) a in let clash = sym (c.check-verdict.ensures.only accepted.0) ∙ c.in-No.is in cc);
    }
