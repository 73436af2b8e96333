use Rattle.compose_machine.specs.Machine.{ServiceState}
use Rattle.compose_service.proofs.Answering.{swap_sound}
use Rattle.compose_service.proofs.service.Service.change_table.Goals as goal

pub invariant_of-self : goal.invariant_of-self
invariant_of-self g c =
    let inside : ServiceState =
    record {
      table = g.T.ComposeTable.definitions c.self.inside.table;
      names = c.self.inside.names;
      repertoire = c.self.inside.repertoire;
      allowed = c.self.inside.allowed;
      loads = c.self.inside.loads;
      sessions =
          c.self.inside.sessions;
    } in
    swap_sound inside c.args.self.now c.self.view_is
    (g.T.ComposeTable.definitions c.args.table) c.args.certificate.now c.leave.new.self c.requires.prefix_free c.requires.accepted c.self.invariant c.leave.ensures
