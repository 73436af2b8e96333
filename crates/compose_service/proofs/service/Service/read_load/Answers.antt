use Rattle.std.proofs.Common.{subst}
use Rattle.compose_machine.specs.Machine.{ServiceState}
use Rattle.compose_service.specs.Answered.{ReadsLoad}
use Rattle.compose_service.proofs.service.Service.read_load.Goals as goal

pub returns : goal.returns
returns g c =
    let inside : ServiceState =
    record {
      table = g.T.ComposeTable.definitions c.self.inside.table;
      names = c.self.inside.names;
      repertoire = c.self.inside.repertoire;
      allowed = c.self.inside.allowed;
      loads = c.self.inside.loads;
      sessions =
          c.self.inside.sessions;
    } in
    subst (λ (s : ServiceState). ReadsLoad s c.args.rule c.args.payload.now g.T.ComposeTable.definitions c.read_payload.result) c.self.view_is (c.read_payload.ensures.read inside)
