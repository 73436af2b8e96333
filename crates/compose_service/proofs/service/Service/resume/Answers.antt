use Rattle.std.proofs.Common.{ap, ap₂, ℕ, List}
use Rattle.std.specs.Prelude.{Option, Err}
use Rattle.compose_machine.specs.Machine.{Row, ServiceState}
use Rattle.compose_service.proofs.Halves.{read_load, only_memory, nobody}
use Rattle.compose_service.proofs.service.Service.resume.Goals as goal

pub returns-in-Ok : goal.returns-in-Ok
returns-in-Ok g c =
    let definitions = g.T.ComposeTable.definitions c.in-Ok.table in (
      definitions,
      c.in-Ok.field-0-1,
      read_load (nobody c.args.names) c.args.rule c.args.payload.now g.T.ComposeTable.definitions (c.in-Ok.table, c.in-Ok.field-0-1) (c.in-Ok.ensures.read (nobody c.args.names)),
      ap₂ (λ (allowed : Option (List ℕ)) (rows : List Row).
          let s : ServiceState =
          record { table = definitions; names = c.args.names; repertoire = c.args.repertoire; allowed = allowed; loads = 0; sessions = rows } in s) c.any.ensures c.new.ensures,
    )

pub returns-in-Err : goal.returns-in-Err
returns-in-Err g c =
    only_memory (nobody c.args.names) c.args.rule c.args.payload.now g.T.ComposeTable.definitions c.in-Err.refusal (c.in-Err.ensures.read (nobody c.args.names)) (λ e. c.in-Err.ensures.no_verdict (ap Err e))
