use Rattle.std.proofs.Common.{rules, ◌∙◌, ap, ap₂, ℕ, List}
use Rattle.std.specs.Prelude.{Option}
use Rattle.compose_machine.specs.Machine.{Row, ServiceState}
use Rattle.compose_service.specs.Start.{started}
use Rattle.compose_tree.specs.TableReturns.{first_table}
use Rattle.compose_cert.specs.Reading.{certificate_of}
use Rattle.compose_service.proofs.Starting.{table_fault, not_begun}
use Rattle.compose_service.proofs.service.Service.start.Goals as goal

pub returns-in_err-table : goal.returns-in_err-table
returns-in_err-table g c =
    table_fault c.args.names c.args.repertoire g.T.ComposeTable.definitions c.from_residual.result c.in_err-table.field-0.0 (first_table c.args.names c.args.sources c.args.rule)
    (certificate_of c.args.certificate.now) c.from_residual.ensures.1 c.in_err-table.ensures.value

pub returns-in_err-check_own : goal.returns-in_err-check_own
returns-in_err-check_own g c =
    not_begun c.args.names c.args.repertoire c.from_residual-in_err-check_own.result c.in_err-check_own.field-0.0 (first_table c.args.names c.args.sources c.args.rule)
    (certificate_of c.args.certificate.now) (g.T.ComposeTable.definitions c.in_ok-table.table) c.in_ok-table.ensures.value (search rules) c.in_err-check_own.ensures

pub returns : goal.returns
returns g c =
    let definitions = g.T.ComposeTable.definitions c.in_ok-table.table in
    let begun = c.in_ok-check_own.ensures in (
      record { table = definitions; certificate = begun.0 },
      ap (λ expected. started c.args.names c.args.repertoire expected (certificate_of c.args.certificate.now)) c.in_ok-table.ensures.value ∙ begun.1,
      ap₂ (λ (allowed : Option (List ℕ)) (rows : List Row).
          let s : ServiceState =
          record { table = definitions; names = c.args.names; repertoire = c.args.repertoire; allowed = allowed; loads = 0; sessions = rows } in s) c.any.ensures c.new.ensures,
      begun.2,
      begun.3,
    )
