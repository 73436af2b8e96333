-- How a service starts: its table is read, then its certificate, and the table is checked against
-- itself.
use Rattle.std.specs.Prelude.{◌≡◌, List, [], Option, Some, None, Result, Ok, Err}
use Rattle.keysym_core.specs.Names.{KeysymNames}
use Rattle.compose_model.specs.Table.{Definition}
use Rattle.compose_model.specs.Follows.{Waits}
use Rattle.compose_model.specs.Certificate.{Certificate, Repertoire, TypesAll}
use Rattle.compose_tree.specs.TableReturns.{NoTable}
use Rattle.compose_tree.specs.declared.reading.TableFault.{TableFault}
use Rattle.compose_tree.specs.declared.reading.TableFault.TheVariants as table_faults
use Rattle.compose_cert.specs.declared.CertFault.{CertFault}
use Rattle.compose_cert.specs.declared.CertFault.TheVariants as cert_faults
use Rattle.compose_check.specs.Conditions.{fault_of}
use Rattle.compose_migration.specs.Refused.{TableFails}
use Rattle.compose_fresh.specs.declared.fault.CheckFault.{CheckFault}
use Rattle.compose_machine.specs.Machine.{ServiceState}
use Rattle.compose_service.specs.declared.service.StartFault.{StartFault}
use Rattle.compose_service.specs.declared.service.StartFault.TheVariants as start_faults

-- why a service does not start
pub data NoStart : Type 0 where
  without_table : NoTable → NoStart
  without_certificate : CertFault → NoStart
  not_valid : CheckFault → NoStart

-- a table and a valid certificate
pub record Begun : Type 0 where
  pub table : List Definition
  pub certificate : Certificate

abbrev pub begun_by : Option CheckFault → List Definition → Certificate → Result Begun NoStart
begun_by None table certificate = Ok (record { table = table; certificate = certificate })
begun_by (Some fault) table certificate = Err (not_valid fault)

abbrev pub started : KeysymNames → Repertoire → Result (List Definition) NoTable → Result Certificate CertFault → Result Begun NoStart
started names repertoire (Err why) certificate = Err (without_table why)
started names repertoire (Ok table) (Err fault) = Err (without_certificate fault)
started names repertoire (Ok table) (Ok certificate) = begun_by (fault_of names table table repertoire certificate) table certificate

abbrev pub at_start : List Definition → KeysymNames → Repertoire → ServiceState
at_start table names repertoire = record { table = table; names = names; repertoire = repertoire; allowed = None; loads = 0; sessions = [] }

abbrev pub table_raised : TableFault → StartFault
table_raised table_faults.NoMemory = start_faults.NoMemory
table_raised fault = start_faults.Table fault

abbrev pub certificate_raised : CertFault → StartFault
certificate_raised cert_faults.NoMemory = start_faults.NoMemory
certificate_raised fault = start_faults.Certificate fault

abbrev pub IsCertificateFault : CertFault → Result Begun NoStart → Type 0
IsCertificateFault cert_faults.NoMemory expected = ⊥
IsCertificateFault fault expected = expected ≡ Err (without_certificate fault)

-- the given service without sessions, whose table waits and types as its certificate states, or the
-- first fault
abbrev pub StartReturns : KeysymNames → Repertoire → Result ServiceState StartFault → Result Begun NoStart → Type 0
StartReturns names repertoire (Ok service) expected =
    (b : Begun) × (expected ≡ Ok b) × (service ≡ at_start b.table names repertoire) × Waits b.table b.certificate.bound × TypesAll names b.table repertoire b.certificate.typings
StartReturns names repertoire (Err (start_faults.Table fault)) expected = (why : NoTable) × (expected ≡ Err (without_table why)) × TableFails fault (Err why)
StartReturns names repertoire (Err (start_faults.Certificate fault)) expected = IsCertificateFault fault expected
StartReturns names repertoire (Err (start_faults.No fault)) expected = expected ≡ Err (not_valid fault)
StartReturns names repertoire (Err start_faults.NoMemory) expected = Unit {0}

-- the given certificate is valid for this table against itself, which waits and types as it states;
-- or the first fault
abbrev pub BeginsBy : {A : Type 0} → KeysymNames → Repertoire → List Definition → Result A StartFault → Result Certificate CertFault → Type 0
BeginsBy names repertoire table (Ok begun) expected =
    (c : Certificate) × (started names repertoire (Ok table) expected ≡ Ok (record { table = table; certificate = c })) × Waits table c.bound × TypesAll names table repertoire c.typings
BeginsBy names repertoire table (Err fault) expected = StartReturns names repertoire (Err fault) (started names repertoire (Ok table) expected)
