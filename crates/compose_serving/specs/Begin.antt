-- How a service begins from the bytes of its files: the first part that is refused decides, in the
-- order names, repertoire, table, certificate.
use Rattle.std.specs.Prelude.{◌≡◌, ℕ, List, Result, Ok, Err}
use Rattle.keysym_core.specs.Names.{KeysymNames}
use Rattle.keysym_core.specs.Header.{names_of}
use Rattle.compose_model.specs.Certificate.{Repertoire}
use Rattle.compose_cert.specs.Repertoire.{repertoire_of}
use Rattle.compose_model.specs.declared.Rule.{Rule}
use Rattle.compose_read.specs.Lines.{Source}
use Rattle.compose_cert.specs.Reading.{certificate_of}
use Rattle.compose_tree.specs.TableReturns.{NoTable, first_table}
use Rattle.compose_migration.specs.Refused.{TableFails}
use Rattle.compose_machine.specs.Machine.{ServiceState}
use Rattle.compose_service.specs.Start.{NoStart, without_table, without_certificate, not_valid, Begun, StartReturns, started}
use Rattle.compose_migration.specs.declared.refusal.Refusal.{Refusal}
use Rattle.compose_migration.specs.declared.refusal.Refusal.TheVariants as refusals
use Rattle.keysym_core.specs.declared.fault.NameFault.{NameFault}
use Rattle.keysym_core.specs.declared.fault.NameFault.TheVariants as name_faults
use Rattle.compose_cert.specs.declared.RepertoireFault.{RepertoireFault}
use Rattle.compose_cert.specs.declared.RepertoireFault.TheVariants as repertoire_faults
use Rattle.compose_service.specs.declared.service.StartFault.{StartFault}
use Rattle.compose_service.specs.declared.service.StartFault.TheVariants as start_faults
use Rattle.compose_serving.specs.declared.start.BeginFault.{BeginFault}
use Rattle.compose_serving.specs.declared.start.BeginFault.TheVariants.{Invalid, Refused}

-- what a service does with names and a repertoire: it starts, or the reason why not
abbrev pub Start : Type 0
Start = KeysymNames → Repertoire → Result Begun NoStart

-- a service over the table of the sources starts this way
abbrev pub start_over : List Source → Rule → List ℕ → Start
start_over sources rule certificate names repertoire = started names repertoire (first_table names sources rule) (certificate_of certificate)

-- these are the names of the header and the repertoire of the bytes
pub record AreRead (header bytes : List ℕ) (names : KeysymNames) (repertoire : Repertoire) : Type 0 where
  pub names_read : names_of header ≡ Ok names
  pub repertoire_read : repertoire_of bytes ≡ Ok repertoire

-- the names and the repertoire are read, and the start is this
abbrev pub StartIs : List ℕ → List ℕ → Start → Result Begun NoStart → Type 0
StartIs header bytes start expected = (names : KeysymNames) × (repertoire : Repertoire) × AreRead header bytes names repertoire × (start names repertoire ≡ expected)

-- the refusal names the first part that is refused, and the reason
abbrev pub IsRefused : List ℕ → List ℕ → Start → Refusal → Type 0
IsRefused header bytes start (refusals.Names fault) = names_of header ≡ Err fault
IsRefused header bytes start (refusals.Repertoire fault) = (names : KeysymNames) × (names_of header ≡ Ok names) × (repertoire_of bytes ≡ Err fault)
IsRefused header bytes start (refusals.Table fault) = (why : NoTable) × StartIs header bytes start (Err (without_table why)) × TableFails fault (Err why)
IsRefused header bytes start (refusals.Certificate fault) = StartIs header bytes start (Err (without_certificate fault))
IsRefused header bytes start refusals.NoMemory = Unit {0}
IsRefused header bytes start _ = ⊥

-- the service that starts; or that its certificate is not valid, with the first condition that it
-- does not meet; or the first part that is refused
abbrev pub BeginReturns : List ℕ → List ℕ → Start → Result ServiceState BeginFault → Type 0
BeginReturns header bytes start (Ok service) =
    (names : KeysymNames) × (repertoire : Repertoire) × AreRead header bytes names repertoire × StartReturns names repertoire (Ok service) (start names repertoire)
BeginReturns header bytes start (Err (Invalid fault)) = StartIs header bytes start (Err (not_valid fault))
BeginReturns header bytes start (Err (Refused refusal)) = IsRefused header bytes start refusal

-- ---- a fault of the layers below as a refusal

abbrev pub names_refused : NameFault → Refusal
names_refused name_faults.NoMemory = refusals.NoMemory
names_refused fault = refusals.Names fault

abbrev pub repertoire_refused : RepertoireFault → Refusal
repertoire_refused repertoire_faults.NoMemory = refusals.NoMemory
repertoire_refused fault = refusals.Repertoire fault

abbrev pub start_refused : StartFault → BeginFault
start_refused (start_faults.No fault) = Invalid fault
start_refused (start_faults.Table fault) = Refused (refusals.Table fault)
start_refused (start_faults.Certificate fault) = Refused (refusals.Certificate fault)
start_refused start_faults.NoMemory = Refused refusals.NoMemory
