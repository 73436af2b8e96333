-- The result of a check on bytes, unless memory runs out.
use Rattle.std.specs.Prelude.{◌≡◌, List, [], Result, Ok, Err}
use Rattle.keysym_core.specs.declared.fault.NameFault.TheVariants as name_faults
use Rattle.compose_model.specs.Certificate.{IsValid, TypesAll}
use Rattle.compose_model.specs.Follows.{Follows, Waits}
use Rattle.compose_model.specs.Table.{Definition}
use Rattle.compose_tree.specs.TableReturns.{NoTable}
use Rattle.compose_migration.specs.Migration.{NoAnswer, no_names, no_table, no_repertoire, no_certificate}
use Rattle.compose_migration.specs.Refused.{TableFails}
use Rattle.compose_migration.specs.declared.refusal.Side.TheVariants as sides
use Rattle.compose_migration.specs.declared.refusal.Refusal.{Refusal}
use Rattle.compose_migration.specs.declared.refusal.Refusal.TheVariants as refusals
use Rattle.compose_cert.specs.declared.CertFault.TheVariants as cert_faults
use Rattle.compose_cert.specs.declared.RepertoireFault.TheVariants as repertoire_faults
use Rattle.compose_check.specs.Input.{Input, Parts, verdict_on}
use Rattle.compose_check.specs.declared.verdict.Verdict.{Verdict}
use Rattle.compose_check.specs.declared.verdict.Verdict.TheVariants.{Yes}
use Rattle.compose_check.specs.declared.input.CheckInput.{CheckInput}
use Rattle.compose_check.specs.declared.input.CheckParts.{CheckParts}
use Rattle.compose_check.specs.declared.input.InputFault.{InputFault}
use Rattle.compose_check.specs.declared.input.InputFault.TheVariants.{Names, Old, New, Repertoire, Certificate, NoMemory}

abbrev pub input_of : CheckInput → Input
input_of i = record {
  migration = record {
    header = i.header.now;
    key_names = [];
    old = record { sources = i.old.now; rule = i.old_rule };
    new = record { sources = i.new.now; rule = i.new_rule };
  };
  repertoire = i.repertoire.now;
  certificate = i.certificate.now;
}

-- what is read, as values
abbrev pub parts_read : {T : Type 0} → (T → List Definition) → CheckParts T → Parts
parts_read view p = record {
  names = p.migration.names;
  keys = p.migration.keys.items;
  old = view p.migration.old;
  new = view p.migration.new;
  repertoire = p.repertoire;
  certificate = p.certificate;
}

-- the refusal is one of the names, of the old or new table, of the repertoire or of the
-- certificate; or memory ran out
abbrev pub IsOfInput : Refusal → Type 0
IsOfInput (refusals.Key index) = ⊥
IsOfInput (refusals.Table fault) = ⊥
IsOfInput (refusals.Fresh fault) = ⊥
IsOfInput refusals.TooManyFresh = ⊥
IsOfInput refusal = Unit {0}

-- the fault names the part that can't be read, and the reason; running out of memory is a fault of
-- the whole
abbrev pub InputRefused : {P : Type 0} → InputFault → Result P NoAnswer → Type 0
InputRefused (Names name_faults.NoMemory) expected = ⊥
InputRefused (Names fault) expected = expected ≡ Err (no_names fault)
InputRefused (Old fault) expected = (why : NoTable) × (expected ≡ Err (no_table sides.Old why)) × TableFails fault (Err why)
InputRefused (New fault) expected = (why : NoTable) × (expected ≡ Err (no_table sides.New why)) × TableFails fault (Err why)
InputRefused (Repertoire repertoire_faults.NoMemory) expected = ⊥
InputRefused (Repertoire fault) expected = expected ≡ Err (no_repertoire fault)
InputRefused (Certificate cert_faults.NoMemory) expected = ⊥
InputRefused (Certificate fault) expected = expected ≡ Err (no_certificate fault)
InputRefused NoMemory expected = Unit {0}

-- the specified parts are read, or the fault of the first one that can't be read
abbrev pub InputReturns : {P A : Type 0} → (P → A → Type 0) → Result A InputFault → Result P NoAnswer → Type 0
InputReturns {P} reads (Ok read) expected = (parts : P) × (expected ≡ Ok parts) × reads parts read
InputReturns reads (Err fault) expected = InputRefused fault expected

-- the promises of the verdict yes
pub record Promises (p : Parts) : Type 0 where
  pub valid : IsValid p.names p.old p.new p.repertoire p.certificate
  pub follows : Follows p.names p.certificate.fresh p.old p.new
  pub waits : Waits p.new p.certificate.bound
  pub types : TypesAll p.names p.new p.repertoire p.certificate.typings

-- the verdict on the specified parts
abbrev pub CheckReturns : Result Verdict InputFault → Result Parts NoAnswer → Type 0
CheckReturns result expected = InputReturns (λ parts verdict. verdict ≡ verdict_on parts) result expected
