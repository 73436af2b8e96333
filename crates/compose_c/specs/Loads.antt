-- When a certificate is valid for a move from one table to another, and when a table may be loaded.
use Rattle.std.specs.Prelude.{◌≡◌, ℕ, List, Ok, Err}
use Rattle.keysym_core.specs.Names.{KeysymNames}
use Rattle.keysym_core.specs.Header.{names_of, NamesReturns}
use Rattle.compose_model.specs.Table.{Definition}
use Rattle.compose_model.specs.Follows.{Follows, Waits}
use Rattle.compose_model.specs.Certificate.{Certificate, Repertoire, IsValid, TypesAll}
use Rattle.compose_model.specs.declared.Rule.{Rule}
use Rattle.compose_bundle.specs.Bundle.{Bundle, IsBundle}
use Rattle.compose_bundle.specs.Written.{NotRead}
use Rattle.compose_cert.specs.Reading.{certificate_of}
use Rattle.compose_cert.specs.Repertoire.{repertoire_of}
use Rattle.compose_cert.specs.CertificateReturns.{CertificateReturns, RepertoireReturns}
use Rattle.compose_check.specs.Conditions.{fault_of}
use Rattle.compose_check.specs.Verdict.{verdict_of}
use Rattle.compose_check.specs.declared.verdict.Verdict.TheVariants.{No}
use Rattle.compose_fresh.specs.declared.fault.CheckFault.{CheckFault}
use Rattle.compose_tree.specs.TableReturns.{first_table}
use Rattle.compose_c.specs.Faults as faults
use Rattle.compose_c.specs.Faults.{ReturnsNoTable}
use Rattle.compose_c.specs.declared.fault.FaultRecord.{FaultRecord}
use Rattle.compose_c.specs.declared.fault.LoadRefusal.{LoadRefusal}
use Rattle.compose_c.specs.declared.fault.LoadRefusal.TheVariants.{Names, Bundled, Table, Repertoire as OfRepertoire, Certificate as OfCertificate, Unmet}

-- ---- with names that are read

-- the certificate is valid, so typing with the new table is what the certificate promises
pub record Meets (names : KeysymNames) (old new : List Definition) (repertoire certificate : List ℕ) : Type 0 where
  pub needed : Repertoire
  pub given : Certificate
  pub needed_is : repertoire_of repertoire ≡ Ok needed
  pub given_is : certificate_of certificate ≡ Ok given
  pub valid : IsValid names old new needed given
  pub follows : Follows names given.fresh old new
  pub waits : Waits new given.bound
  pub types : TypesAll names new needed given.typings

-- the repertoire and the certificate are read, and this is the first condition that the certificate
-- does not meet
pub record IsUnmet (names : KeysymNames) (old new : List Definition) (repertoire certificate : List ℕ) (fault : CheckFault) : Type 0 where
  pub needed : Repertoire
  pub given : Certificate
  pub needed_is : repertoire_of repertoire ≡ Ok needed
  pub given_is : certificate_of certificate ≡ Ok given
  pub unmet : verdict_of (fault_of names old new needed given) ≡ No fault

abbrev pub Misses : KeysymNames → List Definition → List Definition → List ℕ → List ℕ → LoadRefusal → Type 0
Misses names old new repertoire certificate (Names fault) = ⊥
Misses names old new repertoire certificate (Bundled fault) = ⊥
Misses names old new repertoire certificate (Table fault column) = ⊥
Misses names old new repertoire certificate (OfRepertoire fault) = RepertoireReturns (Err fault) (repertoire_of repertoire)
Misses names old new repertoire certificate (OfCertificate fault) = CertificateReturns (Err fault) (certificate_of certificate)
Misses names old new repertoire certificate (Unmet fault) = IsUnmet names old new repertoire certificate fault

-- ---- with the names of a header

pub record IsCertified (header : List ℕ) (old new : List Definition) (repertoire certificate : List ℕ) : Type 0 where
  pub names : KeysymNames
  pub named : names_of header ≡ Ok names
  pub meets : Meets names old new repertoire certificate

-- the names are read, and the check with them fails for this reason
pub record MissesNamed (header : List ℕ) (old new : List Definition) (repertoire certificate : List ℕ) (refusal : LoadRefusal) : Type 0 where
  pub names : KeysymNames
  pub named : names_of header ≡ Ok names
  pub misses : Misses names old new repertoire certificate refusal

abbrev pub IsUncertified : List ℕ → List Definition → List Definition → List ℕ → List ℕ → LoadRefusal → Type 0
IsUncertified header old new repertoire certificate (Names fault) = NamesReturns (Err fault) (names_of header)
IsUncertified header old new repertoire certificate (Bundled fault) = ⊥
IsUncertified header old new repertoire certificate (Table fault column) = ⊥
IsUncertified header old new repertoire certificate (OfRepertoire fault) = MissesNamed header old new repertoire certificate (OfRepertoire fault)
IsUncertified header old new repertoire certificate (OfCertificate fault) = MissesNamed header old new repertoire certificate (OfCertificate fault)
IsUncertified header old new repertoire certificate (Unmet fault) = MissesNamed header old new repertoire certificate (Unmet fault)

-- this fault reports to C why the certificate is not valid
abbrev pub ReportsUncertified : List ℕ → List Definition → List Definition → List ℕ → List ℕ → FaultRecord → Type 0
ReportsUncertified header old new repertoire certificate reported = (r : LoadRefusal) × IsUncertified header old new repertoire certificate r × (reported ≡ faults.fault_of r)

-- ---- loads

-- the table is the one that the bundle's first source defines, and the bundle's certificate is
-- valid for a move to it from the old table
pub record IsLoaded (header : List ℕ) (old : List Definition) (repertoire bundle : List ℕ) (rule : Rule) (new : List Definition) : Type 0 where
  pub names : KeysymNames
  pub sources : Bundle
  pub named : names_of header ≡ Ok names
  pub bundled : IsBundle bundle sources
  pub is : first_table names sources.sources rule ≡ Ok new
  pub meets : Meets names old new repertoire sources.certificate

-- the table is read, but the check of the bundle's certificate fails for this reason
pub record MissesRead (header : List ℕ) (old : List Definition) (repertoire bundle : List ℕ) (rule : Rule) (refusal : LoadRefusal) : Type 0 where
  pub names : KeysymNames
  pub sources : Bundle
  pub new : List Definition
  pub named : names_of header ≡ Ok names
  pub bundled : IsBundle bundle sources
  pub is : first_table names sources.sources rule ≡ Ok new
  pub misses : Misses names old new repertoire sources.certificate refusal

abbrev pub IsNotLoaded : List ℕ → List Definition → List ℕ → List ℕ → Rule → LoadRefusal → Type 0
IsNotLoaded header old repertoire bundle rule (Names fault) = NamesReturns (Err fault) (names_of header)
IsNotLoaded header old repertoire bundle rule (Bundled fault) = NotRead fault bundle
IsNotLoaded header old repertoire bundle rule (Table fault column) = ReturnsNoTable header bundle rule fault column
IsNotLoaded header old repertoire bundle rule (OfRepertoire fault) = MissesRead header old repertoire bundle rule (OfRepertoire fault)
IsNotLoaded header old repertoire bundle rule (OfCertificate fault) = MissesRead header old repertoire bundle rule (OfCertificate fault)
IsNotLoaded header old repertoire bundle rule (Unmet fault) = MissesRead header old repertoire bundle rule (Unmet fault)

-- this fault reports to C why no table is loaded
abbrev pub ReportsNotLoaded : List ℕ → List Definition → List ℕ → List ℕ → Rule → FaultRecord → Type 0
ReportsNotLoaded header old repertoire bundle rule reported = (r : LoadRefusal) × IsNotLoaded header old repertoire bundle rule r × (reported ≡ faults.fault_of r)
