-- How a service starts.
use Rattle.std.proofs.Common.{◌≡◌, List, refl, sym, ◌∙◌, ap, subst, rules}
use Rattle.std.specs.Result.{IsErrAnd}
use Rattle.std.specs.Prelude.{Option, Some, None, Result, Ok, Err}
use Rattle.keysym_core.specs.Names.{KeysymNames}
use Rattle.compose_model.specs.Table.{Definition}
use Rattle.compose_model.specs.Certificate.{Certificate, Repertoire}
use Rattle.compose_read.specs.declared.settling.SettleFault.TheVariants as settle_faults
use Rattle.compose_tree.specs.TableReturns.{NoTable, TableReturns}
use Rattle.compose_tree.specs.declared.table.BuildFault.TheVariants as build_faults
use Rattle.compose_tree.specs.declared.reading.TableFault.{TableFault}
use Rattle.compose_tree.specs.declared.reading.TableFault.TheVariants as table_faults
use Rattle.compose_cert.specs.declared.CertFault.{CertFault}
use Rattle.compose_check.specs.Conditions.{fault_of}
use Rattle.compose_check.specs.Verdict.{verdict_of}
use Rattle.compose_migration.specs.Refused.{TableFails}
use Rattle.compose_fresh.specs.declared.fault.CheckFault.{CheckFault}
use Rattle.compose_check.specs.declared.verdict.Verdict.TheVariants.{Yes, No}
use Rattle.compose_machine.specs.Machine.{ServiceState}
use Rattle.compose_service.specs.Start.{begun_by, started, not_valid, without_table, table_raised, StartReturns}
use Rattle.compose_service.specs.declared.service.StartFault.{StartFault}

verdict_yes : (o : Option CheckFault) → Yes ≡ verdict_of o → o ≡ None
verdict_yes None e = refl
verdict_yes (Some f) e = cc

verdict_no : (o : Option CheckFault) (f : CheckFault) → No f ≡ verdict_of o → o ≡ Some f
verdict_no None f e = cc
verdict_no (Some g) f e = cc

-- a fault excludes a table
no_fault : (fault : TableFault) (table : List Definition) → TableFails fault (Ok table) → ⊥
no_fault (table_faults.Read fault) table h = search rules
no_fault (table_faults.Settle fault) table h = search rules
no_fault (table_faults.Build fault) table h = search rules
no_fault table_faults.NoMemory table h = h

module _ (names : KeysymNames) (repertoire : Repertoire) where
  fails : (fault : TableFault) (expected : Result (List Definition) NoTable) (certificate : Result Certificate CertFault) → TableFails fault expected
      → (why : NoTable) × (started names repertoire expected certificate ≡ Err (without_table why)) × TableFails fault (Err why)
  fails fault (Err why) certificate h = (why, refl, h)
  fails fault (Ok table) certificate h = absurd (no_fault fault table h)

  -- if the service is given no table, it does not start, for the fault of that table
  pub table_fault : {T : Type 0} (view : T → List Definition) (result : Result ServiceState StartFault) (fault : TableFault) (expected : Result (List Definition) NoTable)
      (certificate : Result Certificate CertFault)
      → IsErrAnd result (λ e. e ≡ table_raised fault) → TableReturns view (Err fault) expected → StartReturns names repertoire result (started names repertoire expected certificate)
  table_fault view (Ok s) fault expected certificate is h = absurd is
  table_fault view (Err e) fault expected certificate is h = subst (λ (x : StartFault). StartReturns names repertoire (Err x) (started names repertoire expected certificate)) (sym is) (go fault h)
    where
      go : (f : TableFault) → TableReturns view (Err f) expected → StartReturns names repertoire (Err (table_raised f)) (started names repertoire expected certificate)
      go table_faults.NoMemory h = tt
      go (table_faults.Read f) h = fails (table_faults.Read f) expected certificate h
      go (table_faults.Settle (settle_faults.Overlap short long)) h = fails (table_faults.Settle (settle_faults.Overlap short long)) expected certificate h
      go (table_faults.Settle settle_faults.NoMemory) h = absurd h
      go (table_faults.Build build_faults.TooManyNodes) h = fails (table_faults.Build build_faults.TooManyNodes) expected certificate h
      go (table_faults.Build build_faults.NoMemory) h = absurd h

  -- if the certificate is not valid for the table that is read, no service starts, for the same
  -- fault
  pub not_begun : (result : Result ServiceState StartFault) (fault : StartFault) (expected : Result (List Definition) NoTable) (spelt : Result Certificate CertFault) (table : List Definition)
      → expected ≡ Ok table → IsErrAnd result (λ e. e ≡ fault) → StartReturns names repertoire (Err fault) (started names repertoire (Ok table) spelt)
      → StartReturns names repertoire result (started names repertoire expected spelt)
  not_begun (Ok s) fault expected spelt table t is h = absurd is
  not_begun (Err e) fault expected spelt table t is h =
      subst (λ (x : StartFault). StartReturns names repertoire (Err x) (started names repertoire expected spelt)) (sym is)
      (subst (λ (x : Result (List Definition) NoTable). StartReturns names repertoire (Err fault) (started names repertoire x spelt)) (sym t) h)

  module _ (spelt : Result Certificate CertFault) (table : List Definition) (certificate : Certificate) (c : spelt ≡ Ok certificate) where
    read : started names repertoire (Ok table) spelt ≡ begun_by (fault_of names table table repertoire certificate) table certificate
    read = ap (started names repertoire (Ok table)) c

    -- if the verdict on its own certificate is yes, the service starts with this table and
    -- certificate
    pub begins : Yes ≡ verdict_of (fault_of names table table repertoire certificate) → started names repertoire (Ok table) spelt ≡ Ok (record { table = table; certificate = certificate })
    begins e = read ∙ ap (λ o. begun_by o table certificate) (verdict_yes (fault_of names table table repertoire certificate) e)

    -- if the verdict on its own certificate is no, the service does not start, for the checker's
    -- fault
    pub begins_not : (f : CheckFault) → No f ≡ verdict_of (fault_of names table table repertoire certificate) → started names repertoire (Ok table) spelt ≡ Err (not_valid f)
    begins_not f e = read ∙ ap (λ o. begun_by o table certificate) (verdict_no (fault_of names table table repertoire certificate) f e)
