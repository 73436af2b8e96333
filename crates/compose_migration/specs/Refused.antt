-- What a refusal means; a refusal for lack of memory concerns the whole.
use Rattle.std.specs.Prelude.{◌≡◌, List, Result, Ok, Err}
use Rattle.keysym_core.specs.declared.fault.NameFault.TheVariants as name_faults
use Rattle.compose_model.specs.Table.{Definition}
use Rattle.compose_cert.specs.declared.CertFault.TheVariants as cert_faults
use Rattle.compose_cert.specs.declared.RepertoireFault.TheVariants as repertoire_faults
use Rattle.compose_tree.specs.TableReturns.{NoTable, TableReturns}
use Rattle.compose_tree.specs.declared.reading.TableFault.{TableFault}
use Rattle.compose_tree.specs.declared.reading.TableFault.TheVariants as table_faults
use Rattle.compose_migration.specs.Migration.{NoAnswer, no_names, no_key, no_only_table, no_table, no_repertoire, no_certificate, no_fresh, too_many_fresh}
use Rattle.compose_migration.specs.declared.refusal.Refusal.{Refusal}
use Rattle.compose_migration.specs.declared.refusal.Refusal.TheVariants.{Names, Key, Table, Side, Repertoire, Certificate, Fresh, TooManyFresh, NoMemory}

-- the fault is the reason why there is no table
abbrev pub TableFails : TableFault → Result (List Definition) NoTable → Type 0
TableFails table_faults.NoMemory expected = ⊥
TableFails fault expected = TableReturns (λ (table : List Definition). table) (Err fault) expected

-- the refusal names the part that is refused first, and why
abbrev pub IsRefused : {P : Type 0} → Refusal → Result P NoAnswer → Type 0
IsRefused (Names name_faults.NoMemory) expected = ⊥
IsRefused (Names fault) expected = expected ≡ Err (no_names fault)
IsRefused (Key index) expected = expected ≡ Err (no_key index)
IsRefused (Table fault) expected = (why : NoTable) × (expected ≡ Err (no_only_table why)) × TableFails fault (Err why)
IsRefused (Side side fault) expected = (why : NoTable) × (expected ≡ Err (no_table side why)) × TableFails fault (Err why)
IsRefused (Repertoire repertoire_faults.NoMemory) expected = ⊥
IsRefused (Repertoire fault) expected = expected ≡ Err (no_repertoire fault)
IsRefused (Certificate cert_faults.NoMemory) expected = ⊥
IsRefused (Certificate fault) expected = expected ≡ Err (no_certificate fault)
IsRefused (Fresh fault) expected = expected ≡ Err (no_fresh fault)
IsRefused TooManyFresh expected = expected ≡ Err too_many_fresh
IsRefused NoMemory expected = Unit {0}

-- an answer on these parts, or the refusal of the first one that is refused
abbrev pub Returns : {P A : Type 0} → (P → A → Type 0) → Result A Refusal → Result P NoAnswer → Type 0
Returns {P} answers (Ok answer) expected = (parts : P) × (expected ≡ Ok parts) × answers parts answer
Returns answers (Err refusal) expected = IsRefused refusal expected
