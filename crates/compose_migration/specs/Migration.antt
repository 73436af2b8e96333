-- A move from an old table to a new one: the input, and its parts.
use Rattle.std.specs.Prelude.{ℕ, List, Result, Ok, Err, codes}
use Rattle.compose_text.specs.Results.{◌>>=◌}
use Rattle.keysym_core.specs.Names.{KeysymNames}
use Rattle.keysym_core.specs.Header.{names_of}
use Rattle.keysym_core.specs.declared.fault.NameFault.{NameFault}
use Rattle.compose_model.specs.Table.{Definition}
use Rattle.compose_model.specs.declared.Rule.{Rule}
use Rattle.compose_read.specs.Lines.{Source}
use Rattle.compose_cert.specs.declared.CertFault.{CertFault}
use Rattle.compose_cert.specs.declared.RepertoireFault.{RepertoireFault}
use Rattle.compose_tree.specs.TableReturns.{NoTable, first_table}
use Rattle.compose_fresh.specs.declared.fault.CheckFault.{CheckFault}
use Rattle.compose_migration.specs.Keys.{keys_of}
use Rattle.compose_migration.specs.declared.refusal.Side.{Side}
use Rattle.compose_migration.specs.declared.refusal.Side.TheVariants.{Old, New}

-- the sources of a table, the root first, and the rule for its overlaps
pub record TableSources : Type 0 where
  pub sources : List Source
  pub rule : Rule

-- a header of names, key names, and two tables
pub record GivenMigration : Type 0 where
  pub header : List ℕ
  pub key_names : List (List ℕ)
  pub old : TableSources
  pub new : TableSources

-- the names, and the keysyms of the key names in their order
pub record NamedParts : Type 0 where
  pub names : KeysymNames
  pub keys : List ℕ

-- the parts of a migration
pub record Parts : Type 0 where
  pub names : KeysymNames
  pub keys : List ℕ
  pub old : List Definition
  pub new : List Definition

-- the part that is refused, and why; of the key names, the index of the first one that has no
-- keysym
pub data NoAnswer : Type 0 where
  no_names : NameFault → NoAnswer
  no_key : ℕ → NoAnswer
  no_only_table : NoTable → NoAnswer
  no_table : Side → NoTable → NoAnswer
  no_repertoire : RepertoireFault → NoAnswer
  no_certificate : CertFault → NoAnswer
  no_fresh : CheckFault → NoAnswer
  too_many_fresh : NoAnswer

-- ---- reading in order

abbrev pub or_because : {A E F : Type 0} → (E → F) → Result A E → Result A F
or_because why (Ok a) = Ok a
or_because why (Err e) = Err (why e)

-- the table of a side
abbrev pub table_of_side : KeysymNames → Side → TableSources → Result (List Definition) NoAnswer
table_of_side names side t = or_because (no_table side) (first_table names t.sources t.rule)

-- the names and the keysyms, or the first part that is refused
abbrev pub named : List ℕ → List (List ℕ) → Result NamedParts NoAnswer
named header key_names = do
  names ← or_because no_names (names_of header)
  keys ← or_because no_key (keys_of names key_names)
  Ok (record { names = names; keys = keys })

-- these, the old table and the new one, or the first part that is refused
abbrev pub migration_of : GivenMigration → Result Parts NoAnswer
migration_of given = do
  n ← named given.header given.key_names
  old ← table_of_side n.names Old given.old
  new ← table_of_side n.names New given.new
  Ok (record { names = n.names; keys = n.keys; old = old; new = new })

-- ---- printed

abbrev pub side_word : Side → List ℕ
side_word Old = codes "old"
side_word New = codes "new"
