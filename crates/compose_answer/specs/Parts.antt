-- The parts of each command's input: they are read in one order, and the first that is refused
-- decides.
use Rattle.std.specs.Prelude.{ℕ, nat_lt, if◌then◌else◌, List, length, Option, Some, None, Result, Ok, Err}
use Rattle.std.specs.Option.{option_map_or}
use Rattle.std.specs.Ordering.{nat_cmp}
use Rattle.compose_text.specs.Results.{◌>>=◌}
use Rattle.keysym_core.specs.Names.{KeysymNames}
use Rattle.compose_model.specs.Table.{Definition}
use Rattle.compose_model.specs.Nodes.{rising}
use Rattle.compose_model.specs.Certificate.{Repertoire}
use Rattle.compose_tree.specs.TableReturns.{first_table}
use Rattle.compose_migration.specs.Migration.{GivenMigration, NoAnswer, TableSources, Parts, no_only_table, no_repertoire, no_fresh, too_many_fresh, or_because, named, migration_of}
use Rattle.compose_cert.specs.Repertoire.{repertoire_of}
use Rattle.compose_fresh.specs.Fresh.{fresh_conditions, max_fresh}
use Rattle.compose_fresh.specs.Conditions.{first_unmet}

-- ---- typing: the names, the keysyms of the key names, the table

pub record TypedParts : Type 0 where
  pub names : KeysymNames
  pub keys : List ℕ
  pub table : List Definition

abbrev pub type_parts : List ℕ → List (List ℕ) → TableSources → Result TypedParts NoAnswer
type_parts header key_names given = do
  n ← named header key_names
  table ← or_because no_only_table (first_table n.names given.sources given.rule)
  Ok (record { names = n.names; keys = n.keys; table = table })

-- ---- explain and make: a migration, and its fresh keysyms

-- the first condition that the fresh keysyms do not meet for the old table; or they are more than a
-- certificate can have
abbrev pub fresh_fault : List Definition → List ℕ → Option NoAnswer
fresh_fault old fresh = option_map_or (λ fault. Some (no_fresh fault)) (first_unmet (fresh_conditions old fresh)) (if nat_lt max_fresh (length fresh) then Some too_many_fresh else None)

-- the parts, if the fresh keysyms have no fault
abbrev pub accepted : {P : Type 0} → List ℕ → List Definition → P → Result P NoAnswer
accepted fresh old parts = option_map_or (λ why. Err why) (fresh_fault old fresh) (Ok parts)

-- the input of explain: a migration, and its fresh keysyms
pub record Explainable : Type 0 where
  pub move : Parts
  pub fresh : List ℕ

abbrev pub explainable : Parts → List ℕ → Result Explainable NoAnswer
explainable move fresh = accepted fresh move.old (record { move = move; fresh = fresh })

-- the fresh keysyms are those of the key names in rising order, each once
abbrev pub explain_parts : GivenMigration → Result Explainable NoAnswer
explain_parts given = do
  move ← migration_of given
  explainable move (rising nat_cmp move.keys)

-- the input from which a certificate is made
pub record Needs : Type 0 where
  pub move : Parts
  pub repertoire : Repertoire
  pub fresh : List ℕ

abbrev pub makeable : Parts → Repertoire → List ℕ → Result Needs NoAnswer
makeable move repertoire fresh = accepted fresh move.old (record { move = move; repertoire = repertoire; fresh = fresh })

abbrev pub make_parts : GivenMigration → List ℕ → Result Needs NoAnswer
make_parts given repertoire = do
  move ← migration_of given
  r ← or_because no_repertoire (repertoire_of repertoire)
  makeable move r (rising nat_cmp move.keys)
