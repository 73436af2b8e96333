-- A check on bytes: reading the parts, one after another, and the verdict on them.
use Rattle.std.specs.Prelude.{ℕ, List, Result, Ok}
use Rattle.compose_text.specs.Results.{◌>>=◌}
use Rattle.keysym_core.specs.Names.{KeysymNames}
use Rattle.compose_model.specs.Table.{Definition}
use Rattle.compose_model.specs.Certificate.{Certificate, Repertoire}
use Rattle.compose_migration.specs.Migration as migrations
use Rattle.compose_migration.specs.Migration.{GivenMigration, NoAnswer, no_repertoire, no_certificate, or_because, migration_of}
use Rattle.compose_cert.specs.Reading.{certificate_of}
use Rattle.compose_cert.specs.Repertoire.{repertoire_of}
use Rattle.compose_check.specs.Conditions.{fault_of}
use Rattle.compose_check.specs.Verdict.{verdict_of}
use Rattle.compose_check.specs.declared.verdict.Verdict.{Verdict}

-- the input: a migration, and two files
pub record Input : Type 0 where
  pub migration : GivenMigration
  pub repertoire : List ℕ
  pub certificate : List ℕ

-- its parts
pub record Parts : Type 0 where
  pub names : KeysymNames
  pub keys : List ℕ
  pub old : List Definition
  pub new : List Definition
  pub repertoire : Repertoire
  pub certificate : Certificate

-- the parts of a migration that was read, or the first of the other two that is refused
abbrev pub certified_parts : migrations.Parts → List ℕ → List ℕ → Result Parts NoAnswer
certified_parts m repertoire certificate = do
  r ← or_because no_repertoire (repertoire_of repertoire)
  c ← or_because no_certificate (certificate_of certificate)
  Ok (record { names = m.names; keys = m.keys; old = m.old; new = m.new; repertoire = r; certificate = c })

-- the parts, or the first one that is refused
abbrev pub parts_of : Input → Result Parts NoAnswer
parts_of input = do
  m ← migration_of input.migration
  certified_parts m input.repertoire input.certificate

-- the same input with these key names
abbrev pub with_key_names : List (List ℕ) → Input → Input
with_key_names key_names input = record input { migration = record input.migration { key_names = key_names } }

-- the parts of a check whose fresh keysyms have to be among those of the key names, which are read
-- after the names
abbrev pub allowed_parts : List (List ℕ) → Input → Result Parts NoAnswer
allowed_parts key_names input = parts_of (with_key_names key_names input)

-- the verdict on them
abbrev pub verdict_on : Parts → Verdict
verdict_on p = verdict_of (fault_of p.names p.old p.new p.repertoire p.certificate)
