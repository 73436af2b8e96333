-- The input of a migration and what is read of it, as values.
use Rattle.std.specs.Prelude.{List, map}
use Rattle.compose_model.specs.Table.{Definition}
use Rattle.compose_migration.specs.Migration.{TableSources, GivenMigration, NamedParts, Parts}
use Rattle.compose_migration.specs.declared.migration.TableInput.{TableInput}
use Rattle.compose_migration.specs.declared.migration.MigrationInput.{MigrationInput}
use Rattle.compose_migration.specs.declared.migration.Named.{Named}
use Rattle.compose_migration.specs.declared.migration.Migration.{Migration}

abbrev pub table_given : TableInput → TableSources
table_given input = record { sources = input.sources.now; rule = input.rule }

abbrev pub given_of : MigrationInput → GivenMigration
given_of input = record { header = input.header.now; key_names = map (λ key_name. key_name.now) input.key_names.now; old = table_given input.old; new = table_given input.new }

-- what is read
abbrev pub named_parts : Named → NamedParts
named_parts read = record { names = read.names; keys = read.keys.items }

abbrev pub parts : {T : Type 0} → (T → List Definition) → Migration T → Parts
parts view m = record { names = m.names; keys = m.keys.items; old = view m.old; new = view m.new }
