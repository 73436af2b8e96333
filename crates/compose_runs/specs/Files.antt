-- The files of tables, as the commands read them (this project's profile).
use Rattle.std.specs.Prelude.{ℕ, List, ◌++◌, Option, string_bytes}
use Rattle.compose_folder.specs.Content.{Entry}
use Rattle.compose_input.specs.Names.{AreNames}
use Rattle.compose_input.specs.Tables.{IsListed, sources_of}
use Rattle.compose_migration.specs.Migration.{GivenMigration}
use Rattle.compose_runs.specs.declared.files.MigrationFiles.{MigrationFiles}

-- the input of a migration, with these names of fresh keysyms
abbrev pub migration_given : MigrationFiles → List (List ℕ) → GivenMigration
migration_given files fresh = record { header = files.names.lines.items; key_names = fresh; old = sources_of files.old; new = sources_of files.new }

-- the notes on where the files lie
abbrev pub notes_of : MigrationFiles → List ℕ
notes_of files = string_bytes files.old.note ++ string_bytes files.new.note

-- the names, and both tables of the manifests at these paths
pub record AreMigrationFiles (folder : Option (List Entry)) (names : List (List ℕ)) (old new : List ℕ) (files : MigrationFiles) : Type 0 where
  pub are_names : AreNames folder names files.names
  pub is_old : IsListed folder old files.old
  pub is_new : IsListed folder new files.new
