-- The files of a check (this project's profile).
use Rattle.std.specs.Prelude.{ℕ, List, [], Option}
use Rattle.compose_folder.specs.Content.{Entry, File, IsHeld}
use Rattle.compose_check.specs.Input.{Input}
use Rattle.compose_arguments.specs.declared.given_tables.FilePair.{FilePair}
use Rattle.compose_runs.specs.DiffFiles.{AreFoundFiles}
use Rattle.compose_runs.specs.Files.{AreMigrationFiles, migration_given}
use Rattle.compose_runs.specs.declared.checking.CheckFiles.{CheckFiles}
use Rattle.compose_runs.specs.declared.checking.CheckPaths.{CheckPaths}
use Rattle.compose_runs.specs.declared.checking.CheckTexts.{CheckTexts}
use Rattle.compose_given.specs.declared.environment.Environment.{Environment}

-- the input of the check, from these files
abbrev pub check_given : CheckFiles → Input
check_given check = record { migration = migration_given check.both []; repertoire = check.repertoire.items; certificate = check.certificate.items }

-- the names, both tables, the repertoire and the certificate at these paths
pub record AreCheckFiles (folder : Option (List Entry)) (names : List (List ℕ)) (paths : CheckPaths) (check : CheckFiles) : Type 0 where
  pub both : AreMigrationFiles folder names paths.tables.old.now paths.tables.new.now check.both
  pub repertoire : IsHeld folder paths.repertoire.now (File check.repertoire.items)
  pub certificate : IsHeld folder paths.certificate.now (File check.certificate.items)

-- the same for Compose files
pub record AreFoundCheckFiles (folder : Option (List Entry)) (environment : Environment) (names : List (List ℕ)) (pair : FilePair) (texts : CheckTexts) (check : CheckFiles) : Type 0 where
  pub both : AreFoundFiles folder environment names pair check.both
  pub repertoire : IsHeld folder texts.repertoire.now (File check.repertoire.items)
  pub certificate : IsHeld folder texts.certificate.now (File check.certificate.items)
