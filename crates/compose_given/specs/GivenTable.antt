-- A table that is given as its manifest or as its Compose file, and the names for it (defined by
-- this project).
use Rattle.std.specs.Prelude.{◌≡◌, ℕ, Bool, true, false, List, [], Option, option_copied, string_bytes}
use Rattle.compose_folder.specs.Content.{Entry}
use Rattle.compose_arguments.specs.declared.given_tables.TypeTable.{TypeTable}
use Rattle.compose_arguments.specs.declared.given_tables.TypeTable.TheVariants.{Manifest, File}
use Rattle.compose_arguments.specs.declared.table_arguments.TableArguments.{TableArguments}
use Rattle.compose_input.specs.Faults.{FailsListed}
use Rattle.compose_input.specs.Tables.{IsListed}
use Rattle.compose_input.specs.declared.fault.Fault.{Fault}
use Rattle.compose_input.specs.declared.places.Places.{Places}
use Rattle.compose_given.specs.Environment.{IsPlaced}
use Rattle.compose_given.specs.Faults.{FailsChosenTable, FailsPlaced, OrMemory}
use Rattle.compose_given.specs.Noted.{IsNotedTable, table_places}
use Rattle.compose_given.specs.declared.environment.Environment.{Environment}
use Rattle.compose_given.specs.declared.chosen.NotedTable.{NotedTable}

-- the table of the manifest at this path, without notes
abbrev pub IsListedTable : Option (List Entry) → List ℕ → NotedTable → Type 0
IsListedTable folder path read = IsListed folder path read.table × (string_bytes read.notes ≡ [])

-- the table of a Compose file, at the place that the arguments or the environment name
pub record IsSystemTable (folder : Option (List Entry)) (environment : Environment) (arguments : TableArguments) (read : NotedTable) : Type 0 where
  pub places : Places
  pub are_places : IsPlaced environment (table_places arguments) places
  pub is : IsNotedTable folder environment places arguments read

abbrev pub IsGivenTable : Option (List Entry) → Environment → TypeTable → NotedTable → Type 0
IsGivenTable folder environment (Manifest path) read = IsListedTable folder path.now read
IsGivenTable folder environment (File arguments) read = IsSystemTable folder environment arguments read

abbrev pub HasGivenTable : Option (List Entry) → Environment → TypeTable → Type 0
HasGivenTable folder environment given = (read : NotedTable) × IsGivenTable folder environment given read

-- why a Compose file can't be read: the environment, the table
abbrev pub FailsSystemTable : Option (List Entry) → Environment → TableArguments → Fault → Type 0
FailsSystemTable folder environment arguments fault =
    OrMemory (FailsPlaced environment (table_places arguments) (λ places f. FailsChosenTable folder environment places (option_copied arguments.file) f)) fault

-- the same for either; the fault of a source that a manifest lists names this part
abbrev pub FailsGivenTable : Option (List Entry) → Environment → List ℕ → TypeTable → Fault → Type 0
FailsGivenTable folder environment part (Manifest path) fault = FailsListed folder part path.now fault
FailsGivenTable folder environment part (File arguments) fault = FailsSystemTable folder environment arguments fault
