-- What `manifest` prints (this project's profile).
use Rattle.std.specs.Prelude.{◌⊎◌, ℕ, List, [], ◌∷◌, ◌++◌, Option, option_copied, string_bytes, codes}
use Rattle.compose_folder.specs.Content.{Entry}
use Rattle.compose_find.specs.Found.{FoundSource}
use Rattle.compose_find.specs.declared.table.FoundTable.{FoundTable}
use Rattle.compose_manifest.specs.Text.{manifest_bytes, ReadsAs}
use Rattle.compose_arguments.specs.declared.manifest_arguments.ManifestArguments.{ManifestArguments}
use Rattle.compose_input.specs.Search.{IsSystemTable, IsNote}
use Rattle.compose_input.specs.declared.places.Places.{Places}
use Rattle.compose_answer.specs.declared.answer.Ended.TheVariants.{Yes, Refused}
use Rattle.compose_report.specs.Outcomes.{IsNoted, PrintsOutput, PrintsErrors}
use Rattle.compose_report.specs.declared.outcome.Outcome.{Outcome}
use Rattle.compose_given.specs.Environment.{IsPlaced}
use Rattle.compose_given.specs.Own.{IsChosen}
use Rattle.compose_given.specs.declared.environment.Environment.{Environment}
use Rattle.compose_given.specs.declared.environment.PlaceArguments.{PlaceArguments}
use Rattle.compose_given.specs.declared.chosen.ChosenFile.{ChosenFile}

-- the message that the sources can't be listed
abbrev pub PrintsRefusal : Outcome → Type 0
PrintsRefusal outcome = PrintsErrors (codes "composecheck: a name or a path can't stand in a manifest, as one with a newline or a tab\n") Refused outcome

-- the manifest of the sources, which when read lists them; or a refusal, if a manifest can't
-- contain a name or a path
abbrev pub IsWrittenManifest : List FoundSource → Outcome → Type 0
IsWrittenManifest found outcome =
    (ReadsAs (manifest_bytes found) found × PrintsOutput (manifest_bytes found) Yes outcome) ⊎ ((¬ (ReadsAs (manifest_bytes found) found)) × PrintsRefusal outcome)

-- the same with notes on where the files lie
pub record IsManifestOutcome (places : Places) (file : List ℕ) (found : List FoundSource) (outcome : Outcome) : Type 0 where
  pub notes : List ℕ
  pub are_notes : IsNote places file found notes
  pub written : Outcome
  pub is : IsWrittenManifest found written
  pub noted : IsNoted notes written outcome

-- the arguments that say where tables lie
abbrev pub place_arguments : ManifestArguments → PlaceArguments
place_arguments arguments = record { system = arguments.system; locale = arguments.locale; root = arguments.root }

-- the same on the files in the folder, in this environment, after a note on the file if it was not
-- given
pub record IsManifestRun (folder : Option (List Entry)) (environment : Environment) (arguments : ManifestArguments) (outcome : Outcome) : Type 0 where
  pub places : Places
  pub are_places : IsPlaced environment (place_arguments arguments) places
  pub file : ChosenFile
  pub is_file : IsChosen folder environment places (option_copied arguments.file) file
  pub table : FoundTable
  pub is_table : IsSystemTable folder places (string_bytes file.path) table
  pub found : Outcome
  pub is : IsManifestOutcome places (string_bytes file.path) table.files.items found
  pub noted : IsNoted (string_bytes file.note ++ string_bytes found.notes) found outcome
