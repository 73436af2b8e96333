-- `list --as`: a Compose file as another reader has it (this project's profile).
use Rattle.std.specs.Prelude.{◌≡◌, ◌⊎◌, Bool, true, false, ℕ, List, Option, None, Ok, Err, option_copied, string_bytes}
use Rattle.builtin_names.specs.declared.lines.TheConstants.{LINES}
use Rattle.keysym_core.specs.Header.{names_of}
use Rattle.keysym_core.specs.Names.{KeysymNames}
use Rattle.compose_folder.specs.Content.{Entry}
use Rattle.compose_answer.specs.declared.answer.Ended.{Ended}
use Rattle.compose_answer.specs.declared.answer.Ended.TheVariants.{Yes, Refused}
use Rattle.compose_arguments.specs.declared.list_arguments.ListAsArguments.{ListAsArguments}
use Rattle.compose_arguments.specs.declared.list_arguments.TableReader.{TableReader}
use Rattle.compose_arguments.specs.declared.list_arguments.TableReader.TheVariants.{Libxkbcommon1_5, Libxkbcommon1_7}
use Rattle.compose_given.specs.Environment.{IsPlaced}
use Rattle.compose_given.specs.Faults.{FailsChosen, FailsPlaced, OrMemory}
use Rattle.compose_given.specs.Own.{IsChosen}
use Rattle.compose_given.specs.declared.chosen.ChosenFile.{ChosenFile}
use Rattle.compose_given.specs.declared.environment.Environment.{Environment}
use Rattle.compose_given.specs.declared.environment.PlaceArguments.{PlaceArguments}
use Rattle.compose_input.specs.Texts.{IsRead}
use Rattle.compose_input.specs.declared.fault.Fault.{Fault}
use Rattle.compose_input.specs.declared.places.Places.{Places}
use Rattle.compose_readers.specs.Files.{FileRead}
use Rattle.compose_readers.specs.declared.xkbcommon.Version.{Version}
use Rattle.compose_readers.specs.declared.xkbcommon.Version.TheVariants.{V1_5, V1_7}
use Rattle.compose_report.specs.declared.outcome.Outcome.{Outcome}
use Rattle.compose_listed_as.specs.Listed.{IsListedAs}
use Rattle.compose_listed_as.specs.Reached.{AreReached}
use Rattle.compose_listed_as.specs.declared.listed.ListedAs.{ListedAs}

-- ---- the arguments

abbrev pub place_arguments : ListAsArguments → PlaceArguments
place_arguments arguments = record { system = arguments.system; locale = arguments.locale; root = None }

abbrev pub version_of : TableReader → Version
version_of Libxkbcommon1_5 = V1_5
version_of Libxkbcommon1_7 = V1_7

-- ---- the table

-- the files to which includes lead from this path, and the table that the reader has of them, with
-- the names that are built in
pub record IsListedAt (folder : Option (List Entry)) (version : Version) (path : List ℕ) (listed : ListedAs) : Type 0 where
  pub files : List FileRead
  pub are_files : AreReached folder version path files
  pub names : KeysymNames
  pub are_names : names_of LINES.now ≡ Ok names
  pub is : IsListedAs version names files listed

-- ---- the run

abbrev pub end_of : Bool → Ended
end_of true = Refused
end_of false = Yes

-- the lines on standard output, and the report on standard error, after this note
pub record PrintsListed (note : List ℕ) (listed : ListedAs) (outcome : Outcome) : Type 0 where
  pub notes : string_bytes outcome.notes ≡ note
  pub output : outcome.output ≡ listed.lines
  pub errors : outcome.errors ≡ listed.report
  pub file : outcome.file ≡ None
  pub ended : outcome.ended ≡ end_of listed.is_refused

-- of the given Compose file, or otherwise the user's, with a note on it
pub record IsListAsRun (folder : Option (List Entry)) (environment : Environment) (arguments : ListAsArguments) (outcome : Outcome) : Type 0 where
  pub places : Places
  pub are_places : IsPlaced environment (place_arguments arguments) places
  pub file : ChosenFile
  pub is_file : IsChosen folder environment places (option_copied arguments.file) file
  pub listed : ListedAs
  pub is_listed : IsListedAt folder (version_of arguments.reader) (string_bytes file.path) listed
  pub printed : PrintsListed (string_bytes file.note) listed outcome

-- the choice of the file, and then the reading of it
abbrev pub FailsFile : Option (List Entry) → Environment → Option (List ℕ) → Places → Fault → Type 0
FailsFile folder environment given places fault =
    FailsChosen environment places given fault ⊎ ((file : ChosenFile) × IsChosen folder environment places given file × IsRead folder (string_bytes file.path) (Err fault))

abbrev pub FailsListAs : Option (List Entry) → Environment → ListAsArguments → Fault → Type 0
FailsListAs folder environment arguments fault = OrMemory (FailsPlaced environment (place_arguments arguments) (FailsFile folder environment (option_copied arguments.file))) fault
