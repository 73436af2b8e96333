-- Why what is given can't be read (this project's profile). Memory may run out at any time; then
-- nothing more is known.
use Rattle.std.specs.Prelude.{◌≡◌, ◌⊎◌, ℕ, List, Option, Some, None, Err, string_bytes}
use Rattle.compose_folder.specs.Content.{Entry, File, IsHeld}
use Rattle.compose_input.specs.Faults.{FailsFound}
use Rattle.compose_input.specs.Names.{AreNames}
use Rattle.compose_input.specs.declared.fault.Fault.{Fault}
use Rattle.compose_input.specs.declared.fault.Fault.TheVariants.{Word, NoMemory}
use Rattle.compose_input.specs.declared.names.NameFiles.{NameFiles}
use Rattle.compose_input.specs.declared.places.Places.{Places}
use Rattle.compose_given.specs.Environment.{IsPlaced, places_of}
use Rattle.compose_given.specs.Own.{IsChosen, own_paths}
use Rattle.compose_given.specs.declared.chosen.ChosenFile.{ChosenFile}
use Rattle.compose_given.specs.declared.environment.Environment.{Environment}
use Rattle.compose_given.specs.declared.environment.PlaceArguments.{PlaceArguments}

-- memory ran out, or the fault has this property
abbrev pub OrMemory : (Fault → Type 0) → Fault → Type 0
OrMemory Fails fault = (fault ≡ NoMemory) ⊎ Fails fault

abbrev pub HasNames : Option (List Entry) → List (List ℕ) → Type 0
HasNames folder names = (read : NameFiles) × AreNames folder names read

abbrev pub HasFile : Option (List Entry) → List ℕ → Type 0
HasFile folder path = (bytes : List ℕ) × IsHeld folder path (File bytes)

-- for the user's own file, a variable of the environment that is not UTF-8; a given file is not
-- refused here
abbrev pub FailsChosen : Environment → Places → Option (List ℕ) → Fault → Type 0
FailsChosen environment places (Some path) fault = fault ≡ NoMemory
FailsChosen environment places None fault = OrMemory (λ f. (own_paths environment places ≡ Err tt) × (f ≡ Word)) fault

-- the choice of the file, and then the search for its files
abbrev pub FailsChosenTable : Option (List Entry) → Environment → Places → Option (List ℕ) → Fault → Type 0
FailsChosenTable folder environment places given fault =
    FailsChosen environment places given fault ⊎ ((file : ChosenFile) × IsChosen folder environment places given file × FailsFound folder places (string_bytes file.path) fault)

-- a variable of the environment for places is not UTF-8; or all are UTF-8, and the fault is this
-- one
abbrev pub FailsPlaced : Environment → PlaceArguments → (Places → Fault → Type 0) → Fault → Type 0
FailsPlaced environment arguments Fails fault =
    ((places_of environment ≡ Err tt) × (fault ≡ Word)) ⊎ ((places : Places) × IsPlaced environment arguments places × Fails places fault)
