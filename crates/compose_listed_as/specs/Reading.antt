-- How the files of a table are read, one after another. Definitions for private functions.
use Rattle.std.specs.Prelude.{◌≡◌, ◌⊎◌, ℕ, false, List, [], ◌∷◌, ◌++◌, flat_map, take, Option, Some, None}
use Rattle.std.specs.List.{All}
use Rattle.compose_folder.specs.Content.{Entry, File, IsHeld}
use Rattle.compose_input.specs.Search.{opened}
use Rattle.compose_readers.specs.Files.{FileRead}
use Rattle.compose_readers.specs.declared.xkbcommon.Version.{Version}
use Rattle.compose_listed_as.specs.Reached.{IsFile, IsMissing, IsThere, AreLedTo, includes_of, is_among}

-- the same, where only these includes have been looked at
pub record AreReachedBy (folder : Option (List Entry)) (version : Version) (root : List ℕ) (looked : List (List ℕ)) (files : List FileRead) : Type 0 where
  pub first : FileRead
  pub others : List FileRead
  pub are : files ≡ first ∷ others
  pub at_root : first.path ≡ root
  pub held : All (IsFile folder version root) files
  pub led_to : AreLedTo (first ∷ []) others
  pub whole : All (IsThere folder root files) looked

-- the includes of the first files
abbrev pub includes_before : List FileRead → ℕ → List (List ℕ)
includes_before files count = flat_map includes_of (take count files)

-- the bytes of the file at a path, if one can be read there
abbrev pub IsFoundAt : Option (List Entry) → List ℕ → List ℕ → Option (List ℕ) → Type 0
IsFoundAt folder root path (Some bytes) = IsHeld folder (opened root path) (File bytes)
IsFoundAt folder root path None = IsMissing folder root path

-- a file more at the end
abbrev pub AddsFile : Option (List Entry) → Version → List ℕ → List ℕ → List FileRead → List FileRead → Type 0
AddsFile folder version root path old new = (file : FileRead) × (new ≡ old ++ file ∷ []) × (file.path ≡ path) × IsFile folder version root file

-- the file at this path, unless it is there or can't be read
abbrev pub AddsPath : Option (List Entry) → Version → List ℕ → List ℕ → List FileRead → List FileRead → Type 0
AddsPath folder version root path old new = ((new ≡ old) × IsThere folder root old path) ⊎ ((is_among old path ≡ false) × AddsFile folder version root path old new)
