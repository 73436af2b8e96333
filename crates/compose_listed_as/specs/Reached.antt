-- The files that a reader reads for a table: those to which includes lead from its root
-- (Compose(5), "FILE DESCRIPTION"), each with what the folder has at its path.
use Rattle.std.specs.Prelude.{◌≡◌, ◌⊎◌, ℕ, Bool, true, false, bytes_eq, List, [], ◌∷◌, ◌++◌, flat_map, Option, None, IsTrue}
use Rattle.std.specs.List.{list_any, All}
use Rattle.std.specs.Str.{is_utf8}
use Rattle.compose_folder.specs.Content.{Entry, File, IsHeld}
use Rattle.compose_input.specs.Search.{opened}
use Rattle.compose_input.specs.Texts.{IsFound}
use Rattle.compose_readers.specs.Files.{AreLinesOf, LineEnd, nothing, left_out, includes, FileRead}
use Rattle.compose_readers.specs.Xkbcommon.{behind_mark, refusal_of}
use Rattle.compose_readers.specs.declared.xkbcommon.Version.{Version}

-- ---- a file

-- it is what the reader makes of the bytes that the folder has at its path
pub record IsFile (folder : Option (List Entry)) (version : Version) (root : List ℕ) (file : FileRead) : Type 0 where
  pub bytes : List ℕ
  pub held : IsHeld folder (opened root file.path) (File bytes)
  pub lines : AreLinesOf file.lines (behind_mark version bytes)
  pub refusal : file.refusal ≡ refusal_of version bytes

abbrev pub included : LineEnd → List (List ℕ)
included nothing = []
included (left_out cause) = []
included (includes path) = path ∷ []

-- the paths that its lines include
abbrev pub includes_of : FileRead → List (List ℕ)
includes_of file = flat_map (λ line. included line.end) file.lines

-- ---- files

-- one of them has this path
abbrev pub is_among : List FileRead → List ℕ → Bool
is_among files path = list_any (λ file. bytes_eq file.path path) files

-- one of them includes this path
abbrev pub is_included : List FileRead → List ℕ → Bool
is_included files path = list_any (bytes_eq path) (flat_map includes_of files)

-- nothing can be read at the path, which may be no text at all
abbrev pub IsMissing : Option (List Entry) → List ℕ → List ℕ → Type 0
IsMissing folder root path = IsTrue (is_utf8 path) → IsFound folder (opened root path) None

abbrev pub IsThere : Option (List Entry) → List ℕ → List FileRead → List ℕ → Type 0
IsThere folder root files path = (is_among files path ≡ true) ⊎ IsMissing folder root path

-- each of the others has a path of its own, which one of those before it includes
abbrev pub AreLedTo : List FileRead → List FileRead → Type 0
AreLedTo before [] = Unit {0}
AreLedTo before (file ∷ others) = (is_among before file.path ≡ false) × (is_included before file.path ≡ true) × AreLedTo (before ++ file ∷ []) others

-- the file at this path, and all files to which includes lead from it, each once
pub record AreReached (folder : Option (List Entry)) (version : Version) (root : List ℕ) (files : List FileRead) : Type 0 where
  pub first : FileRead
  pub others : List FileRead
  pub are : files ≡ first ∷ others
  pub at_root : first.path ≡ root
  pub held : All (IsFile folder version root) files
  pub led_to : AreLedTo (first ∷ []) others
  pub whole : All (IsThere folder root files) (flat_map includes_of files)
