-- Where the files of a table are (this project's profile: docs/FORMATS.md).
use Rattle.std.specs.Prelude.{zero, suc, ◌≡◌, ◌==◌, if◌then◌else◌, ℕ, Bool, true, false, List, [], ◌∷◌, ◌++◌, take, drop, Option, Some, None, codes}
use Rattle.std.specs.Str.Pattern.{FindsText}
use Rattle.compose_read.specs.Lines.{Source}
use Rattle.compose_read.specs.Sources.{add_fault}
use Rattle.compose_read.specs.declared.sources.SourceFault.{SourceFault}

abbrev pub is_absolute : List ℕ → Bool
is_absolute [] = false
is_absolute (c ∷ path) = c == 47

-- what stands between a folder and a path from it, as rsync writes it
abbrev pub here : List ℕ
here = codes "/./"

-- the path, from this folder if it is a relative one
abbrev pub path_from : List ℕ → List ℕ → List ℕ
path_from folder path = if is_absolute path then path else folder ++ (here ++ path)

-- the folder of a path from a folder, and the rest of it
abbrev pub GoesFrom : List ℕ → Option (List ℕ × List ℕ) → Type 0
GoesFrom path None = FindsText here path None
GoesFrom path (Some parts) = (at : ℕ) × (behind : ℕ) × FindsText here path (Some (at, behind)) × (parts.0 ≡ take at path) × (parts.1 ≡ drop behind path)

-- a path from a folder without the mark
abbrev pub plain : List ℕ → Option (List ℕ × List ℕ) → List ℕ
plain path None = path
plain path (Some parts) = parts.0 ++ (codes "/" ++ parts.1)

-- a relative path from the folder of another path
abbrev pub beside : Option (List ℕ × List ℕ) → List ℕ → Option (List ℕ)
beside None path = None
beside (Some parts) path = Some (parts.0 ++ (codes "/" ++ path))

-- the path without the mark
abbrev pub IsPlainPath : List ℕ → List ℕ → Type 0
IsPlainPath path result = (parts : Option (List ℕ × List ℕ)) × GoesFrom path parts × (result ≡ plain path parts)

-- where the file of a source is, by whether its name is absolute, in a table whose first source has
-- the name `root`: a relative path goes from the folder that `root` says, and nowhere if it says
-- none
abbrev pub IsFileBy : Bool → List ℕ → List ℕ → Option (List ℕ) → Type 0
IsFileBy true root name path = (found : List ℕ) × IsPlainPath name found × (path ≡ Some found)
IsFileBy false root name path = (parts : Option (List ℕ × List ℕ)) × GoesFrom root parts × (path ≡ beside parts name)

abbrev pub IsFilePath : List ℕ → List ℕ → Option (List ℕ) → Type 0
IsFilePath root name path = IsFileBy (is_absolute name) root name path

-- the sources, the first one by its path from this folder
abbrev pub named_from : List ℕ → List Source → List Source
named_from folder [] = []
named_from folder (s ∷ sources) = record { name = path_from folder s.name; bytes = s.bytes } ∷ sources

-- one of the sources can't be added to those before it, once the first one is named so
pub record CannotBeNamed (folder : List ℕ) (sources : List Source) (e : SourceFault) : Type 0 where
  pub before : List Source
  pub source : Source
  pub behind : List Source
  pub has : sources ≡ before ++ source ∷ behind
  pub fault : add_fault (named_from folder before) source.name ≡ Some e

-- ---- definitions for private functions

-- the name that the source at this index gets
abbrev pub name_at : List ℕ → ℕ → List ℕ → List ℕ
name_at folder zero name = path_from folder name
name_at folder (suc index) name = name
