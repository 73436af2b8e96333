-- The files of a Compose file as it lies on a system, read from a folder (this project's profile).
use Rattle.std.specs.Prelude.{◌≡◌, ℕ, not, ◌&&◌, if◌then◌else◌, List, [], ◌∷◌, map, Option, Some, None, Ok, All, option_copied, bytes_eq, codes}
use Rattle.std.specs.Option.{option_map_or}
use Rattle.compose_folder.specs.Content.{Entry}
use Rattle.compose_find.specs.Expand.{Words}
use Rattle.compose_find.specs.Found.{FoundSource, TriedFile, found, held}
use Rattle.compose_find.specs.Trees.{IsTableOf}
use Rattle.compose_find.specs.declared.table.FoundTable.{FoundTable}
use Rattle.compose_manifest.specs.Outside.{outside_text}
use Rattle.compose_input.specs.Texts.{IsFound}
use Rattle.compose_input.specs.Places.{words_with, IsLocaleTable}
use Rattle.compose_input.specs.declared.places.Places.{Places}

-- what is opened for a path: a hyphen (code 45) is standard input if it was given as the root, and
-- otherwise a file name
abbrev pub opened : List ℕ → List ℕ → List ℕ
opened root path = if bytes_eq path (45 ∷ []) && not (bytes_eq root (45 ∷ [])) then codes "./-" else path

-- each path that was searched for has what the folder has there
abbrev pub AreSearched : Option (List Entry) → List ℕ → List TriedFile → Type 0
AreSearched folder root files = All (λ f. IsFound folder (opened root f.path) f.bytes) files

-- the sources are those that the search finds in what the folder has, and each has the bytes in
-- which its includes were found
pub record IsTable (folder : Option (List Entry)) (words : Words) (root : List ℕ) (table : FoundTable) : Type 0 where
  pub files : List TriedFile
  pub looked : AreSearched folder root files
  pub found : found files words root ≡ Ok table.files.items
  pub held : table.sources ≡ map (held files) table.files.items

-- the table whose root is the file at this path, as it lies on the system
pub record IsSystemTable (folder : Option (List Entry)) (places : Places) (path : List ℕ) (table : FoundTable) : Type 0 where
  pub locale : Option (List ℕ)
  pub listed : IsLocaleTable folder places locale
  pub is : IsTable folder (words_with places locale) path table

-- ---- the notes on the places of the files

-- the tree of tables: the folder that was given, or else the one in which the path is that of a
-- locale's table
abbrev pub IsTree : Option (List ℕ) → List ℕ → Option (List ℕ) → Type 0
IsTree (Some given) path tree = tree ≡ Some given
IsTree None path (Some tree) = IsTableOf tree path
IsTree None path None = (tree : List ℕ) → ¬ (IsTableOf tree path)

-- the lines about the files that lie outside of the tree
abbrev pub IsNote : Places → List ℕ → List FoundSource → List ℕ → Type 0
IsNote places path found note = (tree : Option (List ℕ)) × IsTree (option_copied places.tree) path tree × (note ≡ option_map_or (λ t. outside_text t (option_copied places.root) found) tree [])
