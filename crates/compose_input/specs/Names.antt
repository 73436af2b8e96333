-- Files of names, read from a folder (this project's profile).
use Rattle.std.specs.Prelude.{◌≡◌, ℕ, List, [], ◌∷◌, ◌++◌, map, flat_map, Option, All, MatchBool, bytes_eq, codes}
use Rattle.builtin_names.specs.declared.lines.TheConstants.{LINES}
use Rattle.compose_folder.specs.Content.{Entry, File, IsHeld}
use Rattle.compose_input.specs.Headers.{ended, line_count}
use Rattle.compose_input.specs.declared.names.NameFiles.{NameFiles}

-- a name that was given for a file of names, and what is read for it
pub record NamedText : Type 0 where
  pub name : List ℕ
  pub text : List ℕ

-- `builtin` has the built-in names, and any other name is the path of a file
abbrev pub IsNamedText : Option (List Entry) → NamedText → Type 0
IsNamedText folder n = MatchBool (bytes_eq n.name (codes "builtin")) (n.text ≡ LINES.now) (IsHeld folder n.name (File n.text))

-- a file of names, and the number of lines that it adds
abbrev pub header_of : NamedText → List ℕ × ℕ
header_of n = (n.name, line_count n.text)

-- the lines of the files with these names, one file after another, and the files in this order
pub record AreNames (folder : Option (List Entry)) (names : List (List ℕ)) (read : NameFiles) : Type 0 where
  pub texts : List NamedText
  pub named : map (λ n. n.name) texts ≡ names
  pub held : All (IsNamedText folder) texts
  pub lines : read.lines.items ≡ flat_map (λ n. ended n.text) texts
  pub files : map (λ h. (h.path.now, h.lines)) read.files.items ≡ map header_of texts

-- one more file of names is read after the others
pub record AddsNames (n : NamedText) (old new : NameFiles) : Type 0 where
  pub lines : new.lines.items ≡ old.lines.items ++ ended n.text
  pub files : map (λ h. (h.path.now, h.lines)) new.files.items ≡ map (λ h. (h.path.now, h.lines)) old.files.items ++ header_of n ∷ []
