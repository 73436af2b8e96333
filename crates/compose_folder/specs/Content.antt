-- What a folder holds, and what was read from it (this project's profile).
use Rattle.std.specs.Prelude.{◌≡◌, ℕ, cond, List, [], ◌∷◌, ◌++◌, map, bytes_eq, Option, Some, None, option_map, Result, Ok, Err}
use Rattle.std.specs.List.{list_any, find}
use Rattle.std.specs.declared.vec.Vec.{Vec}
use Rattle.std.specs.declared.alloc.Global.{Global}
use Rattle.std.specs.declared.io.ErrorKind.{ErrorKind}
use Rattle.std.specs.declared.io.ErrorKind.TheVariants.{NotFound}

-- what a path leads to: the bytes of a file, or the reason why it cannot be read
pub data Content : Type 0 where
  File : List ℕ → Content
  Unreadable : ErrorKind → Content

-- a path, and what was found there
pub record Entry : Type 0 where
  pub path : List ℕ
  pub content : Content

abbrev pub paths_of : List Entry → List (List ℕ)
paths_of entries = map (λ e. e.path) entries

abbrev pub contents_of : List Entry → List Content
contents_of entries = map (λ e. e.content) entries

abbrev pub content_or_missing : Option Entry → Content
content_or_missing (Some entry) = entry.content
content_or_missing None = Unreadable NotFound

-- the content of a path in a folder with these entries: that of its first entry with this path
abbrev pub held : List Entry → List ℕ → Content
held folder path = content_or_missing (find (λ e. bytes_eq path e.path) folder)

-- the folder has this content under the path, if it is known what the folder holds
abbrev pub IsHeld : Option (List Entry) → List ℕ → Content → Type 0
IsHeld None path content = Unit {0}
IsHeld (Some folder) path content = held folder path ≡ content

-- each entry has the content of its path in the folder, if it is known what the folder holds
abbrev pub AreHeld : Option (List Entry) → List Entry → Type 0
AreHeld None entries = Unit {0}
AreHeld (Some folder) entries = contents_of entries ≡ map (held folder) (paths_of entries)

-- the content that a read found
abbrev pub content_of : Result (Vec ℕ Global) ErrorKind → Content
content_of (Ok bytes) = File bytes.items
content_of (Err kind) = Unreadable kind

-- the path, unless it is one of these
abbrev pub unless_seen : List (List ℕ) → List ℕ → List (List ℕ)
unless_seen seen path = cond (list_any (bytes_eq path) seen) [] (path ∷ [])

-- the paths that were asked for, and these after them, if they are known
abbrev pub then_asked : Option (List (List ℕ)) → List (List ℕ) → Option (List (List ℕ))
then_asked asked paths = option_map (λ before. before ++ paths) asked
