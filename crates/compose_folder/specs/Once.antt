-- A folder that is asked for each path at most once (this project's profile).
use Rattle.std.specs.Prelude.{◌≡◌, ℕ, List, [], ◌∷◌, ◌++◌, Option, Result, Ok, Err}
use Rattle.std.specs.declared.vec.Vec.{Vec}
use Rattle.std.specs.declared.alloc.Global.{Global}
use Rattle.compose_folder.specs.declared.reading.Unread.{Unread}
use Rattle.compose_folder.specs.declared.reading.Unread.TheVariants.{Refused, NoMemory}
use Rattle.compose_folder.specs.Content.{Content, File, Unreadable, Entry, paths_of, unless_seen}

-- what the folder holds and the paths that it was asked for, where these are known; and the content
-- of each path that was read
pub record OnceState : Type 0 where
  pub holds : Option (List Entry)
  pub asked : Option (List (List ℕ))
  pub entries : List Entry

-- the result of reading this content, unless memory runs out
abbrev pub Returns : Content → Result (Vec ℕ Global) Unread → Type 0
Returns content (Err NoMemory) = Unit {0}
Returns content (Ok bytes) = content ≡ File bytes.items
Returns content (Err (Refused kind)) = content ≡ Unreadable kind

-- the path is among those that were read, after the others if it is new; if memory ran out, nothing
-- is kept
abbrev pub Sees : List Entry → List ℕ → List Entry → Result (Vec ℕ Global) Unread → Type 0
Sees entries path entries' (Err NoMemory) = entries' ≡ entries
Sees entries path entries' (Ok bytes) = paths_of entries' ≡ paths_of entries ++ unless_seen (paths_of entries) path
Sees entries path entries' (Err (Refused kind)) = paths_of entries' ≡ paths_of entries ++ unless_seen (paths_of entries) path

-- the content of a new path is kept after the others
abbrev pub Keeps : List Entry → List ℕ → List Entry → Result (Vec ℕ Global) Unread → Type 0
Keeps entries path entries' (Err NoMemory) = entries' ≡ entries
Keeps entries path entries' (Ok bytes) = entries' ≡ entries ++ record { path = path; content = File bytes.items } ∷ []
Keeps entries path entries' (Err (Refused kind)) = entries' ≡ entries ++ record { path = path; content = Unreadable kind } ∷ []
