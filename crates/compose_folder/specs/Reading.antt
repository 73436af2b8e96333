-- The result of reading a file, unless memory runs out (this project's profile).
use Rattle.std.specs.Prelude.{◌≡◌, ℕ, List, Option, Some, None, Result, Ok, Err}
use Rattle.std.specs.declared.vec.Vec.{Vec}
use Rattle.std.specs.declared.alloc.Global.{Global}
use Rattle.compose_folder.specs.declared.reading.Unread.{Unread}
use Rattle.compose_folder.specs.declared.reading.Unread.TheVariants.{Refused, NoMemory}
use Rattle.compose_folder.specs.Content.{Entry, File, Unreadable, held, then_asked}

-- the bytes of the file under the path, or the reason why it cannot be read, if it is known what
-- the folder holds
abbrev pub Reads : Option (List Entry) → List ℕ → Result (Vec ℕ Global) Unread → Type 0
Reads None path r = Unit {0}
Reads (Some folder) path (Err NoMemory) = Unit {0}
Reads (Some folder) path (Ok bytes) = held folder path ≡ File bytes.items
Reads (Some folder) path (Err (Refused kind)) = held folder path ≡ Unreadable kind

-- exactly these paths were asked for
abbrev pub Asks : {X : Type 0} → Option (List (List ℕ)) → Option (List (List ℕ)) → List (List ℕ) → Result X Unread → Type 0
Asks asked asked' paths (Err NoMemory) = Unit {0}
Asks asked asked' paths (Ok x) = asked' ≡ then_asked asked paths
Asks asked asked' paths (Err (Refused kind)) = asked' ≡ then_asked asked paths
