-- What a command reads from a folder (this project's profile). If it is not known what the folder
-- has, nothing is stated.
use Rattle.std.specs.Prelude.{◌≡◌, ℕ, if◌then◌else◌, List, [], ◌∷◌, Option, Some, None, Result, Ok, Err, string_bytes, codes, bytes_eq}
use Rattle.std.specs.declared.alloc.Global.{Global}
use Rattle.std.specs.declared.io.ErrorKind.{ErrorKind}
use Rattle.std.specs.declared.alloc.AllocError.{AllocError}
use Rattle.std.specs.declared.string.String.{String}
use Rattle.std.specs.declared.vec.Vec.{Vec}
use Rattle.compose_folder.specs.Content.{Entry, File, Unreadable, IsHeld}
use Rattle.compose_input.specs.declared.fault.Fault.{Fault}
use Rattle.compose_input.specs.declared.fault.Fault.TheVariants as faults

-- the bytes of the file under the path, or that it can't be read and the reason; no other fault
abbrev pub IsRead : Option (List Entry) → List ℕ → Result (Vec ℕ Global) Fault → Type 0
IsRead folder path (Ok bytes) = IsHeld folder path (File bytes.items)
IsRead folder path (Err (faults.Unread unopened)) = (string_bytes unopened.path ≡ path) × IsHeld folder path (Unreadable unopened.kind)
IsRead folder path (Err faults.NoMemory) = Unit {0}
IsRead folder path (Err fault) = ⊥

-- the fault that the file under the path can't be read, with the reason, unless memory ran out for
-- reporting it
abbrev pub IsUnread : List ℕ → ErrorKind → Fault → Type 0
IsUnread path kind (faults.Unread unopened) = (string_bytes unopened.path ≡ path) × (unopened.kind ≡ kind)
IsUnread path kind faults.NoMemory = Unit {0}
IsUnread path kind fault = ⊥

-- the file's path as it is opened: a hyphen (code 45) that is written in a file is a file name
abbrev pub named : List ℕ → List ℕ
named path = if bytes_eq path (45 ∷ []) then codes "./-" else path

-- a file was found under the path, or none can be read there
abbrev pub IsFound : Option (List Entry) → List ℕ → Option (List ℕ) → Type 0
IsFound folder path (Some bytes) = IsHeld folder path (File bytes)
IsFound None path None = Unit {0}
IsFound (Some entries) path None = (kind : ErrorKind) × IsHeld (Some entries) path (Unreadable kind)

-- the fault that this part is refused, with the reason, unless memory ran out for reporting it
abbrev pub IsRefused : List ℕ → Result (String Global) AllocError → Fault → Type 0
IsRefused part expected (faults.Refused p text) = (p.now ≡ part) × (expected ≡ Ok text)
IsRefused part expected faults.NoMemory = (error : AllocError) × (expected ≡ Err error)
IsRefused part expected fault = ⊥

-- the fault that the socket at this path can't be used, with the reason, unless memory ran out for
-- reporting it
abbrev pub IsSocket : Result (String Global) AllocError → ErrorKind → Fault → Type 0
IsSocket path kind (faults.Socket unopened) = (path ≡ Ok unopened.path) × (unopened.kind ≡ kind)
IsSocket path kind faults.NoMemory = (error : AllocError) × (path ≡ Err error)
IsSocket path kind fault = ⊥
