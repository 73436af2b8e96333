-- What the calls of a function make of the folder (this project's profile of a file system that
-- keeps the order of changes, as a journal does).
use Rattle.std.specs.Prelude.{◌≡◌, Bool, List, [], ◌∷◌, ◌++◌, Option}
use Rattle.std.specs.declared.io.ErrorKind.{ErrorKind}
use Rattle.compose_stored.specs.Folder.{Call, Files, AtEachMoment, AtTheEnd, more, synced, failed}

-- these calls were made one after another. Whatever the folder was before them, a power cut at any
-- moment leaves one that is to it as `Moment` says; and once all calls have reached the disk, it is
-- to it as `Ending` says
pub record Changes (Moment Ending : Files → Files → Type 0) (old new : Option (List Call)) : Type 0 where
  pub made : List Call
  pub calls : new ≡ more old made
  pub moments : (f : Files) → AtEachMoment (Moment f) made f
  pub ending : (f : Files) → AtTheEnd (Ending f) made f

-- the same, by calls of which this holds
abbrev pub ChangesBy : (List Call → Type 0) → (Files → Files → Type 0) → (Files → Files → Type 0) → Option (List Call) → Option (List Call) → Type 0
ChangesBy Made Moment Ending old new = (changes : Changes Moment Ending old new) × Made changes.made

-- the last of these calls waits until they all are on the disk, if the disk can be waited for
abbrev pub EndsWaiting : List Call → Type 0
EndsWaiting calls = (before : List Call) × (done : Bool) × (calls ≡ before ++ synced done ∷ [])

-- one of these calls failed, for this reason
abbrev pub Fails : ErrorKind → List Call → Type 0
Fails why calls = (before later : List Call) × (calls ≡ before ++ failed why ∷ later)

abbrev pub SomeFails : List Call → Type 0
SomeFails calls = (why : ErrorKind) × Fails why calls
