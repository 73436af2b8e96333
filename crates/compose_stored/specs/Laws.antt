-- The laws of the folder of the table in use (this project's profile).
use Rattle.std.specs.Prelude.{◌≡◌, ◌⊎◌, ◌↔◌, ◌++◌, ℕ, Bool, List, Option, Some, Result, IsTrue}
use Rattle.std.specs.declared.io.ErrorKind.{ErrorKind}
use Rattle.compose_stored.specs.Folder.{Call, Files, AtEachMoment, AtTheEnd, more}
use Rattle.compose_stored.specs.Storing.{IsRewritten, IsStored, IsTaken}

-- a test holds at each moment of calls exactly if it holds however many of the last ones have not
-- reached the disk
abbrev pub HoldsWhateverIsLost : Type 0
HoldsWhateverIsLost = (test : Files → Bool) (calls : List Call) (f : Files)
    → (AtEachMoment (λ g. IsTrue (test g)) calls f ↔ ((reached lost : List Call) → calls ≡ reached ++ lost → AtTheEnd (λ g. IsTrue (test g)) reached f))

-- at each moment the old table is in use or this one, whole
abbrev pub StaysWhole : (Files → Option (List ℕ)) → Option (List Call) → Option (List Call) → Type 0
StaysWhole table old new = (made : List Call) × (new ≡ more old made) × ((f : Files) → AtEachMoment (λ g. (g.table ≡ f.table) ⊎ (g.table ≡ table f)) made f)

abbrev pub StoredStaysWhole : Type 0
StoredStaysWhole = (bytes : List ℕ) (old new : Option (List Call)) (result : Result (Unit {0}) ErrorKind) → IsStored bytes old new result → StaysWhole (λ f. Some bytes) old new

abbrev pub RewrittenStaysWhole : Type 0
RewrittenStaysWhole = (bytes : List ℕ) (old new : Option (List Call)) (result : Result (Unit {0}) ErrorKind) → IsRewritten bytes old new result → StaysWhole (λ f. Some bytes) old new

abbrev pub TakenStaysWhole : Type 0
TakenStaysWhole = (old new : Option (List Call)) (result : Result (Unit {0}) ErrorKind) → IsTaken old new result → StaysWhole (λ f. f.next) old new
