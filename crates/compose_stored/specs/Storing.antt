-- What becomes of the folder of the table in use, for each folder `f` before a call and each folder
-- `g` that a power cut may leave (this project's profile: the old table or the new one, whole). The
-- reason of an error is always that of a call that failed.
use Rattle.std.specs.Prelude.{◌≡◌, ◌⊎◌, ℕ, List, Option, Some, None, Result, Ok, Err}
use Rattle.std.specs.declared.io.ErrorKind.{ErrorKind}
use Rattle.compose_stored.specs.Folder.{Call, Files}
use Rattle.compose_stored.specs.Changes.{ChangesBy, EndsWaiting, Fails, SomeFails}

-- ---- the table in use changes, and the old one is kept

-- this table is in use, `next` has this, and no table that is being handed over has changed
pub record InUse (table next : Option (List ℕ)) (f g : Files) : Type 0 where
  pub table_is : g.table ≡ table
  pub next_is : g.next ≡ next
  pub new_next : g.new_next ≡ f.new_next

-- the old table is in use, and the previous one is as before, or is already what is kept
abbrev pub OldInUse : (Files → Option (List ℕ)) → Files → Files → Type 0
OldInUse kept f g = InUse f.table f.next f g × ((g.previous ≡ f.previous) ⊎ (g.previous ≡ kept f))

-- this table is in use, `next` has this, and the previous one is what is kept
abbrev pub NewInUse : (Files → Option (List ℕ)) → Option (List ℕ) → Option (List ℕ) → Files → Files → Type 0
NewInUse kept table next f g = InUse table next f g × (g.previous ≡ kept f)

-- this table is put in use, `next` has this then, and the previous one is what is kept
abbrev pub PutsInUse : (Files → Option (List ℕ)) → (List Call → Type 0) → (Files → Option (List ℕ)) → (Files → Option (List ℕ)) → Option (List Call) → Option (List Call) → Result (Unit {0}) ErrorKind → Type 0
PutsInUse kept Made table next old new (Ok done) =
    ChangesBy (λ calls. EndsWaiting calls × Made calls) (λ f g. OldInUse kept f g ⊎ NewInUse kept (table f) (next f) f g) (λ f. NewInUse kept (table f) (next f) f) old new
PutsInUse kept Made table next old new (Err why) = ChangesBy (Fails why) (OldInUse kept) (OldInUse kept) old new

-- the old table is kept as the previous one; or a call fails, and none is kept
abbrev pub TakesPlace : (Files → Option (List ℕ)) → (Files → Option (List ℕ)) → Option (List Call) → Option (List Call) → Result (Unit {0}) ErrorKind → Type 0
TakesPlace table next old new result =
    PutsInUse (λ f. f.table) (λ calls. Unit {0}) table next old new result ⊎ PutsInUse (λ f. None) SomeFails table next old new result

-- the table in use becomes these bytes
abbrev pub IsStored : List ℕ → Option (List Call) → Option (List Call) → Result (Unit {0}) ErrorKind → Type 0
IsStored bytes = TakesPlace (λ f. Some bytes) (λ f. f.next)

-- the table in use becomes what `next` has, which is gone then
abbrev pub IsTaken : Option (List Call) → Option (List Call) → Result (Unit {0}) ErrorKind → Type 0
IsTaken = TakesPlace (λ f. f.next) (λ f. None)

-- ---- the table in use alone changes

-- the table in use is this, and all other files are as before, but for one that is being stored
pub record HasTable (table : Option (List ℕ)) (f g : Files) : Type 0 where
  pub table_is : g.table ≡ table
  pub previous : g.previous ≡ f.previous
  pub new_previous : g.new_previous ≡ f.new_previous
  pub next : g.next ≡ f.next
  pub new_next : g.new_next ≡ f.new_next

-- the table in use becomes these bytes, and the one before the last change stays
abbrev pub IsRewritten : List ℕ → Option (List Call) → Option (List Call) → Result (Unit {0}) ErrorKind → Type 0
IsRewritten bytes old new (Ok done) = ChangesBy EndsWaiting (λ f g. HasTable f.table f g ⊎ HasTable (Some bytes) f g) (λ f. HasTable (Some bytes) f) old new
IsRewritten bytes old new (Err why) = ChangesBy (Fails why) (λ f. HasTable f.table f) (λ f. HasTable f.table f) old new

-- ---- `next` alone changes

-- `next` has this, and all other files are as before, but for one that is being handed over
pub record HasNext (next : Option (List ℕ)) (f g : Files) : Type 0 where
  pub next_is : g.next ≡ next
  pub table : g.table ≡ f.table
  pub new_table : g.new_table ≡ f.new_table
  pub previous : g.previous ≡ f.previous
  pub new_previous : g.new_previous ≡ f.new_previous

-- `next` becomes this
abbrev pub BecomesNext : Option (List ℕ) → Option (List Call) → Option (List Call) → Result (Unit {0}) ErrorKind → Type 0
BecomesNext next old new (Ok done) = ChangesBy EndsWaiting (λ f g. HasNext f.next f g ⊎ HasNext next f g) (λ f. HasNext next f) old new
BecomesNext next old new (Err why) = ChangesBy (Fails why) (λ f. HasNext f.next f) (λ f. HasNext f.next f) old new

abbrev pub IsHandedOver : List ℕ → Option (List Call) → Option (List Call) → Result (Unit {0}) ErrorKind → Type 0
IsHandedOver bytes = BecomesNext (Some bytes)

abbrev pub IsDropped : Option (List Call) → Option (List Call) → Result (Unit {0}) ErrorKind → Type 0
IsDropped = BecomesNext None
