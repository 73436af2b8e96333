-- What the private functions make of the folder, for each folder `f` before a call.
use Rattle.std.specs.Prelude.{◌≡◌, ◌⊎◌, ℕ, List, [], ◌∷◌, Option, Some, None, Result, Ok, Err}
use Rattle.std.specs.declared.io.ErrorKind.{ErrorKind}
use Rattle.compose_stored.specs.declared.files.Name.{Name}
use Rattle.compose_stored.specs.declared.files.Name.TheVariants.{Table, NewPrevious}
use Rattle.compose_stored.specs.Folder.{Call, Files, failed, more, moved, put}
use Rattle.compose_stored.specs.Changes.{Changes, ChangesBy, EndsWaiting, Fails, SomeFails}

-- the folder is as before but for this file
abbrev pub ButFor : Name → Files → Files → Type 0
ButFor name f g = (part : Option (List ℕ)) × (g ≡ put name part f)

-- the file gets these bytes
abbrev pub Writes : Name → List ℕ → Option (List Call) → Option (List Call) → Result (Unit {0}) ErrorKind → Type 0
Writes name bytes old new (Ok done) = Changes (ButFor name) (λ f g. g ≡ put name (Some bytes) f) old new
Writes name bytes old new (Err why) = ChangesBy (Fails why) (ButFor name) (ButFor name) old new

-- the first file gets the name of the second one
abbrev pub Moves : Name → Name → Option (List Call) → Option (List Call) → Result (Unit {0}) ErrorKind → Type 0
Moves from to old new (Ok done) = ChangesBy EndsWaiting (λ f g. (g ≡ f) ⊎ (g ≡ moved from to f)) (λ f g. g ≡ moved from to f) old new
Moves from to old new (Err why) = new ≡ more old (failed why ∷ [])

-- ---- the previous table

-- it is this, and all but the file that is to become it is as before
abbrev pub HasPrevious : Option (List ℕ) → Files → Files → Type 0
HasPrevious kept f g = (part : Option (List ℕ)) × (g ≡ record f { previous = kept; new_previous = part })

-- it is as before, or is already what is kept
abbrev pub Keeping : (Files → Option (List ℕ)) → Files → Files → Type 0
Keeping kept f g = HasPrevious f.previous f g ⊎ HasPrevious (kept f) f g

abbrev pub Links : Option (List Call) → Option (List Call) → Result (Unit {0}) ErrorKind → Type 0
Links old new (Ok done) = Changes (Keeping (λ f. f.table)) (λ f. HasPrevious f.table f) old new
Links old new (Err why) = ChangesBy (Fails why) (ButFor NewPrevious) (ButFor NewPrevious) old new

-- the table in use is kept as the previous one; or a call fails, and none is kept
abbrev pub Keeps : Option (List Call) → Option (List Call) → Result (Unit {0}) ErrorKind → Type 0
Keeps old new (Ok done) = Changes (Keeping (λ f. f.table)) (λ f. HasPrevious f.table f) old new ⊎ ChangesBy SomeFails (Keeping (λ f. None)) (λ f. HasPrevious None f) old new
Keeps old new (Err why) = ChangesBy (Fails why) (ButFor NewPrevious) (ButFor NewPrevious) old new

-- ---- a file that takes the place of another one

-- the previous table is what is kept, and this file has become the table in use
abbrev pub Used : (Files → Option (List ℕ)) → Name → Files → Files → Type 0
Used kept from f h = (g : Files) × HasPrevious (kept f) f g × (h ≡ moved from Table g)

abbrev pub UsesKeeping : (Files → Option (List ℕ)) → (List Call → Type 0) → Name → Option (List Call) → Option (List Call) → Result (Unit {0}) ErrorKind → Type 0
UsesKeeping kept Made from old new (Ok done) = ChangesBy (λ calls. EndsWaiting calls × Made calls) (λ f g. Keeping kept f g ⊎ Used kept from f g) (Used kept from) old new
UsesKeeping kept Made from old new (Err why) = ChangesBy (Fails why) (Keeping kept) (Keeping kept) old new

abbrev pub Uses : Name → Option (List Call) → Option (List Call) → Result (Unit {0}) ErrorKind → Type 0
Uses from old new result = UsesKeeping (λ f. f.table) (λ calls. Unit {0}) from old new result ⊎ UsesKeeping (λ f. None) SomeFails from old new result

-- the second file gets these bytes through the first one
abbrev pub Replaced : Name → Name → List ℕ → Files → Files → Type 0
Replaced through name bytes f g = g ≡ moved through name (put through (Some bytes) f)

abbrev pub Replaces : Name → Name → List ℕ → Option (List Call) → Option (List Call) → Result (Unit {0}) ErrorKind → Type 0
Replaces through name bytes old new (Ok done) = ChangesBy EndsWaiting (λ f g. ButFor through f g ⊎ Replaced through name bytes f g) (Replaced through name bytes) old new
Replaces through name bytes old new (Err why) = ChangesBy (Fails why) (ButFor through) (ButFor through) old new
