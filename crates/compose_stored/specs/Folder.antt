-- The files of the folder of the table in use, the calls by which they change, and what a power cut
-- may leave of them (this project's profile of a file system that keeps the order of changes, as a
-- journal does).
use Rattle.std.specs.Prelude.{ℕ, Bool, List, [], ◌∷◌, ◌++◌, Option, Some, None, option_map}
use Rattle.std.specs.declared.io.ErrorKind.{ErrorKind}
use Rattle.compose_stored.specs.declared.files.Name.{Name}
use Rattle.compose_stored.specs.declared.files.Name.TheVariants as names

-- a call that was made: the bytes of a file are being written; they are all on the disk; the first
-- file got the name of the second one; it got that name too; a file was removed; the changes of
-- names were waited for, until they were on the disk or in vain; or a call failed, and changed
-- nothing
pub data Call : Type 0 where
  writing : Name → Call
  wrote : Name → List ℕ → Call
  renamed : Name → Name → Call
  linked : Name → Name → Call
  removed : Name → Call
  synced : Bool → Call
  failed : ErrorKind → Call

-- the same calls followed by these, if they are known
abbrev pub more : Option (List Call) → List Call → Option (List Call)
more calls made = option_map (λ before. before ++ made) calls

-- what each file has, if it is there
pub record Files : Type 0 where
  pub table : Option (List ℕ)
  pub new_table : Option (List ℕ)
  pub previous : Option (List ℕ)
  pub new_previous : Option (List ℕ)
  pub next : Option (List ℕ)
  pub new_next : Option (List ℕ)

abbrev pub get : Name → Files → Option (List ℕ)
get names.Table f = f.table
get names.NewTable f = f.new_table
get names.Previous f = f.previous
get names.NewPrevious f = f.new_previous
get names.Next f = f.next
get names.NewNext f = f.new_next

-- the files with this one changed
abbrev pub put : Name → Option (List ℕ) → Files → Files
put names.Table has f = record f { table = has }
put names.NewTable has f = record f { new_table = has }
put names.Previous has f = record f { previous = has }
put names.NewPrevious has f = record f { new_previous = has }
put names.Next has f = record f { next = has }
put names.NewNext has f = record f { new_next = has }

-- the second file has what the first one had, which is gone. (If both were names of one file, a
-- real folder may keep both; that happens to `new_previous` alone, and no contract speaks of what
-- is left)
abbrev pub moved : Name → Name → Files → Files
moved from to f = put from None (put to (get from f) f)

-- P holds once this call has reached the disk: of a file that is being written any part may be
-- there, or none
abbrev pub After : Call → (Files → Type 0) → Files → Type 0
After (writing name) P f = (part : Option (List ℕ)) → P (put name part f)
After (wrote name bytes) P f = P (put name (Some bytes) f)
After (renamed from to) P f = P (moved from to f)
After (linked from to) P f = P (put to (get from f) f)
After (removed name) P f = P (put name None f)
After (synced done) P f = P f
After (failed why) P f = P f

-- P holds of what a power cut leaves at any moment of these calls: they reach the disk in their
-- order, and some of the last ones may not have reached it (Laws.HoldsWhateverIsLost)
abbrev pub AtEachMoment : (Files → Type 0) → List Call → Files → Type 0
AtEachMoment P [] f = P f
AtEachMoment P (call ∷ calls) f = P f × After call (AtEachMoment P calls) f

-- P holds once all of these calls have reached the disk
abbrev pub AtTheEnd : (Files → Type 0) → List Call → Files → Type 0
AtTheEnd P [] f = P f
AtTheEnd P (call ∷ calls) f = After call (AtTheEnd P calls) f
