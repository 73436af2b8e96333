-- The search, one source after another.
use Rattle.std.proofs.Common.{◌≡◌, ℕ, suc, zero, ◌+◌, ◌≤◌, List, length, Some, refl, sym, ◌∙◌, ap, subst, string_bytes}
use Rattle.std.specs.Prelude.{Result, Ok, Err, slice_get}
use Rattle.std.proofs.lemmas.Option.{slice_get_past}
use Rattle.compose_find.specs.Expand.{Words}
use Rattle.compose_find.specs.Found.{TriedFile, FoundSource, Stop, wanted, missing_root, missing_file, refused, with_includes_of, search_from}
use Rattle.compose_find.specs.FindReturns.{FindReturns, IsStop}
use Rattle.compose_find.specs.declared.found_source.FindFault.{FindFault}
use Rattle.compose_find.specs.declared.found_source.FindFault.TheVariants.{Wanted, MissingRoot, MissingFile, Include, NoMemory}

-- no source is left
pub search_ends : (files : List TriedFile) (words : Words) (left index : ℕ) (sources : List FoundSource) → length sources ≤ index → search_from files words left index sources ≡ Ok sources
unfolding search_from
search_ends files words zero index sources past = refl
search_ends files words (suc left) index sources past = rw (slice_get_past sources index past) refl

-- one more source
pub search_goes : (files : List TriedFile) (words : Words) (left index : ℕ) (sources : List FoundSource) (from : FoundSource) (more : List FoundSource) → slice_get sources index ≡ Some from
    → with_includes_of files words from sources ≡ Ok more
    → search_from files words (suc left) index sources ≡ search_from files words left (1 + index) more
unfolding search_from
search_goes files words left index sources from more at is = rw (at, is) refl

-- a search stops if the includes of its next source can't be resolved
pub search_stops : (files : List TriedFile) (words : Words) (left index : ℕ) (sources : List FoundSource) (from : FoundSource) (stop : Stop) → slice_get sources index ≡ Some from
    → with_includes_of files words from sources ≡ Err stop
    → search_from files words (suc left) index sources ≡ Err stop
unfolding search_from
search_stops files words left index sources from stop at is = rw (at, is) refl

-- a fault of a part is the fault of the whole, also if `?` passes it on
moved : {X Y Z W : Type 0} (view : X → Z) (other : Y → W) (fault : FindFault) (expected : Result Z Stop) (whole : Result W Stop) → ((stop : Stop) → expected ≡ Err stop → whole ≡ Err stop)
    → FindReturns view (Err fault) expected → FindReturns other (Err fault) whole
moved view other NoMemory expected whole f h = tt
moved view other (Wanted path) expected whole f h = f (wanted (string_bytes path)) h
moved view other (MissingRoot path) expected whole f h = f (missing_root (string_bytes path)) h
moved view other (MissingFile from line path) expected whole f h = f (missing_file (string_bytes from) line (string_bytes path)) h
moved view other (Include from line fault) expected whole f h = f (refused (string_bytes from) line fault) h

-- a fault that a step of the search passes on is that of the whole search
pub passed : {X Y Z W : Type 0} (view : X → Z) (other : Y → W) (fault : FindFault) (result : Result Y FindFault) (expected : Result Z Stop) (whole : Result W Stop) → result ≡ Err fault
    → ((stop : Stop) → expected ≡ Err stop → whole ≡ Err stop)
    → FindReturns view (Err fault) expected → FindReturns other result whole
passed view other fault result expected whole is f h = subst (λ r. FindReturns other r whole) (sym is) (moved view other fault expected whole f h)

-- the fault that is made of the reason why the search ends
pub stopped : {X Y : Type 0} (view : X → Y) (fault : FindFault) (stop : Stop) (expected : Result Y Stop) → IsStop stop fault → expected ≡ Err stop → FindReturns view (Err fault) expected
stopped view NoMemory stop expected is e = tt
stopped view (Wanted path) stop expected is e = e ∙ ap Err is
stopped view (MissingRoot path) stop expected is e = e ∙ ap Err is
stopped view (MissingFile from line path) stop expected is e = e ∙ ap Err is
stopped view (Include from line fault) stop expected is e = e ∙ ap Err is
