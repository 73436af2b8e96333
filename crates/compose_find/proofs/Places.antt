-- The places of an include's file, one after another.
use Rattle.std.proofs.Common.{◌≡◌, List, [], ◌∷◌, Option, Some, None, Bor, true, false, refl, ap, ℕ}
use Rattle.std.specs.Prelude.{Ok, Err, is_some, option_copied}
use Rattle.std.specs.List.{cons_option}
use Rattle.compose_find.specs.Expand.{beside, below_root}
use Rattle.compose_find.specs.Includes.{Include}
use Rattle.compose_find.specs.Found.{TriedFile, Stop, found_includes, places, first_place}

module _ (files : List TriedFile) (missing : Stop) (place : List ℕ) (places : List (List ℕ)) where
  -- a place that has to be looked for first
  pub place_stops : (stop : Stop) → found_includes files place ≡ Err stop → first_place files missing (place ∷ places) ≡ Err stop
  unfolding first_place
  place_stops stop e = rw e refl

  -- a place at which there is a file is taken
  pub place_taken : (found : Option (Bor (List Include))) → found_includes files place ≡ Ok (option_copied found) → is_some found ≡ true → first_place files missing (place ∷ places) ≡ Ok place
  unfolding first_place
  place_taken (Some includes) e some = rw e refl
  place_taken None e some = cc

  -- a place at which there is no file is passed over
  pub place_passed : (found : Option (Bor (List Include))) → found_includes files place ≡ Ok (option_copied found) → is_some found ≡ false
      → first_place files missing (place ∷ places) ≡ first_place files missing places
  unfolding first_place
  place_passed None e none = rw e refl
  place_passed (Some includes) e none = cc

-- if none of the places is left, the file is missing
pub no_place : (files : List TriedFile) (missing : Stop) → first_place files missing [] ≡ Err missing
unfolding first_place
no_place files missing = refl

-- the places by the path below the root, if there is one
pub places_by : (root : Option (List ℕ)) (from path : List ℕ) (below : Option (List ℕ)) → below_root root path ≡ below → places root from path ≡ cons_option below (path ∷ beside from path ∷ [])
places_by root from path below e = ap (λ b. cons_option b (path ∷ beside from path ∷ [])) e
