-- Files of which the bytes of one path are taken out.
use Rattle.std.proofs.Common.{◌≡◌, ℕ, ◌+◌, ◌-◌, ◌<◌, ◌≤◌, List, Bool, true, false, get_or, set, drop, length, length-drop, Some, None, refl, sym, ◌∙◌, ap, subst, arith}
use Rattle.std.specs.Prelude.{slice_get, bytes_eq}
use Rattle.std.specs.List.{position, position_or_len, All}
use Rattle.std.specs.Option.{option_and_then}
use Rattle.std.proofs.lemmas.Grind.{common_steps}
use Rattle.std.proofs.lemmas.List.{get_or-drop}
use Rattle.std.proofs.lemmas.List.Folds.{find_at, find_past}
use Rattle.std.proofs.lemmas.List.Quantifiers.{position-Some}
use Rattle.std.proofs.lemmas.Option.{slice_get-get_or, slice_get_past}
use Rattle.std.proofs.lemmas.Slice.Eq.{bytes_eq-Decides}
use Rattle.compose_find.specs.Found.{TriedFile, FoundSource, held_at}

-- what is equal to a path is not equal to another one
pub other_path : (path same other : List ℕ) → bytes_eq path same ≡ true → bytes_eq path other ≡ false → bytes_eq other same ≡ false
other_path path same other is differs = by (bytes_eq other same) refl
  where
    by : (b : Bool) → bytes_eq other same ≡ b → b ≡ false
    by false is_not = refl
    by true is_too =
        let joined : path ≡ other = (bytes_eq-Decides path same).0 is ∙ sym ((bytes_eq-Decides other same).0 is_too) in
        let clash : true ≡ false = sym ((bytes_eq-Decides path other).1 joined) ∙ differs in
        cc

module _ (files : List TriedFile) (path : List ℕ) where
  abbrev has : TriedFile → Bool
  has f = bytes_eq path f.path

  -- nothing is held at a path that no entry has
  pub none_held : position has files ≡ None → held_at files path ≡ None
  none_held e =
      let past : length files ≤ position_or_len has files = grind (arith, common_steps) in
      ap (option_and_then (λ f. f.bytes)) (find_at has files ∙ slice_get_past files (position_or_len has files) past)

  module _ (i : ℕ) (d : TriedFile) (e : position has files ≡ Some i) where
    -- what is held at a path is what its first entry has
    pub held_here : held_at files path ≡ (get_or files i d).bytes
    held_here =
        let at : position_or_len has files ≡ i = grind (arith, common_steps) in
        let within : i < length files = (position-Some has files i d e).0 in
        ap (option_and_then (λ f. f.bytes)) (find_at has files ∙ ap (slice_get files) at ∙ slice_get-get_or files i d within)

    -- once it is taken out, what is held at other paths is as before
    pub others_held : (other : List ℕ) → bytes_eq path other ≡ false → held_at (set files i (record { path = (get_or files i d).path; bytes = None })) other ≡ held_at files other
    others_held other differs =
        let fails = other_path path (get_or files i d).path other (position-Some has files i d e).1 differs in
        ap (option_and_then (λ f. f.bytes)) (find_past (λ f. bytes_eq other f.path) files i (record { path = (get_or files i d).path; bytes = None }) d fails fails)

-- the files of the sources after this one are still there if it took only its own
pub still_left : (files left new : List TriedFile) (found : List FoundSource) (index : ℕ) → All (λ m. held_at new m.path ≡ held_at left m.path) (drop (index + 1) found)
    → ((k : ℕ) (d : FoundSource) → index ≤ k → k < length found → held_at left (get_or found k d).path ≡ held_at files (get_or found k d).path)
    → (k : ℕ) (d : FoundSource) → index + 1 ≤ k → k < length found → held_at new (get_or found k d).path ≡ held_at files (get_or found k d).path
still_left files left new found index kept before k d from less =
    let n = k - (index + 1) in
    let place : index + 1 + n ≡ k = omega (arith, from) in
    let read : get_or (drop (index + 1) found) n d ≡ get_or found k d = get_or-drop (index + 1) found n d ∙ ap (λ j. get_or found j d) place in
    let inside : n < length (drop (index + 1) found) = omega (arith, length-drop (index + 1) found, from, less) in
    subst (λ s. held_at new s.path ≡ held_at left s.path) read (kept n d inside) ∙ before k d (omega (arith, from)) less
