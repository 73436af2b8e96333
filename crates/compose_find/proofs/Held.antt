-- The sources that were found, with the bytes of their files.
use Rattle.std.proofs.Common.{◌≡◌, ℕ, suc, zero, ◌<◌, ◌≤◌, List, [], ◌∷◌, Bool, true, false, cond, map, take, get_or, length, Some, None, refl, sym, ◌∙◌, ap, arith}
use Rattle.std.specs.Prelude.{Ok, is_some, slice_get, bytes_eq, nat_lt, nat_le}
use Rattle.std.specs.List.{IsDistinct, AllByRecursion}
use Rattle.std.proofs.lemmas.Bool.{le-ltb, lt-leb}
use Rattle.std.proofs.lemmas.List.{length-map, length-take-le}
use Rattle.std.proofs.lemmas.List.Elements.{Contains-get_or}
use Rattle.std.proofs.lemmas.Option.{slice_get_within}
use Rattle.std.proofs.lemmas.Slice.Eq.{bytes_eq-Decides}
use Rattle.compose_read.specs.Lines.{source_named}
use Rattle.compose_read.specs.Sources.{add_fault}
use Rattle.compose_read.specs.declared.sources.SourceFault.TheVariants.{NameTaken, TooManySources}
use Rattle.compose_find.specs.Expand.{Words}
use Rattle.compose_find.specs.Found.{TriedFile, FoundSource, held, held_at, found}
use Rattle.compose_find.specs.Sources.{FindsBytes, AreHeld}
use Rattle.compose_find.proofs.Followed.{finds_sources}

-- there are bytes at the path of each source that is found
pub finds_bytes : FindsBytes
finds_bytes files words root sources e source listed = let followed = (finds_sources files words root sources e).followed source listed in rw followed.there refl

-- there is a file for each source that is found, and their names are distinct
pub finds_held : (files : List TriedFile) (words : Words) (root : List ℕ) (sources : List FoundSource) → found files words root ≡ Ok sources → AreHeld files sources
finds_held files words root sources e =
    let sound = finds_sources files words root sources e in
    let there : (k : ℕ) (d : FoundSource) → k < length sources → is_some (held_at files (get_or sources k d).path) ≡ true = λ k d within. rw (sound.followed (get_or sources k d) (Contains-get_or sources k d within)).there refl in
    record { there = there; distinct = sound.distinct; few = sound.few }

-- ---- names

-- among distinct names, the first differs from the others
other_name : (source : FoundSource) (sources : List FoundSource) (i : ℕ) (m : FoundSource) → AllByRecursion (λ y. bytes_eq source.name y ≡ false) (map (λ m. m.name) sources) → slice_get sources i ≡ Some m
    → bytes_eq m.name source.name ≡ false
other_name source [] i m others at = cc
other_name source (x ∷ sources) zero m others at = let same : x ≡ m = cc in flipped (bytes_eq m.name source.name) refl (ap (λ y. bytes_eq source.name y.name) (sym same) ∙ others.0)
  where
    flipped : (b : Bool) → bytes_eq m.name source.name ≡ b → bytes_eq source.name m.name ≡ false → b ≡ false
    flipped false is other = refl
    flipped true is other = let clash : true ≡ false = sym ((bytes_eq-Decides source.name m.name).1 (sym ((bytes_eq-Decides m.name source.name).0 is))) ∙ other in cc
other_name source (x ∷ sources) (suc i) m others at = other_name source sources i m others.1 at

-- a new name can be added if there is room
room : (place count : ℕ) → place ≡ count → count < 64 → cond (nat_lt place count) (Some NameTaken) (cond (nat_le 64 count) (Some TooManySources) None) ≡ None
room place count is few = rw (le-ltb place count (omega arith), lt-leb 64 count few) refl

module _ (files : List TriedFile) where
  -- a source is not among those before it
  unnamed : (sources : List FoundSource) (i : ℕ) (m : FoundSource) → IsDistinct bytes_eq (map (λ m. m.name) sources) → slice_get sources i ≡ Some m
      → source_named (map (held files) (take i sources)) m.name ≡ length (map (held files) (take i sources))
  unfolding IsDistinct
  unnamed [] i m distinct at = cc
  unnamed (x ∷ sources) zero m distinct at = refl
  unnamed (x ∷ sources) (suc i) m distinct at =
      rw (other_name x sources i m distinct.0 at) (let rest = unnamed sources i m distinct.1 at in omega (arith, rest))

  -- so it can be added to them
  pub no_fault : (sources : List FoundSource) (i : ℕ) (m : FoundSource) → IsDistinct bytes_eq (map (λ m. m.name) sources) → length sources ≤ 64 → slice_get sources i ≡ Some m
      → add_fault (map (held files) (take i sources)) m.name ≡ None
  no_fault sources i m distinct few at =
      let within = slice_get_within sources i m at in
      let before = take i sources in
      let count : length (map (held files) before) ≡ i = length-map before (held files) ∙ length-take-le i sources (omega arith) in
      room (source_named (map (held files) before) m.name) (length (map (held files) before)) (unnamed sources i m distinct at) (omega arith)
