-- The notes about sources, one source after another.
use Rattle.std.proofs.Common.{◌≡◌, List, ℕ, ◌∷◌, ◌++◌, Option, true, false, sym, ◌∙◌, ap, append_assoc, refl}
use Rattle.compose_find.specs.Found.{FoundSource}
use Rattle.compose_manifest.specs.Outside.{is_outside, note, notes}

module _ (tree : List ℕ) (root : Option (List ℕ)) (source : FoundSource) (sources : List FoundSource) where
  first_noted : is_outside tree root source.path ≡ true → notes tree root (source ∷ sources) ≡ note tree source ++ notes tree root sources
  first_noted e = rw e refl

  -- a source that lies outside adds its note
  pub note_more : (before text all : List ℕ) → is_outside tree root source.path ≡ true → text ≡ before ++ note tree source → before ++ notes tree root (source ∷ sources) ≡ all
      → text ++ notes tree root sources ≡ all
  note_more before text all outside pushed old =
      ap (λ t. t ++ notes tree root sources) pushed ∙ append_assoc before (note tree source) (notes tree root sources) ∙ ap (λ t. before ++ t) (sym (first_noted outside)) ∙ old

  -- another one adds none
  pub note_none : (before all : List ℕ) → is_outside tree root source.path ≡ false → before ++ notes tree root (source ∷ sources) ≡ all → before ++ notes tree root sources ≡ all
  note_none before all inside old = ap (λ t. before ++ t) (sym skipped) ∙ old
    where
      skipped : notes tree root (source ∷ sources) ≡ notes tree root sources
      skipped = rw inside refl
