-- Sources that are added after others.
use Rattle.std.proofs.Common.{◌≡◌, ◌+◌, ◌<◌, ◌∙◌, ℕ, List, [], ◌∷◌, ◌++◌, length, take, refl, ap, append_assoc}
use Rattle.std.specs.Prelude.{Option, Some, option_map, slice_get, unwrap_or}
use Rattle.compose_read.specs.Lines.{Source}
use Rattle.compose_read.proofs.Copies.{copied_next}

-- if the first of some sources are added, then a copy of the next one makes one more of them
pub added_next : (sources : List Source) (index : ℕ) → index < length sources → (before added more : List Source) (name : Option (List ℕ)) (bytes : List ℕ)
    → name ≡ option_map (λ (s : Source). s.name) (slice_get sources index) → option_map (λ (s : Source). s.bytes) (slice_get sources index) ≡ Some bytes
    → added ≡ before ++ take index sources → more ≡ added ++ record { name = unwrap_or name []; bytes = bytes } ∷ [] → more ≡ before ++ take (index + 1) sources
added_next sources index within before added more name bytes named held are e =
    let next : List Source = record { name = unwrap_or name []; bytes = bytes } ∷ [] in
    e ∙ ap (λ (s : List Source). s ++ next) are ∙ append_assoc before (take index sources) next
    ∙ ap (λ (s : List Source). before ++ s) (copied_next sources index within (take index sources) (take index sources ++ next) name bytes named held refl refl)
