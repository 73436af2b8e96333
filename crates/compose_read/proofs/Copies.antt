-- Copies of sources, one after another.
use Rattle.std.proofs.Common.{◌≡◌, ◌+◌, ◌<◌, ℕ, List, [], ◌∷◌, ◌++◌, length, take, get_or, sym, ◌∙◌, ap, ap₂}
use Rattle.std.specs.Prelude.{Option, Some, option_map, slice_get, unwrap_or}
use Rattle.std.proofs.lemmas.List.{take_more}
use Rattle.std.proofs.lemmas.Option.{slice_get-get_or}
use Rattle.compose_read.specs.Lines.{Source}

abbrev no_source : Source
no_source = record { name = []; bytes = [] }

module _ (sources : List Source) (index : ℕ) (within : index < length sources) where
  abbrev at : Source
  at = get_or sources index no_source

  is_at : slice_get sources index ≡ Some at
  is_at = slice_get-get_or sources index no_source within

  -- if the first sources are copied, then a copy of the next one makes one more of them
  pub copied_next : (copies more : List Source) (name : Option (List ℕ)) (bytes : List ℕ) → name ≡ option_map (λ (s : Source). s.name) (slice_get sources index)
      → option_map (λ (s : Source). s.bytes) (slice_get sources index) ≡ Some bytes → copies ≡ take index sources
      → more ≡ copies ++ record { name = unwrap_or name []; bytes = bytes } ∷ [] → more ≡ take (index + 1) sources
  copied_next copies more name bytes named held are e =
      let name_is : unwrap_or name [] ≡ at.name = ap (λ (o : Option (List ℕ)). unwrap_or o []) (named ∙ ap (option_map (λ (s : Source). s.name)) is_at) in
      let bytes_are : bytes ≡ at.bytes = sym (ap (λ (o : Option (List ℕ)). unwrap_or o []) (sym (ap (option_map (λ (s : Source). s.bytes)) is_at) ∙ held)) in
      e ∙ ap (λ cs. cs ++ record { name = unwrap_or name []; bytes = bytes } ∷ []) are
      ∙ ap₂ (λ (n b : List ℕ). take index sources ++ record { name = n; bytes = b } ∷ []) name_is bytes_are
      ∙ sym (take_more sources index no_source within)
