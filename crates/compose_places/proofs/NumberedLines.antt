-- Lines by their numbers.
use Rattle.std.proofs.Common.{◌≡◌, ◌<◌, ◌≤◌, ◌-◌, ℕ, zero, suc, List, ◌∷◌, length, refl, sym, ◌∙◌, ap, arith}
use Rattle.std.specs.Prelude.{Option, Some, None, option_map, slice_get}
use Rattle.std.specs.Option.{option_and_then}
use Rattle.std.proofs.lemmas.Option.{same_Some, slice_get_past}
use Rattle.compose_read.specs.Lines.{Source, source_lines}
use Rattle.compose_places.specs.Events.{numbered_from_one, line_at}
use Rattle.compose_places.specs.declared.places.DefinitionPlace.{DefinitionPlace}

pub next_line : (lines others : List (List ℕ)) (line : List ℕ) (left : ℕ) → lines ≡ line ∷ others → 0 < left → slice_get others (left - 1) ≡ slice_get lines left
next_line lines others line zero e h = absurd (omega arith)
next_line lines others line (suc left) e h = let one : suc left - 1 ≡ left = omega arith in ap (slice_get others) one ∙ sym (ap (λ ls. slice_get ls (suc left)) e)

numbered : {X : Type 0} (xs : List X) (line : ℕ) → 0 < line → numbered_from_one xs line ≡ slice_get xs (line - 1)
numbered xs zero h = absurd (omega arith)
numbered xs (suc i) h = let one : i ≡ suc i - 1 = omega arith in ap (slice_get xs) one

module _ (sources : List Source) (place : DefinitionPlace) where
  pub no_source : length sources ≤ place.source → None ≡ line_at sources place
  no_source h = sym (ap (option_and_then (λ (s : Source). numbered_from_one (source_lines s.bytes) place.line)) (slice_get_past sources place.source h))

  module _ (bytes : List ℕ) (is : option_map (λ (s : Source). s.bytes) (slice_get sources place.source) ≡ Some bytes) where
    -- the line at this number in a source with these bytes
    pub line_is : line_at sources place ≡ numbered_from_one (source_lines bytes) place.line
    line_is = go (slice_get sources place.source) is
      where
        go : (o : Option Source) → option_map (λ (s : Source). s.bytes) o ≡ Some bytes
            → option_and_then (λ (s : Source). numbered_from_one (source_lines s.bytes) place.line) o ≡ numbered_from_one (source_lines bytes) place.line
        go None e = cc
        go (Some s) e = ap (λ bs. numbered_from_one (source_lines bs) place.line) (same_Some s.bytes bytes e)

    -- the line at a place, whose number is not 0, is that of the source's lines
    pub found_line : 0 < place.line → slice_get (source_lines bytes) (place.line - 1) ≡ line_at sources place
    found_line h = sym (line_is ∙ numbered (source_lines bytes) place.line h)

-- no line has the number 0
pub no_line : (sources : List Source) (place : DefinitionPlace) → place.line ≡ 0 → None ≡ line_at sources place
no_line sources place h = sym (go (slice_get sources place.source))
  where
    none : (lines : List (List ℕ)) → numbered_from_one lines place.line ≡ None
    none lines = ap (numbered_from_one lines) h

    go : (o : Option Source) → option_and_then (λ (s : Source). numbered_from_one (source_lines s.bytes) place.line) o ≡ None
    go None = refl
    go (Some s) = none (source_lines s.bytes)
