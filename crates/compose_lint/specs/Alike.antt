-- Texts that look the same and are not equal: they have one normal form C (Unicode Standard Annex
-- 15, canonical equivalence).
use Rattle.std.specs.Prelude.{ℕ, Bool, false, not, ◌&&◌, bytes_eq, List, Option}
use Rattle.std.specs.List.{find}
use Rattle.std.specs.Option.{option_map, option_map_or}
use Rattle.compose_lint.specs.Texts.{normal_form, is_normal}
use Rattle.compose_lint.specs.Lines.{LintLine}
use Rattle.compose_lint.specs.Longer.{place_of}
use Rattle.compose_lint.specs.declared.finding.LinePlace.{LinePlace}

-- two texts that are not equal have one normal form C
abbrev pub are_alike : List ℕ → List ℕ → Bool
are_alike a b = bytes_eq (normal_form a) (normal_form b) && not (bytes_eq a b)

-- the line produces another text with the same normal form C
abbrev pub has_alike : List ℕ → LintLine → Bool
has_alike text l = option_map_or (λ d. are_alike text d.text) l.definition false

-- the place of the first of these lines that produces another text with the same normal form C
abbrev pub alike_place : List LintLine → List ℕ → Option LinePlace
alike_place lines text = option_map place_of (find (has_alike text) lines)

-- ---- definitions for private functions

-- the line produces a text that is not in normal form C, and this is its normal form
abbrev pub has_own_form : List ℕ → LintLine → Bool
has_own_form form l = option_map_or (λ d. not (is_normal d.text) && bytes_eq (normal_form d.text) form) l.definition false

-- the place of the first of these lines that does
abbrev pub form_place : List LintLine → List ℕ → Option LinePlace
form_place lines form = option_map place_of (find (has_own_form form) lines)
