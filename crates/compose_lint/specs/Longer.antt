-- Sequences that begin with another one: if both are defined, the longer one is typed
-- (libxkbcommon).
use Rattle.std.specs.Prelude.{◌≡◌, ℕ, Bool, true, false, List, reverse, Option, is_some}
use Rattle.std.specs.List.{find}
use Rattle.std.specs.Option.{option_map, option_map_or}
use Rattle.compose_model.specs.Table.{is_proper_prefix}
use Rattle.compose_lint.specs.Lines.{LintLine}
use Rattle.compose_lint.specs.declared.finding.LinePlace.{LinePlace}

-- the line defines a longer sequence that begins with this one
abbrev pub extends : List ℕ → LintLine → Bool
extends s l = option_map_or (λ d. is_proper_prefix s d.sequence) l.definition false

abbrev pub place_of : LintLine → LinePlace
place_of l = record { source = l.source; line = l.line }

-- the place of the last of these lines that defines a longer sequence that begins with this one
abbrev pub longer_place : List LintLine → List ℕ → Option LinePlace
longer_place lines s = option_map place_of (find (extends s) (reverse lines))

-- ---- definitions for private functions

-- if a sequence has a place, its proper prefixes do
abbrev pub IsClosed : (List ℕ → Option LinePlace) → Type 0
IsClosed place = (p q : List ℕ) → is_proper_prefix p q ≡ true → is_some (place q) ≡ true → is_some (place p) ≡ true
