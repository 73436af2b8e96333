-- The lines of sources, by their places. Definitions for private functions.
use Rattle.std.specs.Prelude.{ℕ, Bool, true, List, map, slice_get, Option, is_some}
use Rattle.std.specs.Option.{option_and_then, option_map_or}
use Rattle.compose_read.specs.Lines.{Source, source_lines}
use Rattle.compose_places.specs.Counting.{WrittenLine}
use Rattle.compose_places.specs.Events.{numbered_from_one, written_events}
use Rattle.compose_places.specs.declared.places.DefinitionPlace.{DefinitionPlace}

abbrev pub all_lines : List Source → List (List (List ℕ))
all_lines sources = map (λ s. source_lines s.bytes) sources

-- the line at this place among these of each source, if there is one
abbrev pub line_in : List (List (List ℕ)) → DefinitionPlace → Option (List ℕ)
line_in all place = option_and_then (λ lines. numbered_from_one lines place.line) (slice_get all place.source)

-- a definition is written at the line's place, if there is a line
abbrev pub stands : List Source → Option WrittenLine → Bool
stands sources line = option_map_or (λ l. is_some (written_events sources l.place)) line true
