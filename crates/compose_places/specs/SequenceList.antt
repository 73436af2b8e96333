-- Sequences, stored one after another in one array, and the place of each one's keysyms.
-- Definitions for private functions.
use Rattle.std.specs.Prelude.{ℕ, ◌+◌, ◌≤◌, List, map, length, take, drop}
use Rattle.std.specs.List.{All}
use Rattle.compose_places.specs.declared.sequence_list.KeysymSpan.{KeysymSpan}

abbrev pub sequences_at : List ℕ → List KeysymSpan → List (List ℕ)
sequences_at keysyms spans = map (λ span. take span.count (drop span.first keysyms)) spans

-- each span lies within the keysyms
abbrev pub AreWithin : List ℕ → List KeysymSpan → Type 0
AreWithin keysyms spans = All (λ span. span.first + span.count ≤ length keysyms) spans
