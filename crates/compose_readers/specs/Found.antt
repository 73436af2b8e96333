-- Which entry counts for each sequence, as three maps have it. Definitions for private functions.
use Rattle.std.specs.Prelude.{ℕ, ◌≡◌, List, Option}
use Rattle.compose_readers.specs.Fates.{Entry, extends, is_for, is_string_for, first_from, last_from}

abbrev pub IsCounting : (List ℕ → Option ℕ) → (List ℕ → Option ℕ) → (List ℕ → Option ℕ) → List Entry → Type 0
IsCounting longer strings all es =
    ((q : List ℕ) → longer q ≡ first_from (extends q) 0 es) × ((q : List ℕ) → strings q ≡ last_from (is_string_for q) 0 es) × ((q : List ℕ) → all q ≡ last_from (is_for q) 0 es)
