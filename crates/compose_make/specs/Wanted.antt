-- The characters that are wanted, each with the first of the lists of keys that were offered so
-- far. Definitions for private functions.
use Rattle.std.specs.Prelude.{◌≡◌, ℕ, Bool, ◌&&◌, if◌then◌else◌, List, [], ◌∷◌, map, Option, Some, None, is_some, unwrap_or}
use Rattle.std.specs.List.{AllByRecursion}
use Rattle.compose_model.specs.Table.{Definition, is_proper_prefix}
use Rattle.compose_model.specs.Certificate.{Typing, Repertoire}
use Rattle.compose_walk.specs.Evidence.{comes_first}
use Rattle.compose_make.specs.Candidates.{spells, is_whole, IsLeastOf}
use Rattle.compose_make.specs.declared.typings.Typings.{Typings}
use Rattle.compose_make.specs.declared.typings.Typings.TheVariants.{Found, Unreachable}

-- a character, and keys that type it, if some are known
pub record WantedCharacter : Type 0 where
  pub character : ℕ
  pub keys : Option (List ℕ)

-- the keys that come first: those that are known, or these
abbrev pub better : Option (List ℕ) → List ℕ → Option (List ℕ)
better None w = Some w
better (Some v) w = if comes_first w v then Some w else Some v

-- what is known once these keys, which give this text, were offered
abbrev pub offered_row : List ℕ → List ℕ → WantedCharacter → WantedCharacter
offered_row t w row = if spells row.character t then record row { keys = better row.keys w } else row

abbrev pub characters_of : List WantedCharacter → List ℕ
characters_of rows = map (λ row. row.character) rows

-- the keys of each row are the least of those that pass its character's test
abbrev pub AreLeast : (ℕ → List ℕ → Bool) → List WantedCharacter → Type 0
AreLeast passes rows = AllByRecursion (λ row. IsLeastOf (passes row.character) row.keys) rows

-- ---- what was offered

-- v goes on from p to a whole sequence that types c
abbrev pub is_whole_after : List Definition → Repertoire → ℕ → List ℕ → List ℕ → Bool
is_whole_after table repertoire c p v = is_proper_prefix p v && is_whole table repertoire c v

-- ---- the answer of the rows

abbrev pub typing_by : ℕ → List ℕ → Typing
typing_by c w = record { character = c; keys = w }

abbrev pub typing_of : WantedCharacter → Typing
typing_of row = typing_by row.character (unwrap_or row.keys [])

-- the first character for which no keys are known
abbrev pub first_missing : List WantedCharacter → Option ℕ
first_missing [] = None
first_missing (row ∷ rows) = if is_some row.keys then first_missing rows else Some row.character

-- all characters for which no keys are known
abbrev pub all_missing : List WantedCharacter → List ℕ
all_missing [] = []
all_missing (row ∷ rows) = if is_some row.keys then all_missing rows else row.character ∷ all_missing rows

-- these typings are the result of the rows
abbrev pub IsOfRows : List WantedCharacter → Typings → Type 0
IsOfRows rows (Found typings) = (first_missing rows ≡ None) × (typings ≡ map typing_of rows)
IsOfRows rows (Unreachable c) = first_missing rows ≡ Some c
