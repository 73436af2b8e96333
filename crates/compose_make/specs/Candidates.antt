-- The only lists of keys that need to be checked, and the first of those that pass a test.
-- Definitions for private functions.
use Rattle.std.specs.Prelude.{◌≡◌, ◌⊎◌, ℕ, Bool, true, false, not, ◌&&◌, List, [], ◌∷◌, Option, Some, None, encode_utf8}
use Rattle.std.specs.Option.{option_map_or}
use Rattle.keysym_core.specs.Keysym.{is_ignored}
use Rattle.keysym_core.specs.Names.{KeysymNames, text}
use Rattle.compose_model.specs.Table.{Definition, same, is_sequence, text_at}
use Rattle.compose_model.specs.Nodes.{has_edge}
use Rattle.compose_model.specs.Certificate.{Repertoire, is_key}
use Rattle.compose_walk.specs.Evidence.{comes_first}
use Rattle.compose_make.specs.Least.{are_keys}

-- the text is the character c in UTF-8
abbrev pub spells : ℕ → List ℕ → Bool
spells c text = same (encode_utf8 c) text

-- one key of the repertoire that begins no sequence, and whose own text is the character
abbrev pub is_plain_key : KeysymNames → List Definition → Repertoire → ℕ → ℕ → Bool
is_plain_key names table repertoire c k = is_key repertoire k && not (is_ignored k) && not (has_edge table [] k) && spells c (text names k)

abbrev pub is_plain : KeysymNames → List Definition → Repertoire → ℕ → List ℕ → Bool
is_plain names table repertoire c [] = false
is_plain names table repertoire c (k ∷ []) = is_plain_key names table repertoire c k
is_plain names table repertoire c (k ∷ j ∷ w) = false

-- a whole sequence by keys of the repertoire, whose text is the character
abbrev pub is_whole : List Definition → Repertoire → ℕ → List ℕ → Bool
is_whole table repertoire c w = is_sequence table w && are_keys repertoire w && option_map_or (spells c) (text_at table w) false

-- ---- the least of the lists that pass a test

-- none passes; or this one does, and comes before every other one that does
abbrev pub IsLeastOf : (List ℕ → Bool) → Option (List ℕ) → Type 0
IsLeastOf passes None = (v : List ℕ) → passes v ≡ true → ⊥
IsLeastOf passes (Some w) = (passes w ≡ true) × ((v : List ℕ) → passes v ≡ true → (w ≡ v) ⊎ (comes_first w v ≡ true))
