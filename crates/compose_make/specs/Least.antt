-- The least typings: for each character a shortest list of keys that types it, and of several the
-- first in the order of sequences.
use Rattle.std.specs.Prelude.{◌≡◌, ◌⊎◌, ◌<◌, ℕ, Bool, not, List, map, IsTrue}
use Rattle.std.specs.List.{list_all, AllByRecursion}
use Rattle.keysym_core.specs.Names.{KeysymNames}
use Rattle.compose_model.specs.Table.{Definition, has_key}
use Rattle.compose_model.specs.Follows.{Types}
use Rattle.compose_model.specs.Certificate.{Typing, Repertoire, is_key, keys_rise}
use Rattle.compose_walk.specs.Evidence.{comes_first}

-- the keys are all in the repertoire
abbrev pub are_keys : Repertoire → List ℕ → Bool
are_keys repertoire w = list_all (is_key repertoire) w

-- w types the character c by keys of the repertoire, and comes before every other such list
pub record IsLeastTyping (names : KeysymNames) (table : List Definition) (repertoire : Repertoire) (c : ℕ) (w : List ℕ) : Type 0 where
  pub by_keys : IsTrue (are_keys repertoire w)
  pub types : Types names table w c
  pub least : (v : List ℕ) → IsTrue (are_keys repertoire v) → Types names table v c → (w ≡ v) ⊎ IsTrue (comes_first w v)

-- the repertoire's characters in order, each with its least typing
pub record AreLeastTypings (names : KeysymNames) (table : List Definition) (repertoire : Repertoire) (typings : List Typing) : Type 0 where
  pub characters : map (λ t. t.character) typings ≡ repertoire.characters
  pub least : AllByRecursion (λ t. IsLeastTyping names table repertoire t.character t.keys) typings

-- c is the first character of the repertoire that no list of its keys types
pub record IsUnreachable (names : KeysymNames) (table : List Definition) (repertoire : Repertoire) (c : ℕ) : Type 0 where
  pub wanted : IsTrue (has_key repertoire.characters c)
  pub untyped : (w : List ℕ) → IsTrue (are_keys repertoire w) → Types names table w c → ⊥
  pub earlier_typed : (d : ℕ) → IsTrue (has_key repertoire.characters d) → d < c → (w : List ℕ) × IsLeastTyping names table repertoire d w

-- these are, in order, the characters of the repertoire that no list of its keys types: each of the
-- others has a least typing
pub record AreUntypable (names : KeysymNames) (table : List Definition) (repertoire : Repertoire) (characters : List ℕ) : Type 0 where
  pub rise : IsTrue (keys_rise characters)
  pub wanted : (c : ℕ) → IsTrue (has_key characters c) → IsTrue (has_key repertoire.characters c)
  pub untyped : (c : ℕ) → IsTrue (has_key characters c) → (w : List ℕ) → IsTrue (are_keys repertoire w) → Types names table w c → ⊥
  pub others_typed : (c : ℕ) → IsTrue (has_key repertoire.characters c) → IsTrue (not (has_key characters c)) → (w : List ℕ) × IsLeastTyping names table repertoire c w
