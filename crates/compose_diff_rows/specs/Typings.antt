-- The other sequences that a row names (this project's profile).
use Rattle.std.specs.Prelude.{◌≡◌, ℕ, ◌≤◌, not, List, length, IsTrue}
use Rattle.compose_model.specs.Table.{Definition, comes_before, is_sequence, is_proper_prefix}
use Rattle.compose_lookup.specs.Lookup.{gives}

-- it gives the text, no shorter sequence of the table does, and none of the same length that comes
-- before it
pub record IsFirstTyping (table : List Definition) (text s : List ℕ) : Type 0 where
  pub typed : IsTrue (gives table text s)
  pub shortest : (t : List ℕ) → IsTrue (gives table text t) → length s ≤ length t
  pub first : (t : List ℕ) → IsTrue (gives table text t) → length t ≡ length s → IsTrue (not (comes_before t s))

-- it is a sequence of the table that begins with s and goes on, no shorter one does, and none of
-- the same length that comes before it
pub record IsFirstLonger (table : List Definition) (s longer : List ℕ) : Type 0 where
  pub there : IsTrue (is_sequence table longer)
  pub goes_on : IsTrue (is_proper_prefix s longer)
  pub shortest : (t : List ℕ) → IsTrue (is_sequence table t) → IsTrue (is_proper_prefix s t) → length longer ≤ length t
  pub first : (t : List ℕ) → IsTrue (is_sequence table t) → IsTrue (is_proper_prefix s t) → length t ≡ length longer → IsTrue (not (comes_before t longer))
