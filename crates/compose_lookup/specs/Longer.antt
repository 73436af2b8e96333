-- The sequences of a table that begin with another one, and which of them comes first (this
-- project's profile).
use Rattle.std.specs.Prelude.{◌≡◌, ℕ, Bool, true, nat_eq, nat_lt, ◌&&◌, ◌||◌, ◌≤◌, if◌then◌else◌, List, length, filter, slice_get, Option, Some, None}
use Rattle.compose_model.specs.Table.{Definition, is_sequence, is_proper_prefix}
use Rattle.compose_model.specs.Nodes.{leaves}
use Rattle.compose_tree.specs.Targets.{leaf_number}
use Rattle.compose_lookup.specs.Lookup.{shortest_first}
use Rattle.compose_lookup.specs.declared.longer.FoundLeaf.{FoundLeaf}

-- the longer sequences of a table that begin with s, in order
abbrev pub longer : List Definition → List ℕ → List (List ℕ)
longer table s = filter (is_proper_prefix s) (leaves table)

-- the first of the shortest of them, if there is one
abbrev pub first_longer : List Definition → List ℕ → Option (List ℕ)
first_longer table s = slice_get (shortest_first (longer table s)) 0

-- ---- words for private functions

-- it has fewer keys, or as many and a lower number
abbrev pub is_sooner : FoundLeaf → FoundLeaf → Bool
is_sooner one other = nat_lt one.keys other.keys || nat_eq one.keys other.keys && nat_lt one.leaf.0 other.leaf.0

abbrev pub sooner : Option FoundLeaf → Option FoundLeaf → Option FoundLeaf
sooner None other = other
sooner (Some one) None = Some one
sooner (Some one) (Some other) = Some (if is_sooner other one then other else one)

-- the leaf of a sequence that is reached: none of these has fewer keys, and none of as many a lower
-- number
pub record IsShortest (table : List Definition) (reached : List ℕ → Bool) (found : FoundLeaf) : Type 0 where
  pub sequence : List ℕ
  pub there : is_sequence table sequence ≡ true
  pub passes : reached sequence ≡ true
  pub number : leaf_number table sequence ≡ found.leaf.0
  pub keys : length sequence ≡ found.keys
  pub shortest : (t : List ℕ) → is_sequence table t ≡ true → reached t ≡ true → found.keys ≤ length t
  pub first : (t : List ℕ) → is_sequence table t ≡ true → reached t ≡ true → length t ≡ found.keys → found.leaf.0 ≤ leaf_number table t

-- such a leaf, or none if no sequence is reached
abbrev pub FindsShortest : List Definition → (List ℕ → Bool) → Option FoundLeaf → Type 0
FindsShortest table reached None = (t : List ℕ) → is_sequence table t ≡ true → reached t ≡ true → ⊥
FindsShortest table reached (Some found) = IsShortest table reached found
