-- The answer of a walk.
use Rattle.std.specs.Prelude.{◌≡◌, ℕ, List}
use Rattle.keysym_core.specs.Names.{KeysymNames}
use Rattle.compose_model.specs.Table.{Definition}
use Rattle.compose_model.specs.Follows.{Follows}
use Rattle.compose_model.specs.Certificate.{Simulates, walked_pairs}
use Rattle.compose_walk.specs.Evidence.{IsLeast}
use Rattle.compose_walk.specs.declared.outcome.Walk.{Walk}
use Rattle.compose_walk.specs.declared.outcome.Walk.TheVariants as walks

-- the new table follows, and these are the pairs of each old node with what is pending in the new
-- table after it; they simulate
pub record IsFollower (names : KeysymNames) (fresh : List ℕ) (old new : List Definition) (pairs : List (ℕ × ℕ)) : Type 0 where
  pub follows : Follows names fresh old new
  pub pairs_are : pairs ≡ walked_pairs old new
  pub simulates : Simulates names fresh old new pairs

-- it follows, and the pairs are those of the walk; or it does not, and the counterexample is the
-- least
abbrev pub IsWalk : KeysymNames → List ℕ → List Definition → List Definition → Walk → Type 0
IsWalk names fresh old new (walks.Follows pairs) = IsFollower names fresh old new pairs
IsWalk names fresh old new (walks.Differs x) = (Follows names fresh old new → ⊥) × IsLeast names fresh old new x
