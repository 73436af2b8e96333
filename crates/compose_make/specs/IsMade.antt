-- The result for an old and a new table: evidence that the new one does not follow, a character
-- that cannot be typed, or a certificate.
use Rattle.std.specs.Prelude.{◌≡◌, ℕ, List}
use Rattle.keysym_core.specs.Names.{KeysymNames}
use Rattle.compose_model.specs.Table.{Definition}
use Rattle.compose_model.specs.Follows.{Follows}
use Rattle.compose_model.specs.Certificate.{Certificate, Repertoire, IsValid, walked_pairs}
use Rattle.compose_walk.specs.Evidence.{IsLeast}
use Rattle.compose_make.specs.Least.{AreLeastTypings, IsUnreachable}
use Rattle.compose_make.specs.Depth.{IsGreatestDepth}
use Rattle.compose_make.specs.declared.maker.Made.{Made}
use Rattle.compose_make.specs.declared.maker.Made.TheVariants as mades

-- a valid certificate: with the pairs that a walk reaches, the greatest depth of a new node, the
-- least typings, and these fresh keysyms
pub record IsMadeFor (names : KeysymNames) (fresh : List ℕ) (old new : List Definition) (repertoire : Repertoire) (c : Certificate) : Type 0 where
  pub follows : Follows names fresh old new
  pub valid : IsValid names old new repertoire c
  pub pairs : c.pairs ≡ walked_pairs old new
  pub bound : IsGreatestDepth new c.bound
  pub typings : AreLeastTypings names new repertoire c.typings
  pub fresh_keys : c.fresh ≡ fresh

-- the least counterexample if the new table does not follow; otherwise the first character that has
-- no typing; otherwise a certificate
abbrev pub IsMade : KeysymNames → List ℕ → List Definition → List Definition → Repertoire → Made → Type 0
IsMade names fresh old new repertoire (mades.Differs x) = (Follows names fresh old new → ⊥) × IsLeast names fresh old new x
IsMade names fresh old new repertoire (mades.Unreachable c) = Follows names fresh old new × IsUnreachable names new repertoire c
IsMade names fresh old new repertoire (mades.Made c) = IsMadeFor names fresh old new repertoire c
