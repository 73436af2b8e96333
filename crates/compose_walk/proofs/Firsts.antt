-- The first of all differences is the least counterexample, and if there is none the new table
-- follows.
use Rattle.std.proofs.Common.{◌≡◌, ◌⊎◌, ℕ, List, [], ◌∷◌, ◌++◌, true, refl, sym, ◌∙◌, ap, inl, inr, Option, Some, None}
use Rattle.std.specs.Prelude.{is_some}
use Rattle.std.specs.List.{list_any}
use Rattle.std.proofs.lemmas.Bool.{and_parts, or_cases}
use Rattle.keysym_core.specs.Names.{KeysymNames}
use Rattle.compose_model.specs.Table.{Definition, same, is_table}
use Rattle.compose_model.specs.Follows.{Follows, Kind}
use Rattle.compose_model.specs.Certificate.{AreFresh}
use Rattle.compose_model.proofs.NodeLemmas.{same_is}
use Rattle.compose_walk.specs.Evidence.{Evidence, IsLeast, AreDifferences, comes_first, differences_rise}
use Rattle.compose_walk.specs.Pass.{difference_at, evidence}
use Rattle.compose_walk.proofs.FirstOrder.{first_then}
use Rattle.compose_walk.proofs.Candidates.{least_from, follows_without, candidate_is}

-- an element of a rising list is its first, or comes after it
first_of : (ks : List ℕ) (x : Evidence) (xs : List Evidence) → differences_rise (x ∷ xs) ≡ true → list_any (λ y. same y.keys ks) (x ∷ xs) ≡ true → (x.keys ≡ ks) ⊎ (comes_first x.keys ks ≡ true)
first_of ks x [] r h =
    elim (or_cases (same x.keys ks) (list_any (λ (y : Evidence). same y.keys ks) []) h) [
      | inl e ↦ inl (same_is x.keys ks e)
      | inr e ↦ absurd
          (let n : list_any (λ (y : Evidence). same y.keys ks) [] ≡ true = e in cc)
    ]
first_of ks x (y ∷ ys) r h =
    let parts = and_parts (comes_first x.keys y.keys) (differences_rise (y ∷ ys)) r in
    go parts.0 (first_of ks y ys parts.1) (or_cases (same x.keys ks) (list_any (λ (z : Evidence). same z.keys ks) (y ∷ ys)) h)
  where
    behind : comes_first x.keys y.keys ≡ true → (y.keys ≡ ks) ⊎ (comes_first y.keys ks ≡ true) → comes_first x.keys ks ≡ true
    behind f (inl e) = ap (comes_first x.keys) (sym e) ∙ f
    behind f (inr e) = first_then x.keys y.keys ks f e

    go : comes_first x.keys y.keys ≡ true → (list_any (λ z. same z.keys ks) (y ∷ ys) ≡ true → (y.keys ≡ ks) ⊎ (comes_first y.keys ks ≡ true))
        → (same x.keys ks ≡ true) ⊎ (list_any (λ z. same z.keys ks) (y ∷ ys) ≡ true)
        → (x.keys ≡ ks) ⊎ (comes_first x.keys ks ≡ true)
    go f later (inl e) = inl (same_is x.keys ks e)
    go f later (inr e) = inr (behind f (later e))

some_of : (o : Option Kind) → is_some o ≡ true → (kind : Kind) × (o ≡ Some kind)
some_of None h = cc
some_of (Some kind) h = (kind, refl)

-- the first of all differences of two tables is their least counterexample
pub first_difference : (names : KeysymNames) (fresh : List ℕ) (old new : List Definition) (x : Evidence) (xs : List Evidence) → is_table old ≡ true → is_table new ≡ true → AreFresh fresh old
    → AreDifferences names fresh old new (x ∷ xs) → IsLeast names fresh old new x
first_difference names fresh old new x xs t_old t_new are d = least_from names fresh old new x d.each.0.shows (λ q k c.
    (let kind = some_of (difference_at names old new q k) c.differs in
    first_of (q ++ k ∷ []) x xs d.rise (d.all (evidence names old new q k kind.0) (candidate_is names fresh old new t_old t_new are q k kind.0 c kind.1))))

-- if two tables have no difference, the new one follows the old one
pub no_difference : (names : KeysymNames) (fresh : List ℕ) (old new : List Definition) → is_table old ≡ true → is_table new ≡ true → AreFresh fresh old → AreDifferences names fresh old new []
    → Follows names fresh old new
no_difference names fresh old new t_old t_new are d = follows_without names fresh old new (λ q k c.
    (let kind = some_of (difference_at names old new q k) c.differs in
    let none = d.all (evidence names old new q k kind.0) (candidate_is names fresh old new t_old t_new are q k kind.0 c kind.1) in cc))
