-- Which list of keys comes first: the shorter one, and of lists that are as long the first in the
-- order of sequences.
use Rattle.std.proofs.Common.{◌≡◌, ◌⊎◌, ℕ, ◌<◌, List, true, ◌&&◌, length, ◌∙◌, refl, ap, inl, inr, arith, lt-ltb, eqb-true, eq-eqb, Ordering, Less, Equal, Greater, nat_cmp}
use Rattle.std.specs.Prelude.{◌==◌, nat_lt}
use Rattle.std.specs.Ordering.{is_lt}
use Rattle.std.specs.Cmp.Lexicographic.{slice_cmp}
use Rattle.std.proofs.lemmas.Cmp.{nat_list_cmp_total}
use Rattle.std.proofs.lemmas.Bool.{and_parts, and_from, or_cases, or_left, or_right, ltb-true}
use Rattle.compose_model.specs.Table.{comes_before}
use Rattle.compose_walk.specs.Evidence.{comes_first}

-- a shorter list of keys comes first
pub first_by_length : (v w : List ℕ) → length v < length w → comes_first v w ≡ true
first_by_length v w h = or_left (nat_lt (length v) (length w)) (length v == length w && comes_before v w) (lt-ltb (length v) (length w) h)

-- of two lists that are as long, the one that is before the other in the order of sequences comes
-- first
pub first_by_order : (v w : List ℕ) → length v ≡ length w → slice_cmp nat_cmp v w ≡ Less → comes_first v w ≡ true
first_by_order v w e h =
    or_right (nat_lt (length v) (length w)) (length v == length w && comes_before v w) (and_from (length v == length w) (comes_before v w) (eq-eqb (length v) (length w) e) (ap is_lt h))

less_is : (o : Ordering) → is_lt o ≡ true → o ≡ Less
less_is Less h = refl
less_is Equal h = cc
less_is Greater h = cc

-- shorter, or as long and before it
abbrev pub FirstParts : List ℕ → List ℕ → Type 0
FirstParts v w = (length v < length w) ⊎ ((length v ≡ length w) × (slice_cmp nat_cmp v w ≡ Less))

-- a list that comes first is shorter, or as long and before the other in the order of sequences
pub first_parts : (v w : List ℕ) → comes_first v w ≡ true → FirstParts v w
first_parts v w h = elim (or_cases (nat_lt (length v) (length w)) (length v == length w && comes_before v w) h) [
  | inl e ↦ inl (ltb-true (length v) (length w) e)
  | inr e ↦ (let p = and_parts (length v == length w) (comes_before v w) e in inr (eqb-true (length v) (length w) p.0, less_is (slice_cmp nat_cmp v w) p.1))
]

-- what comes before a list of keys comes before all that this list comes before
pub first_then : (u v w : List ℕ) → comes_first u v ≡ true → comes_first v w ≡ true → comes_first u w ≡ true
first_then u v w a b = go (first_parts u v a) (first_parts v w b)
  where
    go : FirstParts u v → FirstParts v w → comes_first u w ≡ true
    go (inl x) (inl y) = first_by_length u w (omega arith)
    go (inl x) (inr y) = first_by_length u w (let e = y.0 in omega arith)
    go (inr x) (inl y) = first_by_length u w (let e = x.0 in omega arith)
    go (inr x) (inr y) = first_by_order u w (x.0 ∙ y.0) (nat_list_cmp_total.trans u v w x.1 y.1)
