-- Lists that go on from others by a key.
use Rattle.std.proofs.Common.{◌≡◌, ℕ, List, [], ◌∷◌, ◌++◌, Bool, true, ◌||◌, refl, sym, ◌∙◌, ap, inl, inr, eq-eqb}
use Rattle.std.specs.Prelude.{◌==◌}
use Rattle.std.proofs.lemmas.Bool.{and_parts, and_from, or_cases, or_left, or_right}
use Rattle.compose_model.specs.Table.{same, is_proper_prefix}
use Rattle.compose_model.proofs.NodeLemmas.{same_is, same_from}

-- v is u, or goes on from it
abbrev pub begins : List ℕ → List ℕ → Bool
begins u v = same u v || is_proper_prefix u v

-- what goes on from p does so by a key
pub first_key : (p v : List ℕ) → is_proper_prefix p v ≡ true → (k : ℕ) × (begins (p ++ k ∷ []) v ≡ true)
first_key p [] h = cc
first_key [] (x ∷ []) h = (x, or_left (same (x ∷ []) (x ∷ [])) (is_proper_prefix (x ∷ []) (x ∷ [])) (same_from (x ∷ []) (x ∷ []) refl))
first_key [] (x ∷ y ∷ v) h = (x, or_right (same (x ∷ []) (x ∷ y ∷ v)) (is_proper_prefix (x ∷ []) (x ∷ y ∷ v)) (and_from (x == x) true (eq-eqb x x refl) refl))
first_key (j ∷ p) (x ∷ v) h =
    let parts = and_parts (j == x) (is_proper_prefix p v) h in
    let r = first_key p v parts.1 in (
      r.0,
      elim (or_cases (same (p ++ r.0 ∷ []) v) (is_proper_prefix (p ++ r.0 ∷ []) v) r.1) [
        | inl e ↦ or_left (same (j ∷ p ++ r.0 ∷ []) (x ∷ v)) (is_proper_prefix (j ∷ p ++ r.0 ∷ []) (x ∷ v)) (and_from (j == x) (same (p ++ r.0 ∷ []) v) parts.0 e)
        | inr e ↦ or_right (same (j ∷ p ++ r.0 ∷ []) (x ∷ v)) (is_proper_prefix (j ∷ p ++ r.0 ∷ []) (x ∷ v)) (and_from (j == x) (is_proper_prefix (p ++ r.0 ∷ []) v) parts.0 e)
      ],
    )

-- what goes on from p by a key goes on from p
pub goes_after : (p : List ℕ) (k : ℕ) (v : List ℕ) → begins (p ++ k ∷ []) v ≡ true → is_proper_prefix p v ≡ true
goes_after p k v h = elim (or_cases (same (p ++ k ∷ []) v) (is_proper_prefix (p ++ k ∷ []) v) h) [
  | inl e ↦ ap (is_proper_prefix p) (sym (same_is (p ++ k ∷ []) v e)) ∙ one p
  | inr e ↦ longer p v e
]
  where
    one : (p : List ℕ) → is_proper_prefix p (p ++ k ∷ []) ≡ true
    one [] = refl
    one (j ∷ p) = and_from (j == j) (is_proper_prefix p (p ++ k ∷ [])) (eq-eqb j j refl) (one p)

    longer : (p v : List ℕ) → is_proper_prefix (p ++ k ∷ []) v ≡ true → is_proper_prefix p v ≡ true
    longer p [] e = cc
    longer [] (x ∷ v) e = refl
    longer (j ∷ p) (x ∷ v) e = let parts = and_parts (j == x) (is_proper_prefix (p ++ k ∷ []) v) e in and_from (j == x) (is_proper_prefix p v) parts.0 (longer p v parts.1)
