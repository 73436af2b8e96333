-- The order of pairs, and the result of a search among increasing pairs.
use Rattle.std.proofs.Common.{◌≡◌, ◌⊎◌, ℕ, zero, suc, ◌<◌, List, [], ◌∷◌, true, false, ◌&&◌, length, get_or, refl, sym, ◌∙◌, arith, inl, inr, ltb-true, lt-ltb, eqb-true, eq-eqb}
use Rattle.std.specs.Prelude.{◌==◌, nat_lt}
use Rattle.std.proofs.lemmas.Bool.{and_parts, and_from, or_cases, or_left, or_right, cases_lt, and_left, and_right, ne_eqb}
use Rattle.compose_model.specs.Certificate.{is_pair_before, pairs_rise}

-- ---- the order

abbrev pub Before : ℕ × ℕ → ℕ × ℕ → Type 0
Before p q = (p.0 < q.0) ⊎ ((p.0 ≡ q.0) × (p.1 < q.1))

-- a pair that comes before another has the smaller old node, or the same one and the smaller new
-- node
pub before_means : (p q : ℕ × ℕ) → is_pair_before p q ≡ true → Before p q
before_means p q h = elim (or_cases (nat_lt p.0 q.0) (p.0 == q.0 && nat_lt p.1 q.1) h) [
  | inl e ↦ inl (ltb-true p.0 q.0 e)
  | inr e ↦ (let both = and_parts (p.0 == q.0) (nat_lt p.1 q.1) e in inr (eqb-true p.0 q.0 both.0, ltb-true p.1 q.1 both.1))
]

before_from : (p q : ℕ × ℕ) → Before p q → is_pair_before p q ≡ true
before_from p q (inl h) = or_left (nat_lt p.0 q.0) (p.0 == q.0 && nat_lt p.1 q.1) (lt-ltb p.0 q.0 h)
before_from p q (inr h) = or_right (nat_lt p.0 q.0) (p.0 == q.0 && nat_lt p.1 q.1) (and_from (p.0 == q.0) (nat_lt p.1 q.1) (eq-eqb p.0 q.0 h.0) (lt-ltb p.1 q.1 h.1))

-- what comes before a pair comes before everything that comes after that pair
pub before_trans : (p q r : ℕ × ℕ) → is_pair_before p q ≡ true → is_pair_before q r ≡ true → is_pair_before p r ≡ true
before_trans p q r g h = before_from p r (go (before_means p q g) (before_means q r h))
  where
    go : Before p q → Before q r → Before p r
    go (inl a) (inl b) = inl (omega arith)
    go (inl a) (inr b) = inl (omega (arith, b.0))
    go (inr a) (inl b) = inl (omega (arith, a.0))
    go (inr a) (inr b) = inr (a.0 ∙ b.0, omega (arith, a.1, b.1))

-- a pair that comes before or after the numbers i and j is not that pair
pub other_before : (p : ℕ × ℕ) (i j : ℕ) → is_pair_before p (i, j) ≡ true → p.0 == i && p.1 == j ≡ false
other_before p i j h = elim (before_means p (i, j) h) [
  | inl a ↦ and_left (p.0 == i) (p.1 == j) (ne_eqb p.0 i (λ e. absurd (omega arith)))
  | inr a ↦ and_right (p.0 == i) (p.1 == j) (ne_eqb p.1 j (λ e. absurd (omega (arith, a.1))))
]

-- a pair that comes after the numbers i and j is not the pair of them
pub other_after : (p : ℕ × ℕ) (i j : ℕ) → is_pair_before (i, j) p ≡ true → p.0 == i && p.1 == j ≡ false
other_after p i j h = elim (before_means (i, j) p h) [
  | inl a ↦ and_left (p.0 == i) (p.1 == j) (ne_eqb p.0 i (λ e. absurd (omega arith)))
  | inr a ↦ and_right (p.0 == i) (p.1 == j) (ne_eqb p.1 j (λ e. absurd (omega (arith, a.1))))
]

-- a pair that comes neither before nor after the numbers is the pair of them
pub neither_is : (p : ℕ × ℕ) (i j : ℕ) → is_pair_before p (i, j) ≡ false → is_pair_before (i, j) p ≡ false → p.0 == i && p.1 == j ≡ true
neither_is p i j g h = and_from (p.0 == i) (p.1 == j) (eq-eqb p.0 i first) (eq-eqb p.1 j (second first))
  where
    clash : {P : Type 0} (p q : ℕ × ℕ) → is_pair_before p q ≡ false → Before p q → P
    clash p q e b = absurd (let f : false ≡ true = sym e ∙ before_from p q b in cc)

    first : p.0 ≡ i
    first = elim (cases_lt p.0 i) [ inl a ↦ clash p (i, j) g (inl a) | inr a ↦ elim (cases_lt i p.0) [ inl b ↦ clash (i, j) p h (inl b) | inr b ↦ omega arith ] ]

    second : p.0 ≡ i → p.1 ≡ j
    second e = elim (cases_lt p.1 j) [ inl a ↦ clash p (i, j) g (inr (e, a)) | inr a ↦ elim (cases_lt j p.1) [ inl b ↦ clash (i, j) p h (inr (sym e, b)) | inr b ↦ omega arith ] ]

-- ---- increasing pairs

head_before : (p : ℕ × ℕ) (xs : List (ℕ × ℕ)) → pairs_rise (p ∷ xs) ≡ true → (j : ℕ) → j < length xs → is_pair_before p (get_or xs j (0, 0)) ≡ true
head_before p [] r j h = absurd (omega arith)
head_before p (q ∷ xs) r zero h = (and_parts (is_pair_before p q) (pairs_rise (q ∷ xs)) r).0
head_before p (q ∷ xs) r (suc j) h =
    let parts = and_parts (is_pair_before p q) (pairs_rise (q ∷ xs)) r in
    before_trans p q (get_or xs j (0, 0)) parts.0 (head_before q xs parts.1 j (omega arith))

tail_rises : (p : ℕ × ℕ) (xs : List (ℕ × ℕ)) → pairs_rise (p ∷ xs) ≡ true → pairs_rise xs ≡ true
tail_rises p [] r = refl
tail_rises p (q ∷ xs) r = (and_parts (is_pair_before p q) (pairs_rise (q ∷ xs)) r).1

-- a pair at a smaller index comes before
pub earlier_before : (xs : List (ℕ × ℕ)) → pairs_rise xs ≡ true → (i j : ℕ) → i < j → j < length xs → is_pair_before (get_or xs i (0, 0)) (get_or xs j (0, 0)) ≡ true
earlier_before [] r i j a b = absurd (omega arith)
earlier_before (p ∷ xs) r i zero a b = absurd (omega arith)
earlier_before (p ∷ xs) r zero (suc j) a b = head_before p xs r j (omega arith)
earlier_before (p ∷ xs) r (suc i) (suc j) a b = earlier_before xs (tail_rises p xs r) i j (omega arith) (omega arith)
