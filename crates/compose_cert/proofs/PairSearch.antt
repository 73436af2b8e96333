-- The result of a binary search among increasing pairs.
use Rattle.std.proofs.Common.{◌≡◌, ◌⊎◌, ℕ, ◌-◌, ◌<◌, ◌≤◌, List, Bool, true, false, ◌&&◌, length, take, drop, get_or, refl, sym, ◌∙◌, ap, arith, inl, inr, eqb-true, nat_cmp, Ordering, Less, Equal, Greater}
use Rattle.std.specs.Prelude.{◌==◌, is_ok, slice_range, Result, Ok, Err}
use Rattle.std.specs.List.{list_any}
use Rattle.std.specs.Cmp.{nat_cmp_is}
use Rattle.std.specs.Ordering.{ordering_then, ordering_index}
use Rattle.std.specs.List.Sorted.{IsBinarySearchResult, IsNonDecreasingBy, IsSearchInRange}
use Rattle.std.proofs.lemmas.Bool.{and_parts, or_left, or_right, cases_Bool, cases_lt}
use Rattle.std.proofs.lemmas.List.Sorted.{IsNonDecreasingBy-from_default}
use Rattle.compose_model.specs.Certificate.{is_pair_before, pairs_rise, has_pair}
use Rattle.std.proofs.lemmas.List.{take-append-drop}
use Rattle.std.proofs.lemmas.List.Elements.{All-from_get_or}
use Rattle.std.proofs.lemmas.List.Folds.{list_any_at, list_any_none, list_any-append}
use Rattle.compose_cert.proofs.PairOrder.{before_means, before_trans, earlier_before, neither_is, other_before, other_after}

-- how a pair compares with the numbers i and j
abbrev pub compared : ℕ → ℕ → ℕ × ℕ → Ordering
compared i j p = ordering_then (nat_cmp p.0 i) (nat_cmp p.1 j)

less_from : (i j : ℕ) (p : ℕ × ℕ) → is_pair_before p (i, j) ≡ true → compared i j p ≡ Less
less_from i j p h = elim (before_means p (i, j) h) [
  | inl a ↦ ap (λ o. ordering_then o (nat_cmp p.1 j)) (sym (nat_cmp_is p.0 i Less a))
  | inr a ↦ ap (λ o. ordering_then o (nat_cmp p.1 j)) (sym (nat_cmp_is p.0 i Equal a.0)) ∙ sym (nat_cmp_is p.1 j Less a.1)
]

greater_from : (i j : ℕ) (p : ℕ × ℕ) → is_pair_before (i, j) p ≡ true → compared i j p ≡ Greater
greater_from i j p h = elim (before_means (i, j) p h) [
  | inl a ↦ ap (λ o. ordering_then o (nat_cmp p.1 j)) (sym (nat_cmp_is p.0 i Greater a))
  | inr a ↦ ap (λ o. ordering_then o (nat_cmp p.1 j)) (sym (nat_cmp_is p.0 i Equal (sym a.0))) ∙ sym (nat_cmp_is p.1 j Greater a.1)
]

equal_from : (i j : ℕ) (p : ℕ × ℕ) → p.0 == i && p.1 == j ≡ true → compared i j p ≡ Equal
equal_from i j p h =
    let both = and_parts (p.0 == i) (p.1 == j) h in
    ap (λ o. ordering_then o (nat_cmp p.1 j)) (sym (nat_cmp_is p.0 i Equal (eqb-true p.0 i both.0))) ∙ sym (nat_cmp_is p.1 j Equal (eqb-true p.1 j both.1))

-- a pair comes before the numbers, after them, or is them
data Compared (i j : ℕ) (p : ℕ × ℕ) : Type 0 where
  before : is_pair_before p (i, j) ≡ true → compared i j p ≡ Less → Compared i j p
  after : is_pair_before (i, j) p ≡ true → compared i j p ≡ Greater → Compared i j p
  same : p.0 == i && p.1 == j ≡ true → compared i j p ≡ Equal → Compared i j p

compare : (i j : ℕ) (p : ℕ × ℕ) → Compared i j p
compare i j p = elim (cases_Bool (is_pair_before p (i, j))) [
  | inl a ↦ before a (less_from i j p a)
  | inr a ↦ elim (cases_Bool (is_pair_before (i, j) p)) [
    | inl b ↦ after b (greater_from i j p b)
    | inr b ↦ (let is : p.0 == i && p.1 == j ≡ true = neither_is p i j a b in same is (equal_from i j p is))
  ]
]

-- ---- increasing pairs

no_more_than_greater : (o : Ordering) → ordering_index o ≤ 2
no_more_than_greater Less = omega arith
no_more_than_greater Equal = omega arith
no_more_than_greater Greater = omega arith

-- a pair that comes before another doesn't compare as greater than it
no_more : (i j : ℕ) (p q : ℕ × ℕ) → is_pair_before p q ≡ true → ordering_index (compared i j p) ≤ ordering_index (compared i j q)
no_more i j p q h = go (compare i j q)
  where
    least : is_pair_before p (i, j) ≡ true → ordering_index (compared i j p) ≤ ordering_index (compared i j q)
    least a = let zero : ordering_index (compared i j p) ≡ 0 = ap ordering_index (less_from i j p a) in omega arith

    go : Compared i j q → ordering_index (compared i j p) ≤ ordering_index (compared i j q)
    go (before a e) = least (before_trans p q (i, j) h a)
    go (after a e) =
        let most : ordering_index (compared i j q) ≡ 2 = ap ordering_index e in
        let few = no_more_than_greater (compared i j p) in
        omega arith
    go (same a e) =
        let both = and_parts (q.0 == i) (q.1 == j) a in
        least (sym (ap (is_pair_before p) (λ k. (eqb-true q.0 i both.0 k, eqb-true q.1 j both.1 k))) ∙ h)

rises_compared : (i j : ℕ) (pairs : List (ℕ × ℕ)) → pairs_rise pairs ≡ true → IsNonDecreasingBy (λ p. ordering_index (compared i j p)) pairs
rises_compared i j pairs rise = IsNonDecreasingBy-from_default (λ p. ordering_index (compared i j p)) pairs (0, 0) (λ a b low high. elim (cases_lt a b) [
  | inl less ↦ no_more i j (get_or pairs a (0, 0)) (get_or pairs b (0, 0)) (earlier_before pairs rise a b less high)
  | inr more ↦
      (let is : a ≡ b = omega arith in let e : ordering_index (compared i j (get_or pairs a (0, 0))) ≡ ordering_index (compared i j (get_or pairs b (0, 0))) = ap
      (λ n. ordering_index (compared i j (get_or pairs n (0, 0)))) is in omega arith)
])

-- ---- the search

is_equal : (i j : ℕ) (p : ℕ × ℕ) → compared i j p ≡ Equal → p.0 == i && p.1 == j ≡ true
is_equal i j p h = go (compare i j p)
  where
    go : Compared i j p → p.0 == i && p.1 == j ≡ true
    go (before a e) = let clash : Less ≡ Equal = sym e ∙ h in cc
    go (after a e) = let clash : Greater ≡ Equal = sym e ∙ h in cc
    go (same a e) = a

is_other : (i j : ℕ) (p : ℕ × ℕ) → (compared i j p ≡ Less) ⊎ (compared i j p ≡ Greater) → p.0 == i && p.1 == j ≡ false
is_other i j p h = go (compare i j p)
  where
    go : Compared i j p → p.0 == i && p.1 == j ≡ false
    go (before a e) = other_before p i j a
    go (after a e) = other_after p i j a
    go (same a e) = elim h [
      | inl l ↦ (let clash : Equal ≡ Less = sym e ∙ l in cc)
      | inr g ↦ (let clash : Equal ≡ Greater = sym e ∙ g in cc)
    ]

-- a test that fails at each index
none_passes : (q : ℕ × ℕ → Bool) (xs : List (ℕ × ℕ)) → ((k : ℕ) → k < length xs → q (get_or xs k (0, 0)) ≡ false) → list_any q xs ≡ false
none_passes q xs f = list_any_none q xs (All-from_get_or (λ x. q x ≡ false) xs (0, 0) f)

-- what a binary search finds is a pair
pub found_pair : (pairs : List (ℕ × ℕ)) (i j : ℕ) (r : Result ℕ ℕ) → IsSearchInRange r (length pairs) → IsBinarySearchResult (compared i j) pairs r → is_ok r ≡ true
    → has_pair pairs i j ≡ true
found_pair pairs i j (Ok k) range found e = list_any_at (λ p. p.0 == i && p.1 == j) pairs k (0, 0) range (is_equal i j (get_or pairs k (0, 0)) (found (0, 0)))
found_pair pairs i j (Err k) range found e = cc

-- a binary search among increasing pairs finds the numbers exactly if they are a pair
pub searched_pair : (pairs : List (ℕ × ℕ)) (i j : ℕ) (r : Result ℕ ℕ) → pairs_rise pairs ≡ true → IsSearchInRange r (length pairs) → IsBinarySearchResult (compared i j) pairs r
    → is_ok r ≡ has_pair pairs i j
searched_pair pairs i j (Ok k) rise range found = sym (found_pair pairs i j (Ok k) range found refl)
searched_pair pairs i j (Err k) rise range found =
    let parts = found (rises_compared i j pairs rise) in
    sym (none_passes (λ p. p.0 == i && p.1 == j) pairs (λ n h. is_other i j (get_or pairs n (0, 0)) (elim (cases_lt n k) [
      | inl low ↦ inl (parts.0 n (0, 0) (omega arith) low)
      | inr high ↦ inr (parts.1 n (0, 0) high h)
    ])))

-- a pair of a part is a pair of the whole
pub pair_of_part : (pairs : List (ℕ × ℕ)) (begin end i j : ℕ) → has_pair (slice_range pairs begin end) i j ≡ true → has_pair pairs i j ≡ true
pair_of_part pairs begin end i j h =
    let passes : ℕ × ℕ → Bool = λ p. p.0 == i && p.1 == j in
    let rest = drop begin pairs in
    let of_rest : list_any passes rest ≡ true =
    ap (list_any passes) (sym (take-append-drop (end - begin) rest)) ∙ list_any-append passes (take (end - begin) rest) (drop (end - begin) rest)
    ∙ or_left (list_any passes (take (end - begin) rest)) (list_any passes (drop (end - begin) rest)) h in
    ap (list_any passes) (sym (take-append-drop begin pairs)) ∙ list_any-append passes (take begin pairs) rest
    ∙ or_right (list_any passes (take begin pairs)) (list_any passes rest) of_rest
