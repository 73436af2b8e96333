-- Indexes in lists of keysyms: the first one that passes a test, and indexes in increasing lists.
use Rattle.std.proofs.Common.{◌≡◌, ℕ, zero, suc, ◌+◌, ◌<◌, ◌≤◌, min, List, [], ◌∷◌, ◌++◌, Bool, true, false, cond, not, ◌||◌, length, get_or, take, refl, sym, ◌∙◌, ap, arith, inl, inr, ltb-true, eq-eqb}
use Rattle.std.specs.Prelude.{◌==◌, nat_lt, is_ok, slice_get, Some, Result, Ok, Err}
use Rattle.std.specs.List.{list_any, position_or_len}
use Rattle.std.specs.List.Sorted.{IsBinarySearchResult}
use Rattle.std.specs.Result.{MatchResult}
use Rattle.std.proofs.Common.{nat_cmp}
use Rattle.std.proofs.lemmas.Bool.{and_parts, or_from, or_left, or_right, cases_lt, ne_eqb}
use Rattle.std.proofs.lemmas.List.{take_more}
use Rattle.std.proofs.lemmas.List.Folds.{list_any-append}
use Rattle.std.proofs.lemmas.List.Sums.{position_or_len_is}
use Rattle.std.proofs.lemmas.List.Sorted.{searched}
use Rattle.std.proofs.lemmas.Option.{slice_get_within, get_or_from_slice_get}
use Rattle.compose_model.specs.Table.{has_key}
use Rattle.compose_model.specs.Certificate.{keys_rise}

-- ---- tests that are joined

-- if nothing passes
pub position-none : {X : Type 0} (xs : List X) → position_or_len (λ x. false) xs ≡ length xs
position-none [] = refl
position-none (x ∷ xs) = let e : position_or_len (λ x. false) xs ≡ length xs = position-none xs in omega arith

-- tests that agree
pub position-same : {X : Type 0} (p q : X → Bool) → ((x : X) → p x ≡ q x) → (xs : List X) → position_or_len p xs ≡ position_or_len q xs
position-same p q h xs = λ i. position_or_len (λ x. h x i) xs

-- the first element that passes either test is the first of the two
pub position-or : {X : Type 0} (p q : X → Bool) (xs : List X) → position_or_len (λ x. p x || q x) xs ≡ min (position_or_len p xs) (position_or_len q xs)
position-or p q [] = refl
position-or p q (x ∷ xs) = go (p x) (q x) (position-or p q xs)
  where
    go : (a b : Bool) → position_or_len (λ x. p x || q x) xs ≡ min (position_or_len p xs) (position_or_len q xs)
        → cond (not (a || b)) (1 + position_or_len (λ x. p x || q x) xs) 0 ≡ min (cond (not a) (1 + position_or_len p xs) 0) (cond (not b) (1 + position_or_len q xs) 0)
    go true true e = refl
    go true false e = omega arith
    go false true e = omega arith
    go false false e = omega arith

-- ---- one more element

any_last : {X : Type 0} (q : X → Bool) (xs : List X) (x : X) → list_any q (xs ++ x ∷ []) ≡ list_any q xs || q x
any_last q xs x = list_any-append q xs (x ∷ []) ∙ ap (λ b. list_any q xs || b) (or_false (q x))
  where
    or_false : (b : Bool) → b || false ≡ b
    or_false true = refl
    or_false false = refl

-- one of the first elements up to this index passes exactly if an earlier one passes or this one
-- does
pub any_more : {X : Type 0} (q : X → Bool) (xs : List X) (i : ℕ) (d : X) → i < length xs → list_any q (take (i + 1) xs) ≡ list_any q (take i xs) || q (get_or xs i d)
any_more q xs i d h = ap (list_any q) (take_more xs i d h) ∙ any_last q (take i xs) (get_or xs i d)

-- a keysym is among those up to this index exactly if it is among the earlier ones or is this one
pub key_more : (es : List ℕ) (i j k : ℕ) → slice_get es i ≡ Some j → has_key (take (i + 1) es) k ≡ has_key (take i es) k || k == j
key_more es i j k e = any_more (λ x. k == x) es i 0 (slice_get_within es i j e) ∙ ap (λ x. has_key (take i es) k || k == x) (get_or_from_slice_get es i j 0 e)

-- ---- increasing lists

-- the first keysym of an increasing list is less than each later one
pub rises_head : (x : ℕ) (xs : List ℕ) → keys_rise (x ∷ xs) ≡ true → (j : ℕ) → j < length xs → x < get_or xs j 0
rises_head x [] r j h = absurd (omega arith)
rises_head x (y ∷ xs) r zero h = ltb-true x y (and_parts (nat_lt x y) (keys_rise (y ∷ xs)) r).0
rises_head x (y ∷ xs) r (suc j) h =
    let parts = and_parts (nat_lt x y) (keys_rise (y ∷ xs)) r in
    let a : x < y = ltb-true x y parts.0 in
    let b : y < get_or xs j 0 = rises_head y xs parts.1 j (omega arith) in omega arith

-- an increasing list without its first keysym is increasing
pub rises_tail : (x : ℕ) (xs : List ℕ) → keys_rise (x ∷ xs) ≡ true → keys_rise xs ≡ true
rises_tail x [] r = refl
rises_tail x (y ∷ xs) r = (and_parts (nat_lt x y) (keys_rise (y ∷ xs)) r).1

-- a later keysym of an increasing list is greater
pub rises : (xs : List ℕ) → keys_rise xs ≡ true → (i j : ℕ) → i < j → j < length xs → get_or xs i 0 < get_or xs j 0
rises [] r i j a b = absurd (omega arith)
rises (x ∷ xs) r i zero a b = absurd (omega arith)
rises (x ∷ xs) r zero (suc j) a b = rises_head x xs r j (omega arith)
rises (x ∷ xs) r (suc i) (suc j) a b = rises xs (rises_tail x xs r) i j (omega arith) (omega arith)

rises_weakly : (xs : List ℕ) → keys_rise xs ≡ true → (i j : ℕ) → i ≤ j → j < length xs → get_or xs i 0 ≤ get_or xs j 0
rises_weakly xs r i j a b = elim (cases_lt i j) [
  | inl h ↦ (let less : get_or xs i 0 < get_or xs j 0 = rises xs r i j h b in omega arith)
  | inr h ↦ (let same : i ≡ j = omega arith in let e : get_or xs i 0 ≡ get_or xs j 0 = ap (λ n. get_or xs n 0) same in omega arith)
]

-- the index that a binary search finds is the first one
pub searched_index : (xs : List ℕ) (k i : ℕ) → keys_rise xs ≡ true → IsBinarySearchResult (λ y. nat_cmp y k) xs (Ok i) → i ≡ position_or_len (λ y. y == k) xs
searched_index xs k i r h =
    let found = searched xs k (Ok i) h (rises_weakly xs r) in
    sym (position_or_len_is (λ y. y == k) xs i 0 (omega (arith, found.0))
    (λ j b. ne_eqb (get_or xs j 0) k (λ e. absurd (let less : get_or xs j 0 < get_or xs i 0 = rises xs r j i b found.0 in omega (arith, found.1))))
    (λ b. eq-eqb (get_or xs i 0) k found.1))

-- if there is none, it finds none
pub searched_none : (xs : List ℕ) (k i : ℕ) → keys_rise xs ≡ true → IsBinarySearchResult (λ y. nat_cmp y k) xs (Err i) → length xs ≡ position_or_len (λ y. y == k) xs
searched_none xs k i r h =
    let none = searched xs k (Err i) h (rises_weakly xs r) in
    sym (position_or_len_is (λ y. y == k) xs (length xs) 0 (omega arith)
    (λ j b. ne_eqb (get_or xs j 0) k (λ e. absurd (elim (cases_lt j i) [
      | inl low ↦ omega (arith, none.1 j low)
      | inr high ↦ omega (arith, none.2 j high b)
    ])))
    (λ b. absurd (omega arith)))

-- ---- whether a keysym is in a list, by binary search

key_there : (xs : List ℕ) (i k : ℕ) → i < length xs → get_or xs i 0 ≡ k → has_key xs k ≡ true
key_there [] i k h e = absurd (omega arith)
key_there (x ∷ xs) zero k h e = or_left (k == x) (has_key xs k) (eq-eqb k x (sym e))
key_there (x ∷ xs) (suc i) k h e = or_right (k == x) (has_key xs k) (key_there xs i k (omega arith) e)

key_absent : (xs : List ℕ) (k : ℕ) → ((i : ℕ) → i < length xs → get_or xs i 0 ≡ k → ⊥) → has_key xs k ≡ false
key_absent [] k n = refl
key_absent (x ∷ xs) k n = or_from (k == x) (has_key xs k) (ne_eqb k x (λ e. n zero (omega arith) (sym e))) (key_absent xs k (λ i h e. n (suc i) (omega arith) e))

-- a binary search in an increasing list finds a keysym exactly if the list has it
pub among : (xs : List ℕ) (k : ℕ) (r : Result ℕ ℕ) → keys_rise xs ≡ true → IsBinarySearchResult (λ y. nat_cmp y k) xs r → is_ok r ≡ has_key xs k
among xs k r rise found = go r (searched xs k r found (rises_weakly xs rise))
  where
    go : (r : Result ℕ ℕ)
        → MatchResult r (λ i. (i < length xs) × (get_or xs i 0 ≡ k)) (λ i. (i ≤ length xs) × ((j : ℕ) → j < i → get_or xs j 0 < k) × ((j : ℕ) → i ≤ j → j < length xs → k < get_or xs j 0))
        → is_ok r ≡ has_key xs k
    go (Ok i) h = sym (key_there xs i k h.0 h.1)
    go (Err i) h = sym (key_absent xs k (λ j b e. elim (cases_lt j i) [
      | inl l ↦ absurd (let m = h.1 j l in omega arith)
      | inr l ↦ absurd (let m = h.2 j l b in omega arith)
    ]))
