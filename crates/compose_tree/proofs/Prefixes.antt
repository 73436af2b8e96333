-- Prefixes of lists of keysyms, and their order.
use Rattle.std.proofs.Common.{◌≡◌, ℕ, List, [], ◌∷◌, ◌++◌, Bool, true, false, not, ◌&&◌, ◌||◌, ◌⊎◌, map, refl, sym, ◌∙◌, ap, subst, inl, inr, eqb-true, eq-eqb, Ordering, Less, Equal, Greater, nat_cmp}
use Rattle.std.specs.Prelude.{◌==◌}
use Rattle.std.specs.List.{list_any, AllByRecursion}
use Rattle.std.specs.List.Sorted.{IsStrictlySortedBy}
use Rattle.std.specs.Ordering.{ordering_then, ordering_reverse}
use Rattle.std.specs.Cmp.{both_ways}
use Rattle.std.specs.Cmp.Lexicographic.{slice_cmp}
use Rattle.std.proofs.lemmas.Cmp.{nat_list_cmp_total, nat_cmp_total, tied_itself}
use Rattle.std.proofs.lemmas.Bool.{and_parts, and_from, or_cases, or_left, or_right}
use Rattle.compose_model.specs.Table.{same, is_proper_prefix}
use Rattle.compose_model.specs.Nodes.{proper_prefixes}
use Rattle.compose_model.proofs.Tests.{list_any-map, list_any-and}
use Rattle.compose_model.proofs.NodeLemmas.{same_from}

-- x comes before y in the order of sequences
abbrev pub Before : List ℕ → List ℕ → Type 0
Before x y = slice_cmp nat_cmp x y ≡ Less

-- a condition or a false one is the condition
pub or_false : (b : Bool) → b || false ≡ b
or_false true = refl
or_false false = refl

and_or : (a b c : Bool) → a && (b || c) ≡ (a && b) || (a && c)
and_or true b c = refl
and_or false b c = refl

-- ---- order

-- a list doesn't come before an equal one
pub not_before_itself : (x y : List ℕ) → x ≡ y → Before x y → ⊥
not_before_itself x y e h = let t : Equal ≡ Less = sym (tied_itself nat_list_cmp_total x) ∙ ap (slice_cmp nat_cmp x) e ∙ h in cc

then_step : (o a b : Ordering) → (a ≡ Less → b ≡ Less) → ordering_then o a ≡ Less → ordering_then o b ≡ Less
then_step Less a b f h = refl
then_step Equal a b f h = f h
then_step Greater a b f h = cc

-- a list before another one is before each list that begins with that one
pub before_longer : (x q y : List ℕ) → Before x q → Before x (q ++ y)
before_longer [] [] y h = cc
before_longer [] (k ∷ q) y h = refl
before_longer (j ∷ x) [] y h = cc
before_longer (j ∷ x) (k ∷ q) y h = then_step (nat_cmp j k) (slice_cmp nat_cmp x q) (slice_cmp nat_cmp x (q ++ y)) (before_longer x q y) h

-- after the same first keysym the order is that of the rests
after_same : (k : ℕ) (x y : List ℕ) → slice_cmp nat_cmp (k ∷ x) (k ∷ y) ≡ slice_cmp nat_cmp x y
after_same k x y = ap (λ o. ordering_then o (slice_cmp nat_cmp x y)) (tied_itself nat_cmp_total k)

-- lists after the same prefix compare as without it
pub behind_prefix : (q x y : List ℕ) → slice_cmp nat_cmp (q ++ x) (q ++ y) ≡ slice_cmp nat_cmp x y
behind_prefix [] x y = refl
behind_prefix (k ∷ q) x y = after_same k (q ++ x) (q ++ y) ∙ behind_prefix q x y

-- no list is before a list that is a prefix of it
pub not_before_prefix : (q y : List ℕ) → Before (q ++ y) q → ⊥
not_before_prefix [] [] h = cc
not_before_prefix [] (k ∷ y) h = cc
not_before_prefix (k ∷ q) y h = not_before_prefix q y (sym (after_same k (q ++ y) q) ∙ h)

-- a proper prefix comes before its extensions
pub prefix_before : (p s : List ℕ) → is_proper_prefix p s ≡ true → Before p s
prefix_before p [] h = cc
prefix_before [] (k ∷ s) h = refl
prefix_before (j ∷ p) (k ∷ s) h =
    let both = and_parts (j == k) (is_proper_prefix p s) h in
    let is : j ≡ k = eqb-true j k both.0 in
    subst (λ (i : ℕ). slice_cmp nat_cmp (j ∷ p) (i ∷ s) ≡ Less) is (after_same j p s ∙ prefix_before p s both.1)

-- the empty list comes before every other
pub root_before : (p : List ℕ) (k : ℕ) → Before [] (p ++ k ∷ [])
root_before [] k = refl
root_before (j ∷ p) k = refl

-- of two lists that differ in the last keysym, the order is that of these
pub last_before : (p : List ℕ) (j k : ℕ) → Before (p ++ j ∷ []) (p ++ k ∷ []) → nat_cmp j k ≡ Less
last_before p j k h = go (nat_cmp j k) (sym (behind_prefix p (j ∷ []) (k ∷ [])) ∙ h)
  where
    go : (o : Ordering) → ordering_then o Equal ≡ Less → o ≡ Less
    go Less h = refl
    go Equal h = h
    go Greater h = h

-- ---- prefixes

-- the proper prefixes of s, as a test
pub prefixes_are : (p s : List ℕ) → list_any (same p) (proper_prefixes s) ≡ is_proper_prefix p s
prefixes_are p [] = refl
prefixes_are [] (k ∷ s) = refl
prefixes_are (j ∷ p) (k ∷ s) =
    list_any-map (same (j ∷ p)) (λ q. k ∷ q) (proper_prefixes s) ∙ list_any-and (j == k) (same p) (proper_prefixes s) ∙ ap (λ b. j == k && b) (prefixes_are p s)

-- a prefix of two lists put together is a prefix of the first, or is the first with a prefix of the
-- second
pub prefix_of_joined : (x q rest : List ℕ) → is_proper_prefix x (q ++ rest) ≡ is_proper_prefix x q || list_any (λ y. same x (q ++ y)) (proper_prefixes rest)
prefix_of_joined x [] rest = sym (prefixes_are x rest)
prefix_of_joined [] (k ∷ q) rest = refl
prefix_of_joined (j ∷ x) (k ∷ q) rest =
    ap (λ b. j == k && b) (prefix_of_joined x q rest) ∙ and_or (j == k) (is_proper_prefix x q) (list_any (λ y. same x (q ++ y)) (proper_prefixes rest))
    ∙ ap (λ b. (j == k && is_proper_prefix x q) || b) (sym (list_any-and (j == k) (λ y. same x (q ++ y)) (proper_prefixes rest)))

-- a proper prefix of a list with one more keysym is the list, or a proper prefix of it
pub prefix_of_more : (x p : List ℕ) (k : ℕ) → is_proper_prefix x (p ++ k ∷ []) ≡ true → (x ≡ p) ⊎ (is_proper_prefix x p ≡ true)
prefix_of_more [] [] k h = inl refl
prefix_of_more (j ∷ x) [] k h = let e = (and_parts (j == k) false h).1 in cc
prefix_of_more [] (i ∷ p) k h = inr refl
prefix_of_more (j ∷ x) (i ∷ p) k h =
    let both = and_parts (j == i) (is_proper_prefix x (p ++ k ∷ [])) h in
    elim (prefix_of_more x p k both.1) [
      | inl e ↦ inl (ap (λ n. n ∷ x) (eqb-true j i both.0) ∙ ap (λ y. i ∷ y) e)
      | inr e ↦ inr (and_from (j == i) (is_proper_prefix x p) both.0 e)
    ]

-- a list is a proper prefix of itself with more after it
pub prefix_of_longer : (x y : List ℕ) (k : ℕ) → is_proper_prefix x (x ++ k ∷ y) ≡ true
prefix_of_longer [] y k = refl
prefix_of_longer (j ∷ x) y k = and_from (j == j) (is_proper_prefix x (x ++ k ∷ y)) (eq-eqb j j refl) (prefix_of_longer x y k)

-- a proper prefix of p is a proper prefix of each list that begins with p
pub prefix_on : (x p y : List ℕ) → is_proper_prefix x p ≡ true → is_proper_prefix x (p ++ y) ≡ true
prefix_on x p y h = prefix_of_joined x p y ∙ or_left (is_proper_prefix x p) (list_any (λ z. same x (p ++ z)) (proper_prefixes y)) h

-- x begins s, as a whole or properly
abbrev pub begins : List ℕ → List ℕ → Bool
begins x s = is_proper_prefix x s || same x s

or_and : (b c : Bool) → (b && c) || (b && not c) ≡ b
or_and true true = refl
or_and true false = refl
or_and false c = refl

-- after a common prefix, a keysym begins the rest exactly if it is its first
pub begins_at : (u : List ℕ) (j k : ℕ) (r : List ℕ) → begins (u ++ j ∷ []) (u ++ k ∷ r) ≡ (j == k)
begins_at [] j k [] = go (j == k)
  where
    go : (b : Bool) → (b && false) || (b && true) ≡ b
    go true = refl
    go false = refl
begins_at [] j k (i ∷ r) = go (j == k)
  where
    go : (b : Bool) → (b && true) || (b && false) ≡ b
    go true = refl
    go false = refl
begins_at (i ∷ u) j k r = rw (eq-eqb i i refl) (begins_at u j k r)

-- if x followed by a keysym is a list that continues p and k, and x comes before p and k, then x is
-- p and the keysym is k
pub last_is : (x : List ℕ) (j : ℕ) (p : List ℕ) (k : ℕ) (y : List ℕ) → x ++ j ∷ [] ≡ (p ++ k ∷ []) ++ y → Before x (p ++ k ∷ []) → (same x p && j == k) ≡ true
last_is [] j [] k y e h = let is : j ≡ k = cc in eq-eqb j k is
last_is [] j (a ∷ []) k y e h = cc
last_is [] j (a ∷ b ∷ p) k y e h = cc
last_is (b ∷ x) j [] k y e h = absurd (let is : b ≡ k = cc in not_before_prefix (k ∷ []) x (ap (λ i. slice_cmp nat_cmp (i ∷ x) (k ∷ [])) (sym is) ∙ h))
last_is (b ∷ x) j (a ∷ p) k y e h =
    let is : b ≡ a = cc in
    let tails : x ++ j ∷ [] ≡ (p ++ k ∷ []) ++ y = cc in
    let less : Before x (p ++ k ∷ []) = sym (after_same a x (p ++ k ∷ [])) ∙ ap (λ i. slice_cmp nat_cmp (i ∷ x) (a ∷ p ++ k ∷ [])) (sym is) ∙ h in
    rw (eq-eqb b a is) (last_is x j p k y tails less)

-- ---- the prefixes in order

all_map : {X Y : Type 0} (P : Y → Type 0) (f : X → Y) (xs : List X) → AllByRecursion (λ x. P (f x)) xs → AllByRecursion P (map f xs)
all_map P f [] a = tt
all_map P f (x ∷ xs) a = (a.0, all_map P f xs a.1)

all_weaker : {X : Type 0} (P Q : X → Type 0) → ((x : X) → P x → Q x) → (xs : List X) → AllByRecursion P xs → AllByRecursion Q xs
all_weaker P Q f [] a = tt
all_weaker P Q f (x ∷ xs) a = (f x a.0, all_weaker P Q f xs a.1)

-- after a common prefix a sorted list stays sorted
pub after_sorted : (q : List ℕ) (xs : List (List ℕ)) → IsStrictlySortedBy (slice_cmp nat_cmp) xs → IsStrictlySortedBy (slice_cmp nat_cmp) (map (λ x. q ++ x) xs)
unfolding IsStrictlySortedBy
after_sorted q [] s = tt
after_sorted q (x ∷ xs) s = (
  all_map (λ y. slice_cmp nat_cmp (q ++ x) y ≡ Less) (λ y. q ++ y) xs
      (all_weaker (λ y. slice_cmp nat_cmp x y ≡ Less) (λ y. slice_cmp nat_cmp (q ++ x) (q ++ y) ≡ Less) (λ y h. behind_prefix q x y ∙ h) xs s.0),
  after_sorted q xs s.1,
)

-- the proper prefixes of a list are strictly increasing
pub prefixes_sorted : (s : List ℕ) → IsStrictlySortedBy (slice_cmp nat_cmp) (proper_prefixes s)
unfolding IsStrictlySortedBy
prefixes_sorted [] = tt
prefixes_sorted (k ∷ s) = (first (proper_prefixes s), after_sorted (k ∷ []) (proper_prefixes s) (prefixes_sorted s))
  where
    first : (xs : List (List ℕ)) → AllByRecursion (λ y. slice_cmp nat_cmp [] y ≡ Less) (map (λ p. k ∷ p) xs)
    first [] = tt
    first (x ∷ xs) = (refl, first xs)

-- two sorted lists are one sorted list if each element of the first comes before each of the second
pub joined_sorted : {X : Type 0} (cmp : X → X → Ordering) (xs ys : List X) → IsStrictlySortedBy cmp xs → IsStrictlySortedBy cmp ys → AllByRecursion (λ x. AllByRecursion (λ y. cmp x y ≡ Less) ys) xs
    → IsStrictlySortedBy cmp (xs ++ ys)
unfolding IsStrictlySortedBy
joined_sorted {X = X} cmp [] ys s t a = t
joined_sorted {X = X} cmp (x ∷ xs) ys s t a = (both xs s.0, joined_sorted cmp xs ys s.1 t a.1)
  where
    both : (zs : List X) → AllByRecursion (λ y. cmp x y ≡ Less) zs → AllByRecursion (λ y. cmp x y ≡ Less) (zs ++ ys)
    both [] b = a.0
    both (z ∷ zs) b = (b.0, both zs b.1)

-- a property of each element that is found in a list holds for all its elements
pub all_found : (P : List ℕ → Type 0) (xs : List (List ℕ)) → ((x : List ℕ) → list_any (same x) xs ≡ true → P x) → AllByRecursion P xs
all_found P [] f = tt
all_found P (x ∷ xs) f = (f x (or_left (same x x) (list_any (same x) xs) (same_from x x refl)), all_found P xs (λ y h. f y (or_right (same y x) (list_any (same y) xs) h)))

-- a list before another one comes before all extensions of that one
pub all_before_longer : (x q : List ℕ) (ys : List (List ℕ)) → Before x q → AllByRecursion (λ y. slice_cmp nat_cmp x y ≡ Less) (map (λ y. q ++ y) ys)
all_before_longer x q [] h = tt
all_before_longer x q (y ∷ ys) h = (before_longer x q y h, all_before_longer x q ys h)

-- ---- increasing keysyms

-- a property of each keysym that is found in a list holds for all its elements
pub all_found_keys : (P : ℕ → Type 0) (ks : List ℕ) → ((k : ℕ) → list_any (λ j. k == j) ks ≡ true → P k) → AllByRecursion P ks
all_found_keys P [] f = tt
all_found_keys P (k ∷ ks) f = (f k (or_left (k == k) (list_any (λ j. k == j) ks) (eq-eqb k k refl)), all_found_keys P ks (λ i h. f i (or_right (i == k) (list_any (λ j. i == j) ks) h)))

below_all_keys : (x : ℕ) (ys : List ℕ) (q : ℕ) → AllByRecursion (λ y. nat_cmp x y ≡ Less) ys → list_any (λ j. q == j) ys ≡ true → nat_cmp x q ≡ Less
below_all_keys x [] q a h = cc
below_all_keys x (y ∷ ys) q a h = elim (or_cases (q == y) (list_any (λ j. q == j) ys) h) [
  | inl e ↦ ap (nat_cmp x) (eqb-true q y e) ∙ a.0
  | inr e ↦ below_all_keys x ys q a.1 e
]

keys_clash : (x y : ℕ) → nat_cmp x y ≡ Less → nat_cmp y x ≡ Less → ⊥
keys_clash x y e f = let g : Less ≡ Greater = sym e ∙ nat_cmp_total.antisymm x y ∙ ap ordering_reverse f in cc

-- two increasing lists of keysyms with the same elements are equal
pub one_rising_keys : (xs ys : List ℕ) → IsStrictlySortedBy nat_cmp xs → IsStrictlySortedBy nat_cmp ys → ((q : ℕ) → list_any (λ j. q == j) xs ≡ list_any (λ j. q == j) ys) → xs ≡ ys
unfolding IsStrictlySortedBy
one_rising_keys [] [] s t f = refl
one_rising_keys [] (y ∷ ys) s t f = let e : false ≡ true = f y ∙ or_left (y == y) (list_any (λ j. y == j) ys) (eq-eqb y y refl) in cc
one_rising_keys (x ∷ xs) [] s t f = let e : false ≡ true = sym (f x) ∙ or_left (x == x) (list_any (λ j. x == j) xs) (eq-eqb x x refl) in cc
one_rising_keys (x ∷ xs) (y ∷ ys) s t f =
    let in_ys : x == y || list_any (λ j. x == j) ys ≡ true = sym (f x) ∙ or_left (x == x) (list_any (λ j. x == j) xs) (eq-eqb x x refl) in
    let in_xs : y == x || list_any (λ j. y == j) xs ≡ true = f y ∙ or_left (y == y) (list_any (λ j. y == j) ys) (eq-eqb y y refl) in
    let heads : x ≡ y = elim (or_cases (x == y) (list_any (λ j. x == j) ys) in_ys) [
      | inl e ↦ eqb-true x y e
      | inr e ↦ elim (or_cases (y == x) (list_any (λ j. y == j) xs) in_xs) [
        | inl d ↦ sym (eqb-true y x d)
        | inr d ↦ absurd (keys_clash x y (below_all_keys x xs y s.0 d) (below_all_keys y ys x t.0 e))
      ]
    ] in
    let tails : (q : ℕ) → list_any (λ j. q == j) xs ≡ list_any (λ j. q == j) ys = λ q. both_ways (list_any (λ j. q == j) xs) (list_any (λ j. q == j) ys)
    (λ h. elim (or_cases (q == y) (list_any (λ j. q == j) ys) (sym (f q) ∙ or_right (q == x) (list_any (λ j. q == j) xs) h)) [
      | inl e ↦ absurd (let l : nat_cmp x x ≡ Less = ap (nat_cmp x) (heads ∙ sym (eqb-true q y e)) ∙ below_all_keys x xs q s.0 h in keys_clash x x l l)
      | inr e ↦ e
    ])
    (λ h. elim (or_cases (q == x) (list_any (λ j. q == j) xs) (f q ∙ or_right (q == y) (list_any (λ j. q == j) ys) h)) [
      | inl e ↦ absurd (let l : nat_cmp y y ≡ Less = ap (nat_cmp y) (sym heads ∙ sym (eqb-true q x e)) ∙ below_all_keys y ys q t.0 h in keys_clash y y l l)
      | inr e ↦ e
    ]) in
    ap (λ z. z ∷ xs) heads ∙ ap (λ zs. y ∷ zs) (one_rising_keys xs ys s.1 t.1 tails)
