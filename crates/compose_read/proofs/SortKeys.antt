-- Spans in the order of their sort keys: those of one sequence keep their order.
use Rattle.std.proofs.Common.{◌≡◌, ℕ, suc, ◌+◌, ◌*◌, ◌%◌, ◌≤◌, ◌<◌, List, [], ◌∷◌, Bool, true, false, cond, not, ◌&&◌, nat_cmp, nat_lt, ◌++◌, Less, Equal, Greater, filter, length, map, take, drop, get_or, refl, sym, subst, ◌∙◌, ap, inl, inr, arith}
use Rattle.std.specs.List.{All, sum_by, take-map}
use Rattle.std.specs.List.Sorted.{IsPermutation, IsSorted, IsStableBy, IsNonDecreasing, IsNonDecreasingBy, ties}
use Rattle.std.specs.Ordering.{is_lt, ordering_reverse}
use Rattle.std.specs.Cmp.Lexicographic.{slice_cmp}
use Rattle.std.specs.declared.cmp.Ordering.{Ordering}
use Rattle.std.proofs.lemmas.Bool.{cases_lt, lt-ltb, le-ltb}
use Rattle.std.proofs.lemmas.Cmp.{nat_list_cmp_total}
use Rattle.std.proofs.Math.Seq.{take-append_seam}
use Rattle.std.proofs.lemmas.Nat.{mod-mul-add}
use Rattle.std.proofs.lemmas.List.{drop-map, ext_get_or, get_or-map, length-map}
use Rattle.std.proofs.lemmas.List.Elements.{All-filter, All-from_get_or, All-tail, filter-append, filter_passes}
use Rattle.std.proofs.lemmas.List.Kept.{IsNonDecreasingBy-filter}
use Rattle.std.proofs.lemmas.List.Sorted.{All-permutation, IsPermutation-map, IsPermutation-put_mid, IsPermutation-trans, IsNonDecreasingBy-from_default, IsNonDecreasingBy-from_sort, sum_by-IsPermutation}
use Rattle.std.proofs.lemmas.List.Sums.{sum_by-cons}
use Rattle.std.proofs.lemmas.Map.Lookups.{exact_bytes}
use borrow.Rule.Slice.PartMut.{mid_of, post_of, put_mid, put_same}
use Rattle.compose_read.specs.SortKeys.{by_sequence, keysym_sort_key, prefix_sort_key, prefix_sort_key_at, AreSortKeys}
use Rattle.compose_read.specs.Rows.{sequence_at}
use Rattle.compose_read.specs.declared.rows.RowSpan.{RowSpan}

-- ---- rising numbers are determined by the sums over them

abbrev HaveSameSums : List ℕ → List ℕ → Type 0
HaveSameSums xs ys = (f : ℕ → ℕ) → sum_by f xs ≡ sum_by f ys

-- 1 for a number below y
abbrev below : ℕ → ℕ → ℕ
below y z = cond (nat_lt z y) 1 0

none_below : (y : ℕ) (ys : List ℕ) → All (λ z. y ≤ z) ys → sum_by (below y) ys ≡ 0
none_below y [] h = refl
none_below y (z ∷ ys) h =
    let more = sum_by-cons (below y) z ys in
    let rest = none_below y ys (All-tail (λ z. y ≤ z) z ys h) in
    let least : y ≤ z = h 0 z (omega arith) in
    let not_it : below y z ≡ 0 = ap (λ b. cond b 1 0) (le-ltb z y least) in
    omega arith

-- no number of one list is below the least of the other
first_least : (x y : ℕ) (xs ys : List ℕ) → All (λ z. y ≤ z) (y ∷ ys) → HaveSameSums (x ∷ xs) (y ∷ ys) → y ≤ x
first_least x y xs ys h same = elim (cases_lt x y) [
  | inl l ↦ absurd (
      let one : below y x ≡ 1 = ap (λ b. cond b 1 0) (lt-ltb x y l) in
      let more = sum_by-cons (below y) x xs in
      let none = none_below y (y ∷ ys) h in
      let sums = same (below y) in
      omega arith)
  | inr l ↦ l
]

rising_same : (xs ys : List ℕ) → IsNonDecreasing xs → IsNonDecreasing ys → HaveSameSums xs ys → xs ≡ ys
rising_same [] [] up up' same = refl
rising_same [] (y ∷ ys) up up' same = absurd (let more = sum_by-cons (λ _. 1) y ys in let sums : 0 ≡ sum_by (λ _. 1) (y ∷ ys) = same (λ _. 1) in omega arith)
rising_same (x ∷ xs) [] up up' same = absurd (let more = sum_by-cons (λ _. 1) x xs in let sums : sum_by (λ _. 1) (x ∷ xs) ≡ 0 = same (λ _. 1) in omega arith)
rising_same (x ∷ xs) (y ∷ ys) up up' same =
    let low = first_least x y xs ys (λ k d l. up' 0 k d (omega arith) l) same in
    let high = first_least y x ys xs (λ k d l. up 0 k d (omega arith) l) (λ f. sym (same f)) in
    let first : x ≡ y = omega arith in
    let rest : HaveSameSums xs ys = λ f. let a = sum_by-cons f x xs in let b = sum_by-cons f y ys in let sums = same f in let fs = ap f first in omega arith in
    ap (λ z. z ∷ xs) first
    ∙ ap (λ zs. y ∷ zs) (rising_same xs ys (λ i j d le l. up (suc i) (suc j) d (omega arith) (omega arith)) (λ i j d le l. up' (suc i) (suc j) d (omega arith) (omega arith)) rest)

sum_by-filter : (f : ℕ → ℕ) (p : ℕ → Bool) (xs : List ℕ) → sum_by f (filter p xs) ≡ sum_by (λ x. cond (p x) (f x) 0) xs
sum_by-filter f p [] = refl
sum_by-filter f p (x ∷ xs) = go (p x) ∙ ap (λ n. cond (p x) (f x) 0 + n) (sum_by-filter f p xs) ∙ sym (sum_by-cons (λ x. cond (p x) (f x) 0) x xs)
  where
    go : (b : Bool) → sum_by f (cond b (x ∷ filter p xs) (filter p xs)) ≡ cond b (f x) 0 + sum_by f (filter p xs)
    go true = sum_by-cons f x (filter p xs)
    go false = omega arith

-- the numbers that pass a test, in two orders, are the same if they rise in both
kept_same : (p : ℕ → Bool) (xs ys : List ℕ) → IsPermutation xs ys → IsNonDecreasing (filter p xs) → IsNonDecreasing (filter p ys) → filter p ys ≡ filter p xs
kept_same p xs ys permuted up up' =
    rising_same (filter p ys) (filter p xs) up' up
    (λ f. sum_by-filter f p ys ∙ sum_by-IsPermutation (λ x. cond (p x) (f x) 0) xs ys permuted ∙ sym (sum_by-filter f p xs))

filter-map : {X : Type 0} (p : X → Bool) (f : ℕ → X) (ns : List ℕ) → filter p (map f ns) ≡ map f (filter (λ n. p (f n)) ns)
filter-map p f [] = refl
filter-map p f (n ∷ ns) = ap (λ l. cond (p (f n)) (f n ∷ l) l) (filter-map p f ns) ∙ go (p (f n))
  where
    go : (b : Bool) → cond b (f n ∷ map f (filter (λ n. p (f n)) ns)) (map f (filter (λ n. p (f n)) ns)) ≡ map f (cond b (n ∷ filter (λ n. p (f n)) ns) (filter (λ n. p (f n)) ns))
    go true = refl
    go false = refl

-- ---- a part of a list is put in another order

module _ {X : Type 0} (xs ys : List X) (a k : ℕ) (zs : List X) where
  -- if a part of a permutation is permuted, the whole is a permutation
  pub permuted_part : IsPermutation xs ys → IsPermutation (mid_of a k ys) zs → IsPermutation xs (put_mid a k ys zs)
  permuted_part h part = IsPermutation-trans xs ys (put_mid a k ys zs) h (IsPermutation-put_mid a k ys zs part)

  -- if a part of a stable order is put in a stable order, the whole is in a stable order
  pub stable_part : (lt : X → X → Bool) → IsStableBy lt xs ys → IsStableBy lt (mid_of a k ys) zs → IsStableBy lt xs (put_mid a k ys zs)
  stable_part lt h part x =
      let tied = ties lt x in let prefix_sort_key = filter tied (take a ys) in let back = post_of a k ys in
      filter-append tied (take a ys) (zs ++ back)
      ∙ ap (λ l. prefix_sort_key ++ l) (filter-append tied zs back ∙ ap (λ l. l ++ filter tied back) (part x) ∙ sym (filter-append tied (mid_of a k ys) back))
      ∙ sym (filter-append tied (take a ys) (mid_of a k ys ++ back))
      ∙ ap (filter tied) (put_same a k ys)
      ∙ h x

-- ---- the sort keys of spans

-- the first three sort keys of the keysyms of a span
pub prefix_sort_key_of_part : (keysyms keysym_sort_keys : List ℕ) (p : RowSpan) → keysym_sort_keys ≡ map keysym_sort_key keysyms
    → prefix_sort_key (take p.keysym_count (drop p.first_keysym keysym_sort_keys)) ≡ prefix_sort_key_at keysyms p
prefix_sort_key_of_part keysyms keysym_sort_keys p are =
    ap (λ ds. prefix_sort_key (take p.keysym_count (drop p.first_keysym ds))) are
    ∙ ap (λ ds. prefix_sort_key (take p.keysym_count ds)) (drop-map keysym_sort_key p.first_keysym keysyms)
    ∙ ap prefix_sort_key (take-map keysym_sort_key p.keysym_count (drop p.first_keysym keysyms))

-- of two sort keys that differ only in the index, the one with the earlier index is not greater
in_turn : (m n prefix_sort_key prefix_sort_key' : ℕ) → m ≡ prefix_sort_key * 131072 + m % 131072 → n ≡ prefix_sort_key' * 131072 + n % 131072 → prefix_sort_key ≡ prefix_sort_key'
    → m % 131072 ≤ n % 131072 → m ≤ n
in_turn m n prefix_sort_key prefix_sort_key' a b same le = let scaled = ap (λ f. f * 131072) same in omega (a, b, scaled, le, arith)

tied_sequences : (keysyms : List ℕ) (p q : RowSpan) → ties (by_sequence keysyms) p q ≡ true → sequence_at keysyms p ≡ sequence_at keysyms q
tied_sequences keysyms p q e = go (slice_cmp nat_cmp s t) refl (nat_list_cmp_total.antisymm t s) e
  where
    s : List ℕ
    s = sequence_at keysyms p

    t : List ℕ
    t = sequence_at keysyms q

    go : (o : Ordering) → slice_cmp nat_cmp s t ≡ o → slice_cmp nat_cmp t s ≡ ordering_reverse (slice_cmp nat_cmp s t)
        → not (is_lt (slice_cmp nat_cmp s t)) && not (is_lt (slice_cmp nat_cmp t s)) ≡ true → s ≡ t
    go Less is back e = absurd (let clash : false ≡ true = sym (ap (λ o. not (is_lt o) && not (is_lt (slice_cmp nat_cmp t s))) is) ∙ e in cc)
    go Equal is back e = exact_bytes s t is
    go Greater is back e =
        absurd (let less : slice_cmp nat_cmp t s ≡ Less = back ∙ ap ordering_reverse is in
        let clash : false ≡ true = sym (ap (λ o. not (is_lt Greater) && not (is_lt o)) less) ∙ sym (ap (λ o. not (is_lt o) && not (is_lt (slice_cmp nat_cmp t s))) is) ∙ e in cc)

-- an empty span at the beginning
pub none : RowSpan
none = record { first_keysym = 0; first_byte = 0; keysym_count = 0; byte_count = 0 }

module _ (keysyms : List ℕ) (spans : List RowSpan) (sort_keys : List ℕ) (are : AreSortKeys keysyms spans sort_keys) where
  -- the span that a sort key picks
  abbrev pub span_of : ℕ → RowSpan
  span_of n = get_or spans (n % 131072) none

  index_of : (index : ℕ) → index < length spans → get_or sort_keys index 0 % 131072 ≡ index
  index_of index l =
      let fits = are.fits in
      ap (λ n. n % 131072) (are.each none index l) ∙ mod-mul-add (prefix_sort_key_at keysyms (get_or spans index none)) 131072 index (omega arith)

  -- the indexes in sort keys are those of spans
  pub indexes_within : All (λ n. n % 131072 < length spans) sort_keys
  indexes_within = All-from_get_or (λ n. n % 131072 < length spans) sort_keys 0
      (λ index l. let count = are.count in let within : index < length spans = omega arith in subst (λ i. i < length spans) (sym (index_of index within)) within)

  have_prefix_sort_keys : All (λ n. n ≡ prefix_sort_key_at keysyms (span_of n) * 131072 + n % 131072) sort_keys
  have_prefix_sort_keys = All-from_get_or (λ n. n ≡ prefix_sort_key_at keysyms (span_of n) * 131072 + n % 131072) sort_keys 0
      (λ index l. let count = are.count in let within : index < length spans = omega arith in
      are.each none index within ∙ ap (λ i. prefix_sort_key_at keysyms (get_or spans i none) * 131072 + i) (sym (index_of index within)))

  indexes_rise : IsNonDecreasingBy (λ n. n % 131072) sort_keys
  indexes_rise = IsNonDecreasingBy-from_default (λ n. n % 131072) sort_keys 0
      (λ i j le l. let count = are.count in let a = index_of i (omega arith) in let b = index_of j (omega arith) in omega arith)

  in_order : map span_of sort_keys ≡ spans
  in_order =
      let count = are.count in let long = length-map sort_keys span_of in
      ext_get_or none (map span_of sort_keys) spans (long ∙ count)
      (λ index l. get_or-map span_of sort_keys index 0 none (omega arith) ∙ ap (λ i. get_or spans i none) (index_of index (omega arith)))

  -- those of one sequence rise
  ties_rise : (p : RowSpan) → IsNonDecreasing (filter (λ n. ties (by_sequence keysyms) p (span_of n)) sort_keys)
  ties_rise p i j d le l =
      let tied : ℕ → Bool = λ n. ties (by_sequence keysyms) p (span_of n) in
      let one = All-filter tied (λ n. n ≡ prefix_sort_key_at keysyms (span_of n) * 131072 + n % 131072) sort_keys have_prefix_sort_keys in
      let at = filter_passes tied sort_keys in
      let kept = filter tied sort_keys in
      let same = λ (k : ℕ) (within : k < length kept). ap (λ s. prefix_sort_key (map keysym_sort_key s)) (tied_sequences keysyms p (span_of (get_or kept k d)) (at k d within)) in
      in_turn (get_or kept i d) (get_or kept j d) _ _ (one i d (omega arith)) (one j d l) (sym (same i (omega arith)) ∙ same j l)
      (IsNonDecreasingBy-filter (λ n. n % 131072) tied sort_keys indexes_rise i j d le l)

  module _ (sorted : List ℕ) (permuted : IsPermutation sort_keys sorted) where
    -- the indexes in sorted sort keys are those of spans
    pub sorted_within : All (λ n. n % 131072 < length spans) sorted
    sorted_within = All-permutation (λ n. n % 131072 < length spans) sort_keys sorted permuted indexes_within

    -- the spans that permuted sort keys pick are a permutation of the spans
    pub picked_permutation : IsPermutation spans (map span_of sorted)
    picked_permutation = subst (λ l. IsPermutation l (map span_of sorted)) in_order (IsPermutation-map span_of sort_keys sorted permuted)

    -- the spans that sorted sort keys pick are in the stable order of their sequences
    pub picked_stable : IsSorted nat_cmp sorted → IsStableBy (by_sequence keysyms) spans (map span_of sorted)
    picked_stable up p =
        let tied : ℕ → Bool = λ n. ties (by_sequence keysyms) p (span_of n) in
        filter-map (ties (by_sequence keysyms) p) span_of sorted
        ∙ ap (map span_of) (kept_same tied sort_keys sorted permuted (ties_rise p) (IsNonDecreasingBy-filter (λ n. n) tied sorted (IsNonDecreasingBy-from_sort (λ n. n) sorted up)))
        ∙ sym (filter-map (ties (by_sequence keysyms) p) span_of sort_keys)
        ∙ ap (filter (ties (by_sequence keysyms) p)) in_order

-- ---- vectors

-- the elements of a vector after a write to all of them
pub given_back : {X : Type 0} (count : ℕ) (new old : List X) → count ≡ length new → take count (new ++ drop (length new) old) ≡ new
given_back count new old long = ap (λ n. take n (new ++ drop (length new) old)) long ∙ take-append_seam new (drop (length new) old)
