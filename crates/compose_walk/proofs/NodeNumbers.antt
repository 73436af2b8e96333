-- The numbers of nodes: each node's number is its place, and numbers rise in the order of
-- sequences.
use Rattle.std.proofs.Common.{◌≡◌, ℕ, zero, suc, ◌+◌, ◌<◌, List, [], ◌∷◌, ◌++◌, true, false, Bool, cond, not, ◌||◌, length, get_or, set, map, refl, sym, ◌∙◌, ap, ap₂, inl, inr, arith, Less, Greater, nat_cmp, one-add, eq-eqb}
use Rattle.std.specs.Prelude.{◌==◌}
use Rattle.std.specs.List.{list_any, position_or_len, AllByRecursion}
use Rattle.std.specs.List.Sorted.{IsStrictlySortedBy}
use Rattle.std.specs.Ordering.{ordering_reverse, ordering_then}
use Rattle.std.specs.Cmp.Lexicographic.{slice_cmp}
use Rattle.std.proofs.lemmas.Cmp.{nat_list_cmp_total, nat_cmp_total, tied_itself}
use Rattle.std.proofs.lemmas.Bool.{cases_Bool, or_cases, or_left, or_right}
use Rattle.compose_model.specs.Table.{Definition, same}
use Rattle.compose_model.specs.Nodes.{nodes, is_node, node, number_of}
use Rattle.compose_model.specs.Step.{is_empty}
use Rattle.compose_model.proofs.NodeLemmas.{same_is, same_from, node_zero, root_number}
use Rattle.compose_model.proofs.Sorted.{nodes_sorted}
use Rattle.compose_walk.proofs.Reduction.{empty_is}

-- of two lists in order, the later one is another one
pub later_other : (x y : List ℕ) → slice_cmp nat_cmp x y ≡ Less → same y x ≡ false
later_other x y h = elim (cases_Bool (same y x)) [
  | inl e ↦ absurd (
      let is : y ≡ x = same_is y x e in
      let less : slice_cmp nat_cmp x x ≡ Less = ap (slice_cmp nat_cmp x) (sym is) ∙ h in
      let more : slice_cmp nat_cmp x x ≡ Greater = nat_list_cmp_total.antisymm x x ∙ ap ordering_reverse less in
      let clash : Less ≡ Greater = sym less ∙ more in cc)
  | inr e ↦ e
]

all_at : {X : Type 0} (P : X → Type 0) (xs : List X) (i : ℕ) (d : X) → AllByRecursion P xs → i < length xs → P (get_or xs i d)
all_at P [] i d a h = absurd (omega arith)
all_at P (x ∷ xs) zero d a h = a.0
all_at P (x ∷ xs) (suc i) d a h = all_at P xs i d a.1 (omega arith)

-- in a strictly sorted list the element at an index is found at that index
pub index_is : (xs : List (List ℕ)) (i : ℕ) → IsStrictlySortedBy (slice_cmp nat_cmp) xs → i < length xs → position_or_len (same (get_or xs i [])) xs ≡ i
unfolding IsStrictlySortedBy
index_is [] i s h = absurd (omega arith)
index_is (x ∷ xs) zero s h = ap (λ b. cond (not b) (1 + position_or_len (same x) xs) 0) (same_from x x refl)
index_is (x ∷ xs) (suc i) s h =
    let other : same (get_or xs i []) x ≡ false = later_other x (get_or xs i []) (all_at (λ y. slice_cmp nat_cmp x y ≡ Less) xs i [] s.0 (omega arith)) in
    ap (λ b. cond (not b) (1 + position_or_len (same (get_or xs i [])) xs) 0) other ∙ ap (λ n. 1 + n) (index_is xs i s.1 (omega arith)) ∙ one-add i

-- the number of the node with a number is that number
pub number_at_node : (table : List Definition) (i : ℕ) → i < length (nodes table) → number_of table (node table i) ≡ i
number_at_node table i h = index_is (nodes table) i (nodes_sorted table) h

-- the element at an index within a list is in the list
pub any_at : (xs : List (List ℕ)) (i : ℕ) → i < length xs → list_any (same (get_or xs i [])) xs ≡ true
any_at [] i h = absurd (omega arith)
any_at (x ∷ xs) zero h = or_left (same x x) (list_any (same x) xs) (same_from x x refl)
any_at (x ∷ xs) (suc i) h = or_right (same (get_or xs i []) x) (list_any (same (get_or xs i [])) xs) (any_at xs i (omega arith))

-- the list with a number below the count of nodes is a node
pub node_is_node : (table : List Definition) (i : ℕ) → i < length (nodes table) → is_node table (node table i) ≡ true
node_is_node table i h = any_at (nodes table) i h

-- the node with the number 0 is the root, and no other one is
pub root_at_zero : (table : List Definition) (i : ℕ) → i ≡ 0 → node table i ≡ []
root_at_zero table i e = ap (node table) e ∙ node_zero table

-- a node whose number is not 0 has a keysym
pub not_root : (table : List Definition) (i : ℕ) → i < length (nodes table) → i == 0 ≡ false → is_empty (node table i) ≡ false
not_root table i h e = elim (cases_Bool (is_empty (node table i))) [
  | inl f ↦ absurd (
      let zero_is : i ≡ 0 = sym (number_at_node table i h) ∙ ap (number_of table) (empty_is (node table i) f) ∙ root_number table in
      let clash : true ≡ false = sym (eq-eqb i 0 zero_is) ∙ e in cc)
  | inr f ↦ f
]

prefix_less : (p : List ℕ) (k : ℕ) → slice_cmp nat_cmp p (p ++ k ∷ []) ≡ Less
prefix_less [] k = refl
prefix_less (x ∷ p) k = ap (λ o. ordering_then o (slice_cmp nat_cmp p (p ++ k ∷ []))) (tied_itself nat_cmp_total x) ∙ prefix_less p k

index_below : (x y : List ℕ) (xs : List (List ℕ)) → IsStrictlySortedBy (slice_cmp nat_cmp) xs → list_any (same x) xs ≡ true → list_any (same y) xs ≡ true → slice_cmp nat_cmp x y ≡ Less
    → position_or_len (same x) xs < position_or_len (same y) xs
unfolding IsStrictlySortedBy
index_below x y [] s hx hy l = cc
index_below x y (z ∷ zs) s hx hy l = go (same x z) refl (same y z) refl hx hy (λ a b. index_below x y zs s.1 a b l)
  where
    z_less : list_any (same x) zs ≡ true → slice_cmp nat_cmp z x ≡ Less
    z_less h = go_less zs s.0 h
      where
        go_less : (ws : List (List ℕ)) → AllByRecursion (λ y. slice_cmp nat_cmp z y ≡ Less) ws → list_any (same x) ws ≡ true → slice_cmp nat_cmp z x ≡ Less
        go_less [] a h = cc
        go_less (w ∷ ws) a h = elim (or_cases (same x w) (list_any (same x) ws) h) [ inl e ↦ ap (slice_cmp nat_cmp z) (same_is x w e) ∙ a.0 | inr e ↦ go_less ws a.1 e ]

    go : (b : Bool) → same x z ≡ b → (c : Bool) → same y z ≡ c → b || list_any (same x) zs ≡ true → c || list_any (same y) zs ≡ true
        → (list_any (same x) zs ≡ true → list_any (same y) zs ≡ true → position_or_len (same x) zs < position_or_len (same y) zs)
        → cond (not b) (1 + position_or_len (same x) zs) 0 < cond (not c) (1 + position_or_len (same y) zs) 0
    go true eb true ec hx hy later = absurd (
        let is : x ≡ y = same_is x z eb ∙ sym (same_is y z ec) in
        let clash : true ≡ false = sym (same_from y x (sym is)) ∙ later_other x y l in cc)
    go true eb false ec hx hy later = omega arith
    go false eb true ec hx hy later = absurd (
        let before : slice_cmp nat_cmp y x ≡ Less = ap (λ w. slice_cmp nat_cmp w x) (same_is y z ec) ∙ z_less hx in
        let clash : Less ≡ Greater = sym before ∙ nat_list_cmp_total.antisymm y x ∙ ap ordering_reverse l in cc)
    go false eb false ec hx hy later = let h = later hx hy in omega arith

-- a node's number is above that of the node that leads to it
pub parent_before : (table : List Definition) (p : List ℕ) (k : ℕ) → is_node table p ≡ true → is_node table (p ++ k ∷ []) ≡ true → number_of table p < number_of table (p ++ k ∷ [])
parent_before table p k h hk = index_below p (p ++ k ∷ []) (nodes table) (nodes_sorted table) h hk (prefix_less p k)

-- numbers rise in the order of sequences
pub numbers_rise : (table : List Definition) (p q : List ℕ) → is_node table p ≡ true → is_node table q ≡ true → slice_cmp nat_cmp p q ≡ Less → number_of table p < number_of table q
numbers_rise table p q hp hq l = index_below p q (nodes table) (nodes_sorted table) hp hq l

-- ---- lists made of the nodes

on_each : {Y : Type 0} (f h : List ℕ → Y) (xs : List (List ℕ)) → ((q : List ℕ) → list_any (same q) xs ≡ true → f q ≡ h q) → map f xs ≡ map h xs
on_each f h [] e = refl
on_each f h (x ∷ xs) e = ap₂ (λ y ys. y ∷ ys) (e x (or_left (same x x) (list_any (same x) xs) (same_from x x refl))) (on_each f h xs (λ q i. e q (or_right (same q x) (list_any (same q) xs) i)))

-- functions that agree at each node
pub on_nodes : {Y : Type 0} (table : List Definition) (f h : List ℕ → Y) → ((q : List ℕ) → is_node table q ≡ true → f q ≡ h q) → map f (nodes table) ≡ map h (nodes table)
on_nodes table f h e = on_each f h (nodes table) e

set_index : {Y : Type 0} (f h : List ℕ → Y) (q : List ℕ) (xs : List (List ℕ)) → IsStrictlySortedBy (slice_cmp nat_cmp) xs → list_any (same q) xs ≡ true
    → ((r : List ℕ) → list_any (same r) xs ≡ true → same r q ≡ false → f r ≡ h r) → set (map f xs) (position_or_len (same q) xs) (h q) ≡ map h xs
unfolding IsStrictlySortedBy
set_index f h q [] s i e = cc
set_index f h q (x ∷ xs) s i e = go (same q x) refl i (λ j. set_index f h q xs s.1 j (λ r m n. e r (or_right (same r x) (list_any (same r) xs) m) n))
  where
    tail_of : same q x ≡ true → (ws : List (List ℕ)) → AllByRecursion (λ y. slice_cmp nat_cmp x y ≡ Less) ws → ((r : List ℕ) → list_any (same r) ws ≡ true → list_any (same r) (x ∷ xs) ≡ true)
        → map f ws ≡ map h ws
    tail_of at [] a inside = refl
    tail_of at (w ∷ ws) a inside =
        let here = inside w (or_left (same w w) (list_any (same w) ws) (same_from w w refl)) in
        let other : same w q ≡ false = ap (same w) (same_is q x at) ∙ later_other x w a.0 in
        ap₂ (λ y ys. y ∷ ys) (e w here other) (tail_of at ws a.1 (λ r m. inside r (or_right (same r w) (list_any (same r) ws) m)))

    go : (b : Bool) → same q x ≡ b → b || list_any (same q) xs ≡ true → (list_any (same q) xs ≡ true → set (map f xs) (position_or_len (same q) xs) (h q) ≡ map h xs)
        → set (f x ∷ map f xs) (cond (not b) (1 + position_or_len (same q) xs) 0) (h q) ≡ h x ∷ map h xs
    go true at i later = ap₂ (λ y ys. y ∷ ys) (ap h (same_is q x at)) (tail_of at xs s.0 (λ r m. or_right (same r x) (list_any (same r) xs) m))
    go false at i later =
        let kept : f x ≡ h x = e x (or_left (same x x) (list_any (same x) xs) (same_from x x refl)) (other at) in
        rw one-add (ap₂ (λ y ys. y ∷ ys) kept (later i))
      where
        other : same q x ≡ false → same x q ≡ false
        other n = elim (cases_Bool (same x q)) [ inl m ↦ absurd (let clash : true ≡ false = sym (same_from q x (sym (same_is x q m))) ∙ n in cc) | inr m ↦ m ]

-- a write at a node's number changes the value of that node alone
pub set_node : {Y : Type 0} (table : List Definition) (f h : List ℕ → Y) (q : List ℕ) → is_node table q ≡ true → ((r : List ℕ) → is_node table r ≡ true → same r q ≡ false → f r ≡ h r)
    → set (map f (nodes table)) (number_of table q) (h q) ≡ map h (nodes table)
set_node table f h q i e = set_index f h q (nodes table) (nodes_sorted table) i e
