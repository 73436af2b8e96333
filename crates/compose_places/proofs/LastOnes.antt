-- The last definition of each sequence, after one more definition.
use Rattle.std.proofs.Common.{◌≡◌, ℕ, ◌+◌, ◌<◌, List, [], ◌∷◌, ◌++◌, Bool, true, false, cond, not, ◌||◌, length, map, set, take, get_or, refl, sym, ◌∙◌, ap, ap₂, inl, inr, arith, Less, Greater, nat_cmp, one-add}
use Rattle.std.specs.Prelude.{Option, Some, None, option_map, slice_get}
use Rattle.std.specs.Option.{option_or}
use Rattle.std.specs.List.{list_any, position_or_len, AllByRecursion}
use Rattle.std.specs.List.Sorted.{IsStrictlySortedBy}
use Rattle.std.specs.Ordering.{ordering_reverse}
use Rattle.std.specs.Cmp.Lexicographic.{slice_cmp}
use Rattle.std.proofs.lemmas.Bool.{cases_Bool}
use Rattle.std.proofs.lemmas.Cmp.{nat_list_cmp_total}
use Rattle.std.proofs.lemmas.List.{take_more, length-take}
use Rattle.std.proofs.lemmas.Option.{slice_get-get_or, same_Some}
use Rattle.compose_model.specs.Table.{Definition, same, is_sequence}
use Rattle.compose_model.specs.Nodes.{leaves}
use Rattle.compose_model.proofs.NodeLemmas.{same_is, same_from}
use Rattle.compose_model.proofs.Sorted.{rising_sorted}
use Rattle.compose_tree.specs.Targets.{leaf_number}
use Rattle.compose_tree.proofs.Steps.{leaf_means}
use Rattle.compose_places.specs.Last.{last_from, last_with}

-- ---- one definition more

last_from-append : (n : ℕ) (table : List Definition) (d : Definition) (v : List ℕ) → last_from n (table ++ d ∷ []) v ≡ cond (same v d.sequence) (Some (n + length table)) (last_from n table v)
last_from-append n [] d v = let none : n ≡ n + 0 = omega arith in ap (λ m. cond (same v d.sequence) (Some m) None) none
last_from-append n (c ∷ table) d v =
    let one : 1 + n + length table ≡ n + length (c ∷ table) = omega arith in
    ap (λ o. option_or o (cond (same v c.sequence) (Some n) None)) (last_from-append (1 + n) table d v) ∙ outside (same v d.sequence)
    ∙ ap (λ m. cond (same v d.sequence) (Some m) (last_from n (c ∷ table) v)) one
  where
    outside : (b : Bool)
        → option_or (cond b (Some (1 + n + length table)) (last_from (1 + n) table v)) (cond (same v c.sequence) (Some n) None) ≡ cond b (Some (1 + n + length table)) (last_from n (c ∷ table) v)
    outside true = refl
    outside false = refl

-- ---- along the leaves

apart : (x y : List ℕ) → slice_cmp nat_cmp x y ≡ Less → same y x ≡ false
apart x y h = elim (cases_Bool (same y x)) [
  | inl e ↦ absurd (
      let is : y ≡ x = same_is y x e in
      let less : slice_cmp nat_cmp x x ≡ Less = ap (slice_cmp nat_cmp x) (sym is) ∙ h in
      let more : slice_cmp nat_cmp x x ≡ Greater = nat_list_cmp_total.antisymm x x ∙ ap ordering_reverse less in
      let clash : Less ≡ Greater = sym less ∙ more in cc)
  | inr e ↦ e
]

flipped : (p x : List ℕ) → same p x ≡ false → same x p ≡ false
flipped p x e = elim (cases_Bool (same x p)) [
  | inl d ↦ (let f : true ≡ false = sym (same_from p x (sym (same_is x p d))) ∙ e in cc)
  | inr d ↦ d
]

module _ {Y : Type 0} (f g : List ℕ → Y) (p : List ℕ) (others : (x : List ℕ) → same x p ≡ false → g x ≡ f x) where
  -- along a list without p the maps agree
  pub nothing_changed : (xs : List (List ℕ)) → list_any (same p) xs ≡ false → map g xs ≡ map f xs
  nothing_changed [] h = refl
  nothing_changed (x ∷ xs) h = go (same p x) refl h (nothing_changed xs)
    where
      go : (b : Bool) → same p x ≡ b → b || list_any (same p) xs ≡ false → (list_any (same p) xs ≡ false → map g xs ≡ map f xs) → map g (x ∷ xs) ≡ map f (x ∷ xs)
      go true e h later = cc
      go false e h later = ap₂ (λ y ys. y ∷ ys) (others x (flipped p x e)) (later h)

  all_larger : (x : List ℕ) → p ≡ x → (xs : List (List ℕ)) → AllByRecursion (λ y. slice_cmp nat_cmp x y ≡ Less) xs → map g xs ≡ map f xs
  all_larger x e [] a = refl
  all_larger x e (y ∷ xs) a = ap₂ (λ z zs. z ∷ zs) (others y (ap (same y) e ∙ apart x y a.0)) (all_larger x e xs a.1)

  -- along a sorted list with p they differ at its place alone
  pub changed_at : (xs : List (List ℕ)) → IsStrictlySortedBy (slice_cmp nat_cmp) xs → list_any (same p) xs ≡ true → map g xs ≡ set (map f xs) (position_or_len (same p) xs) (g p)
  unfolding IsStrictlySortedBy
  changed_at [] s h = cc
  changed_at (x ∷ xs) s h = go (same p x) refl h (changed_at xs s.1)
    where
      go : (b : Bool) → same p x ≡ b → b || list_any (same p) xs ≡ true → (list_any (same p) xs ≡ true → map g xs ≡ set (map f xs) (position_or_len (same p) xs) (g p))
          → map g (x ∷ xs) ≡ set (map f (x ∷ xs)) (cond (not b) (1 + position_or_len (same p) xs) 0) (g p)
      go true e h later = ap₂ (λ y ys. y ∷ ys) (ap g (sym (same_is p x e))) (all_larger x (same_is p x e) xs s.0)
      go false e h later = rw one-add (ap₂ (λ y ys. y ∷ ys) (others x (flipped p x e)) (later h))

-- ---- one more is read

module _ (table definitions : List Definition) (i : ℕ) (sequence : List ℕ) (within : i < length definitions)
    (at : option_map (λ (d : Definition). d.sequence) (slice_get definitions i) ≡ Some sequence) where
  abbrev before : List ℕ → Option ℕ
  before = last_with (take i definitions)

  abbrev after : List ℕ → Option ℕ
  after = last_with (take (i + 1) definitions)

  none : Definition
  none = record { sequence = []; text = [] }

  read : (get_or definitions i none).sequence ≡ sequence
  read = same_Some (get_or definitions i none).sequence sequence (ap (option_map (λ (d : Definition). d.sequence)) (sym (slice_get-get_or definitions i none within)) ∙ at)

  last_after : (x : List ℕ) → after x ≡ cond (same x sequence) (Some i) (before x)
  last_after x =
      let long : 0 + length (take i definitions) ≡ i = omega (arith, length-take i definitions) in
      ap (λ t. last_with t x) (take_more definitions i none within) ∙ last_from-append 0 (take i definitions) (get_or definitions i none) x
      ∙ ap₂ (λ s n. cond (same x s) (Some n) (before x)) read long

  other_stays : (x : List ℕ) → same x sequence ≡ false → after x ≡ before x
  other_stays x h = last_after x ∙ ap (λ b. cond b (Some i) (before x)) h

  -- a further definition whose sequence is none of the table's changes the last definition of no
  -- leaf
  pub no_leaf : is_sequence table sequence ≡ false → map after (leaves table) ≡ map before (leaves table)
  no_leaf h = nothing_changed before after sequence other_stays (leaves table) (leaf_means table sequence ∙ h)

  -- a further definition whose sequence is one of the table's is then the last one of that leaf
  -- alone
  pub one_leaf : is_sequence table sequence ≡ true → map after (leaves table) ≡ set (map before (leaves table)) (leaf_number table sequence) (Some i)
  one_leaf h =
      changed_at before after sequence other_stays (leaves table) (rising_sorted nat_list_cmp_total (map (λ (d : Definition). d.sequence) table)) (leaf_means table sequence ∙ h)
      ∙ ap (set (map before (leaves table)) (leaf_number table sequence)) (last_after sequence ∙ ap (λ b. cond b (Some i) (before sequence)) (same_from sequence sequence refl))

-- with no definition, none has a sequence
pub none_yet : (xs : List (List ℕ)) → map (last_with []) xs ≡ map (λ x. let o : Option ℕ = None in o) xs
none_yet xs = refl
