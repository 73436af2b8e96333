-- What is found first in a rising list is the least, so a reported overlap is the least one.
use Rattle.std.proofs.Common.{◌≡◌, ℕ, List, [], ◌∷◌, Bool, true, false, cond, not, ◌||◌, map, refl, sym, ◌∙◌, ap, subst, ◌⊎◌, inl, inr, Less, Equal, Greater, nat_cmp}
use Rattle.std.specs.declared.cmp.Ordering.{Ordering}
use Rattle.std.specs.Ordering.{is_lt}
use Rattle.std.specs.Prelude.{Option, Some, None, Ok, Err, unwrap_or}
use Rattle.std.specs.List.{find, list_any, AllByRecursion}
use Rattle.std.specs.List.Sorted.{IsStrictlySortedBy}
use Rattle.std.specs.Cmp.Lexicographic.{slice_cmp}
use Rattle.std.proofs.lemmas.Bool.{or_left, or_right, or_cases}
use Rattle.std.proofs.lemmas.Cmp.{nat_list_cmp_total}
use Rattle.std.proofs.lemmas.Option.{same_Some}
use Rattle.compose_model.specs.Table.{Definition, same, comes_before, is_proper_prefix, is_extended, is_prefix_free}
use Rattle.compose_model.specs.Nodes.{leaves}
use Rattle.compose_model.specs.declared.Rule.TheVariants.{Refuse, Longest}
use Rattle.compose_model.proofs.NodeLemmas.{same_is, same_from}
use Rattle.compose_model.proofs.SameTable.{extended_by, extended_from}
use Rattle.compose_model.proofs.Sorted.{rising_sorted}
use Rattle.compose_read.specs.Settle.{in_order, Overlap, with_extension, overlap, or_overlap, settled, IsLeastOverlap}
use Rattle.compose_read.proofs.Order.{Before, not_both, not_itself}
use Rattle.compose_read.proofs.Settled.{is_leaf, kept, free_without_overlap}

found_passes : (p : List ℕ → Bool) (xs : List (List ℕ)) (x : List ℕ) → find p xs ≡ Some x → p x ≡ true
found_passes p [] x h = cc
found_passes p (y ∷ xs) x h = go (p y) refl h (found_passes p xs x)
  where
    go : (b : Bool) → p y ≡ b → cond b (Some y) (find p xs) ≡ Some x → (find p xs ≡ Some x → p x ≡ true) → p x ≡ true
    go true e h f = ap p (sym (same_Some y x h)) ∙ e
    go false e h f = f h

found_inside : (p : List ℕ → Bool) (xs : List (List ℕ)) (x : List ℕ) → find p xs ≡ Some x → list_any (same x) xs ≡ true
found_inside p [] x h = cc
found_inside p (y ∷ xs) x h = go (p y) h (found_inside p xs x)
  where
    go : (b : Bool) → cond b (Some y) (find p xs) ≡ Some x → (find p xs ≡ Some x → list_any (same x) xs ≡ true) → same x y || list_any (same x) xs ≡ true
    go true h f = or_left (same x y) (list_any (same x) xs) (same_from x y (sym (same_Some y x h)))
    go false h f = or_right (same x y) (list_any (same x) xs) (f h)

find_some : (p : List ℕ → Bool) (xs : List (List ℕ)) (x : List ℕ) → list_any (same x) xs ≡ true → p x ≡ true → (y : List ℕ) × (find p xs ≡ Some y)
find_some p [] x h e = cc
find_some p (y ∷ xs) x h e = go (p y) refl (or_cases (same x y) (list_any (same x) xs) h) (λ m. find_some p xs x m e)
  where
    go : (b : Bool) → p y ≡ b → (same x y ≡ true) ⊎ (list_any (same x) xs ≡ true) → (list_any (same x) xs ≡ true → (z : List ℕ) × (find p xs ≡ Some z))
        → (z : List ℕ) × (cond b (Some y) (find p xs) ≡ Some z)
    go true c w f = (y, refl)
    go false c w f = elim w [
      | inl m ↦ absurd (let clash : true ≡ false = sym e ∙ ap p (same_is x y m) ∙ c in cc)
      | inr m ↦ f m
    ]

not_later : (x y : List ℕ) → Before x y → comes_before y x ≡ false
not_later x y h = go (slice_cmp nat_cmp y x) refl
  where
    go : (o : Ordering) → slice_cmp nat_cmp y x ≡ o → is_lt o ≡ false
    go Less e = absurd (not_both x y h e)
    go Equal e = refl
    go Greater e = refl

found_least : (p : List ℕ → Bool) (xs : List (List ℕ)) (x y : List ℕ) → IsStrictlySortedBy (slice_cmp nat_cmp) xs → find p xs ≡ Some x → list_any (same y) xs ≡ true → p y ≡ true
    → comes_before y x ≡ false
unfolding IsStrictlySortedBy
found_least p [] x y s h i e = cc
found_least p (z ∷ xs) x y s h i e = elim (or_cases (same y z) (list_any (same y) xs) i) [
  | inl m ↦ (let is : y ≡ z = same_is y z m in
      let first : Some z ≡ Some x = sym (ap (λ b. cond b (Some z) (find p xs)) (sym (ap p is) ∙ e)) ∙ h in
      ap (λ t. comes_before y t) (sym (same_Some z x first) ∙ sym is) ∙ not_itself y)
  | inr m ↦ go (p z) h (λ f. found_least p xs x y s.1 f m e) (not_later z y (below_of xs s.0 m))
]
  where
    below_of : (ys : List (List ℕ)) → AllByRecursion (λ t. slice_cmp nat_cmp z t ≡ Less) ys → list_any (same y) ys ≡ true → Before z y
    below_of [] a m = cc
    below_of (t ∷ ys) a m = elim (or_cases (same y t) (list_any (same y) ys) m) [
      | inl k ↦ ap (slice_cmp nat_cmp z) (same_is y t k) ∙ a.0
      | inr k ↦ below_of ys a.1 k
    ]

    go : (b : Bool) → cond b (Some z) (find p xs) ≡ Some x → (find p xs ≡ Some x → comes_before y x ≡ false) → comes_before y z ≡ false → comes_before y x ≡ false
    go true h f l = ap (comes_before y) (sym (same_Some z x h)) ∙ l
    go false h f l = f h

leaves_rise : (table : List Definition) → IsStrictlySortedBy (slice_cmp nat_cmp) (leaves table)
leaves_rise table = rising_sorted nat_list_cmp_total (map (λ (d : Definition). d.sequence) table)

-- an overlap that was found is the least one
module _ (table : List Definition) (short : List ℕ) (found : find (is_extended table) (leaves table) ≡ Some short) where
  extended : is_extended table short ≡ true
  extended = found_passes (is_extended table) (leaves table) short found

  longer : (long : List ℕ) × (find (is_proper_prefix short) (leaves table) ≡ Some long)
  longer =
      let t = extended_by table table short (λ s i. i) extended in
      find_some (is_proper_prefix short) (leaves table) t.0 (is_leaf table t.0 ∙ t.2) t.1

  least_overlap : (o : Overlap) → Some (record { short = short; long = unwrap_or (find (is_proper_prefix short) (leaves table)) [] }) ≡ Some o → IsLeastOverlap table o
  least_overlap o h =
      let long = longer.0 in
      let is : (let w : Overlap = record { short = short; long = long } in w) ≡ o =
      ap (λ l. let w : Overlap = record { short = short; long = unwrap_or l [] } in w) (sym longer.1)
      ∙ same_Some (record { short = short; long = unwrap_or (find (is_proper_prefix short) (leaves table)) [] }) o h in
      subst (IsLeastOverlap table) is (record {
        short = sym (is_leaf table short) ∙ found_inside (is_extended table) (leaves table) short found;
        long = sym (is_leaf table long) ∙ found_inside (is_proper_prefix short) (leaves table) long longer.1;
        is_prefix = found_passes (is_proper_prefix short) (leaves table) long longer.1;
        least = λ s t i j p. ap not (found_least (is_extended table) (leaves table) short s (leaves_rise table) found (is_leaf table s ∙ i) (extended_from table s t p j));
        nearest = λ t j p. ap not (found_least (is_proper_prefix short) (leaves table) long t (leaves_rise table) longer.1 (is_leaf table t ∙ j) p);
      })

-- an overlap that `Refuse` reports is the least one of the table
pub refused_least : (table : List Definition) (o : Overlap) → settled Refuse table ≡ Err o → IsLeastOverlap table o
refused_least table o h = go (find (is_extended table) (leaves table)) refl h
  where
    go : (f : Option (List ℕ)) → find (is_extended table) (leaves table) ≡ f → or_overlap (with_extension table f) (in_order table) ≡ Err o → IsLeastOverlap table o
    go None e k = cc
    go (Some short) e k = least_overlap table short e o (refused (with_extension table (Some short)) k)
      where
        refused : (w : Option Overlap) → or_overlap w (in_order table) ≡ Err o → w ≡ Some o
        refused None k = cc
        refused (Some w) k = cc

-- a table that `Refuse` settles has no overlap
pub settled_without : (table rows : List Definition) → settled Refuse table ≡ Ok rows → is_prefix_free table ≡ true
settled_without table rows h = free_without_overlap table (kept table rows (overlap table) h).0

-- `Longest` reports no overlap
pub never_refused : (table : List Definition) (o : Overlap) → settled Longest table ≡ Err o → ⊥
never_refused table o h = cc
