-- Sequences in the order that is asked for, by their leaves.
use Rattle.std.proofs.Common.{◌≡◌, ℕ, ◌+◌, ◌<◌, ◌≤◌, List, [], ◌∷◌, false, cond, length, get_or, map, refl, sym, ◌∙◌, ap, ap₂, subst, arith, Option, Some, None, Ordering}
use Rattle.std.specs.Prelude.{nat_lt, filter, unwrap_or}
use Rattle.std.specs.List.{All}
use Rattle.std.specs.List.Sorted.{IsSortedByKey, IsPermutation}
use Rattle.std.specs.Cmp.Lexicographic.{slice_cmp}
use Rattle.std.specs.Ordering.{nat_cmp, is_lt}
use Rattle.std.proofs.lemmas.List.{get_or-map, length-map}
use Rattle.std.proofs.lemmas.List.Sorted.{All-permutation, IsPermutation-map}
use Rattle.keysym_core.specs.Names.{KeysymNames}
use Rattle.compose_model.specs.Table.{Definition}
use Rattle.compose_model.specs.Nodes.{leaves}
use Rattle.compose_read.specs.Lines.{Visit}
use Rattle.compose_read.specs.Settle.{IsSettled}
use Rattle.compose_tree.specs.Targets.{leaf_text}
use Rattle.compose_tree.specs.declared.table.LeafId.{LeafId}
use Rattle.compose_places.specs.Counting.{WrittenLine, counting_line}
use Rattle.compose_lookup.specs.Lookup.{gives}
use Rattle.compose_lookup.specs.TextIndex.{sequence_at, text_of, has_text, IsLeaf}
use Rattle.compose_lookup.proofs.Order.{text_given}
use Rattle.compose_listing.specs.Chosen.{text_for, place_of, place_for, place_cmp, AreByText, AreByPlace}
use Rattle.compose_listing.specs.Leaves.{place_at}
use Rattle.compose_listing.proofs.Lines.{tested, filter_of_map}

-- if elements are sorted by the keys of their values, their values are sorted by these keys
sorted_map : {X Y K : Type 0} (f : X → Y) (a : X → K) (b : Y → K) (cmp : K → K → Ordering) (xs : List X) → All (λ x. a x ≡ b (f x)) xs → IsSortedByKey a cmp xs → IsSortedByKey b cmp (map f xs)
sorted_map f a b cmp [] same rise k d low high = absurd (omega arith)
sorted_map f a b cmp (x ∷ xs) same rise k d low high =
    let high' : k + 1 < length (x ∷ xs) = omega (arith, length-map (x ∷ xs) f) in
    let before : k < length (x ∷ xs) = omega arith in
    ap₂ (λ s t. is_lt (cmp s t)) (at (k + 1) high') (at k before) ∙ rise k x low high'
  where
    at : (i : ℕ) → i < length (x ∷ xs) → b (get_or (map f (x ∷ xs)) i d) ≡ a (get_or (x ∷ xs) i x)
    at i h = ap b (get_or-map f (x ∷ xs) i x d h) ∙ sym (same i x h)

module _ (table : List Definition) (xs ys : List LeafId) (all : All (IsLeaf table) xs) (each : IsPermutation xs ys) where
  pub all_moved : All (IsLeaf table) ys
  all_moved = All-permutation (IsLeaf table) xs ys each all

  pub by_text : IsSettled table → IsSortedByKey (text_of table) (slice_cmp nat_cmp) ys
      → ((text : List ℕ) → filter (has_text table text) ys ≡ filter (has_text table text) xs) → AreByText table (map (sequence_at table) xs) (map (sequence_at table) ys)
  by_text settled rise stay = record {
    each = IsPermutation-map (sequence_at table) xs ys each;
    rise = sorted_map (sequence_at table) (text_of table) (text_for table) (slice_cmp nat_cmp) ys (λ k d h. text_is (get_or ys k d) (all_moved k d h)) rise;
    stay = λ text. sym (giving_are ys all_moved text) ∙ ap (map (sequence_at table)) (stay text) ∙ giving_are xs all text;
  }
    where
      text_is : (leaf : LeafId) → IsLeaf table leaf → text_of table leaf ≡ text_for table (sequence_at table leaf)
      text_is leaf below = ap (λ b. cond b (unwrap_or (leaf_text table leaf.0) []) []) (tested leaf.0 (length (leaves table)) below)

      giving_are : (ls : List LeafId) → All (IsLeaf table) ls → (text : List ℕ) → map (sequence_at table) (filter (has_text table text) ls) ≡ filter (gives table text) (map (sequence_at table) ls)
      giving_are ls within text = filter_of_map (sequence_at table) (has_text table text) (gives table text) ls (λ k d h. text_given table settled (get_or ls k d) (within k d h) text)

  pub by_place : (names : KeysymNames) (visits : List Visit) (lines : List (Option WrittenLine)) → lines ≡ map (counting_line names visits) (leaves table)
      → IsSortedByKey (place_at lines) place_cmp ys → AreByPlace names visits (map (sequence_at table) xs) (map (sequence_at table) ys)
  by_place names visits lines are rise = record {
    each = IsPermutation-map (sequence_at table) xs ys each;
    rise = sorted_map (sequence_at table) (place_at lines) (place_for names visits) place_cmp ys (λ k d h. place_is (get_or ys k d) (all_moved k d h)) rise;
  }
    where
      place_is : (leaf : LeafId) → IsLeaf table leaf → place_at lines leaf ≡ place_for names visits (sequence_at table leaf)
      place_is leaf below = ap place_of (ap (λ ls. get_or ls leaf.0 None) are ∙ get_or-map (counting_line names visits) (leaves table) leaf.0 [] None below)
