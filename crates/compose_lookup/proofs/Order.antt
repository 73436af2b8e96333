-- The leaves of a table in the order of their lengths are those of `shortest_first`.
use Rattle.std.proofs.Common.{◌≡◌, ℕ, suc, ◌+◌, ◌<◌, ◌≤◌, List, [], ◌∷◌, true, false, cond, length, get_or, map, refl, sym, ◌∙◌, ap, ap₂, subst, inl, inr, arith, Some, rules}
use Rattle.std.specs.Prelude.{nat_lt, nat_eq, filter, flat_map, unwrap_or, IsTrue}
use Rattle.std.specs.List.{All, range_with_len}
use Rattle.std.specs.List.Sorted.{IsPermutation, IsSortedByKey}
use Rattle.std.specs.Ordering.{nat_cmp}
use Rattle.std.specs.Cmp.Lexicographic.{slice_cmp}
use Rattle.std.specs.Option.{option_map_or}
use Rattle.std.proofs.lemmas.Bool.{cases_lt}
use Rattle.std.proofs.lemmas.List.{get_or-map, get_or_past, length-map}
use Rattle.std.proofs.lemmas.List.Elements.{All-map, All-nil, All-append, All-filter}
use Rattle.std.proofs.lemmas.List.Sorted.{All-permutation}
use Rattle.std.proofs.lemmas.List.FromFn.{length-range_with_len, get_or-range_with_len}
use Rattle.compose_model.specs.Table.{Definition, same}
use Rattle.compose_model.specs.Nodes.{leaves}
use Rattle.compose_read.specs.Settle.{IsSettled}
use Rattle.compose_tree.specs.Targets.{leaf_text}
use Rattle.compose_tree.specs.declared.table.LeafId.{LeafId}
use Rattle.compose_tree.proofs.Lookups.{leaves_count, leaf_text_is}
use Rattle.compose_lookup.specs.Lookup.{gives, giving, shortest_first, key_counts}
use Rattle.compose_lookup.specs.TextIndex.{IsTextIndex, sequence_at, IsLeaf, is_among, text_of, has_text, leaf_id, leaf_ids, giving_one, of_length, by_length}
use Rattle.compose_lookup.proofs.Asked.{none_left_out}
use Rattle.compose_lookup.proofs.Shortest.{of_each, mapped}

-- ---- numbers in a row

-- the elements at consecutive numbers are the rest of the list
module _ (xs : List (List ℕ)) where
  in_a_row : (ys : List (List ℕ)) (a : ℕ) → ((i : ℕ) (d : List ℕ) → get_or xs (a + i) d ≡ get_or ys i d)
      → map (λ (leaf : LeafId). get_or xs leaf.0 []) (map leaf_id (range_with_len a (length ys))) ≡ ys
  in_a_row [] a h = refl
  in_a_row (y ∷ ys) a h =
      let here : a ≡ a + 0 = omega arith in
      let first : get_or xs a [] ≡ y = ap (λ n. get_or xs n []) here ∙ h 0 [] in
      ap₂ (λ t ts. t ∷ ts) first (in_a_row ys (a + 1) (λ i d. (let next : a + 1 + i ≡ a + suc i = omega arith in ap (λ n. get_or xs n d) next ∙ h (suc i) d)))

row_within : (n m a : ℕ) → a + m ≤ n → All (λ (k : ℕ). k < n) (range_with_len a m)
row_within n m a h k d below =
    let len = length-range_with_len a m in
    let inside : k < m = omega arith in
    subst (λ (i : ℕ). i < n) (sym (get_or-range_with_len a m k d inside)) (omega arith)

all_joined : (P : LeafId → Type 0) (f : ℕ → List LeafId) → ((n : ℕ) → All P (f n)) → (ns : List ℕ) → All P (flat_map f ns)
all_joined P f h [] = All-nil P
all_joined P f h (n ∷ ns) = All-append P (f n) (flat_map f ns) (h n) (all_joined P f h ns)

module _ (table : List Definition) where
  -- the leaves by their numbers are the sequences in order
  pub numbered : map (sequence_at table) (leaf_ids (length (leaves table))) ≡ leaves table
  numbered = in_a_row (leaves table) (leaves table) 0 (λ i d. (let here : 0 + i ≡ i = omega arith in ap (λ n. get_or (leaves table) n d) here))

  -- each leaf is one of the table's
  pub all_leaves : All (IsLeaf table) (leaf_ids (length (leaves table)))
  all_leaves = All-map (IsLeaf table) leaf_id (range_with_len 0 (length (leaves table))) (row_within (length (leaves table)) (length (leaves table)) 0 (omega arith))

module _ (table : List Definition) (settled : IsSettled table) where
  -- a leaf of the table has the text of its sequence
  pub text_given : (leaf : LeafId) → IsLeaf table leaf → (text : List ℕ) → has_text table text leaf ≡ gives table text (sequence_at table leaf)
  text_given leaf below text =
      let d : Definition = record { sequence = []; text = [] } in
      let is : leaf_text table leaf.0 ≡ Some (get_or table leaf.0 d).text = leaf_text_is table leaf.0 d settled (subst (λ n. leaf.0 < n) (leaves_count table settled) below) in
      ap (same text) (ap (λ b. cond b (unwrap_or (leaf_text table leaf.0) []) []) (tested leaf.0 (length (leaves table)) below) ∙ ap (λ o. unwrap_or o []) is)
      ∙ sym (ap (λ o. option_map_or (same text) o false) is)
    where
      tested : (a b : ℕ) → a < b → nat_lt a b ≡ true
      tested a b h = search rules

  -- of the leaves that give one of these texts, those with one of them are in the order of their
  -- lengths
  pub shortest : (lengths : List ℕ) → lengths ≡ map length (leaves table) → (texts : List (List ℕ)) (text : List ℕ) → IsTrue (is_among texts text)
      → map (sequence_at table) (filter (has_text table text) (by_length lengths (giving_one table texts))) ≡ shortest_first (giving table text)
  shortest lengths e texts text among =
      subst (λ ls. map (sequence_at table) (filter (has_text table text) (by_length ls (giving_one table texts))) ≡ shortest_first (giving table text)) (sym e) here
    where
      counts : (leaf : LeafId) → get_or (map length (leaves table)) leaf.0 0 ≡ length (sequence_at table leaf)
      counts leaf = elim (cases_lt leaf.0 (length (leaves table))) [
        | inl h ↦ get_or-map length (leaves table) leaf.0 [] 0 h
        | inr h ↦ (let long = length-map (leaves table) length in get_or_past (map length (leaves table)) leaf.0 0 (omega arith)) ∙ sym (ap length (get_or_past (leaves table) leaf.0 [] h))
      ]

      these : List LeafId
      these = leaf_ids (length (leaves table))

      given : All (λ leaf. has_text table text leaf ≡ gives table text (sequence_at table leaf)) (giving_one table texts)
      given =
          All-filter (λ leaf. is_among texts (text_of table leaf)) (λ leaf. has_text table text leaf ≡ gives table text (sequence_at table leaf)) these
          (λ k d h. text_given (get_or these k d) (all_leaves table k d h) text)

      kept : filter (gives table text) (map (sequence_at table) (giving_one table texts)) ≡ giving table text
      kept =
          sym (filter_mapped (giving_one table texts) given) ∙ ap (map (sequence_at table)) (none_left_out table texts text among these)
          ∙ filter_mapped these (λ k d h. text_given (get_or these k d) (all_leaves table k d h) text) ∙ ap (filter (gives table text)) (numbered table)
        where
          filter_mapped : (xs : List LeafId) → All (λ leaf. has_text table text leaf ≡ gives table text (sequence_at table leaf)) xs
              → map (sequence_at table) (filter (has_text table text) xs) ≡ filter (gives table text) (map (sequence_at table) xs)
          filter_mapped xs all = mapped (sequence_at table) (has_text table text) (gives table text) xs all

      here : map (sequence_at table) (filter (has_text table text) (by_length (map length (leaves table)) (giving_one table texts))) ≡ shortest_first (giving table text)
      here =
          of_each (sequence_at table) (λ leaf. get_or (map length (leaves table)) leaf.0 0) counts (has_text table text) (gives table text) key_counts (giving_one table texts) given
          ∙ ap shortest_first kept

  -- the leaves in the order of their lengths are the table's
  pub all_by_length : (lengths : List ℕ) (texts : List (List ℕ)) → All (IsLeaf table) (by_length lengths (giving_one table texts))
  all_by_length lengths texts = all_joined (IsLeaf table) (of_length lengths (giving_one table texts)) (λ n.
      All-filter (λ leaf. nat_eq (get_or lengths leaf.0 0) n) (IsLeaf table) (giving_one table texts)
      (All-filter (λ leaf. is_among texts (text_of table leaf)) (IsLeaf table) (leaf_ids (length (leaves table))) (all_leaves table))) key_counts

  -- those leaves, in the order of their texts
  pub made : (lengths : List ℕ) (texts : List (List ℕ)) (start index : List LeafId) → lengths ≡ map length (leaves table) → start ≡ by_length lengths (giving_one table texts) → IsPermutation start index
      → IsSortedByKey (text_of table) (slice_cmp nat_cmp) index → ((text : List ℕ) → filter (has_text table text) index ≡ filter (has_text table text) start)
      → (text : List ℕ) → IsTrue (is_among texts text) → IsTextIndex table text index
  made lengths texts start index e are moved rise stable text among = record {
    in_table = All-permutation (IsLeaf table) start index moved (subst (λ ls. All (IsLeaf table) ls) (sym are) (all_by_length lengths texts));
    rise = rise;
    sequences = ap (map (sequence_at table)) (stable text ∙ ap (filter (has_text table text)) are) ∙ shortest lengths e texts text among;
  }
