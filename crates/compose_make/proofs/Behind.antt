-- What the pass has visited: the sequences that go on from a node by some of its keys, and in the
-- end all of them.
use Rattle.std.proofs.Common.{◌≡◌, ℕ, ◌+◌, ◌≤◌, List, [], ◌∷◌, ◌++◌, Bool, true, false, ◌&&◌, ◌||◌, length, map, take, refl, sym, ◌∙◌, ap, inl, inr, eqb-true}
use Rattle.std.specs.Prelude.{Some, ◌==◌, encode_utf8, slice_get}
use Rattle.std.specs.List.{list_any, list_all}
use Rattle.std.proofs.lemmas.List.{take_all}
use Rattle.std.proofs.lemmas.List.Folds.{list_any-append}
use Rattle.std.proofs.lemmas.Bool.{and_parts, and_from, or_cases, or_left, or_right, cases_Bool}
use Rattle.compose_model.specs.Table.{Definition, same, is_proper_prefix, is_sequence, is_extended, text_at}
use Rattle.compose_model.specs.Nodes.{has_edge, edges}
use Rattle.compose_model.specs.Certificate.{Repertoire, is_key}
use Rattle.compose_model.proofs.Tests.{list_any-weaker}
use Rattle.compose_model.proofs.NodeLemmas.{same_is, same_from, edge_extends, edge_listed}
use Rattle.compose_fresh.proofs.Used.{same_test}
use Rattle.compose_walk.proofs.Edges.{taken_more}
use Rattle.compose_walk.proofs.Onward.{begins, first_key, goes_after}
use Rattle.compose_make.specs.Least.{are_keys}
use Rattle.compose_make.specs.Candidates.{spells, is_whole}
use Rattle.compose_make.specs.Wanted.{WantedCharacter, AreLeast, offered_row, is_whole_after}
use Rattle.compose_make.proofs.Reduction.{whole_parts, whole_from, ends}
use Rattle.compose_make.proofs.Rows.{are_same, are_offered}
use Rattle.keysym_core.specs.Names.{KeysymNames}
use Rattle.compose_read.specs.Settle.{IsSettled}

-- ---- lists that go on from others

-- v goes on from p by one of these keys to a whole sequence that types c
abbrev pub is_through : List Definition → Repertoire → ℕ → List ℕ → List ℕ → List ℕ → Bool
is_through table repertoire c p ks v = list_any (λ k. begins (p ++ k ∷ []) v) ks && is_whole table repertoire c v

-- a key that v goes on by is one of v's
key_of : (P : ℕ → Bool) (p : List ℕ) (k : ℕ) (v : List ℕ) → begins (p ++ k ∷ []) v ≡ true → list_all P v ≡ true → P k ≡ true
key_of P p k [] h a = absurd (elim (or_cases (same (p ++ k ∷ []) []) (is_proper_prefix (p ++ k ∷ []) []) h) [ inl e ↦ never p e | inr e ↦ (let clash : false ≡ true = e in cc) ])
  where
    never : (p : List ℕ) → same (p ++ k ∷ []) [] ≡ true → ⊥
    never [] e = cc
    never (j ∷ p) e = cc
key_of P [] k (x ∷ v) h a = ap P (elim (or_cases (same (k ∷ []) (x ∷ v)) (is_proper_prefix (k ∷ []) (x ∷ v)) h) [
  | inl e ↦ eqb-true k x (and_parts (k == x) (same [] v) e).0
  | inr e ↦ eqb-true k x (and_parts (k == x) (is_proper_prefix [] v) e).0
]) ∙ (and_parts (P x) (list_all P v) a).0
key_of P (j ∷ p) k (x ∷ v) h a = key_of P p k v (elim (or_cases (same (j ∷ p ++ k ∷ []) (x ∷ v)) (is_proper_prefix (j ∷ p ++ k ∷ []) (x ∷ v)) h) [
  | inl e ↦ or_left (same (p ++ k ∷ []) v) (is_proper_prefix (p ++ k ∷ []) v) (and_parts (j == x) (same (p ++ k ∷ []) v) e).1
  | inr e ↦ or_right (same (p ++ k ∷ []) v) (is_proper_prefix (p ++ k ∷ []) v) (and_parts (j == x) (is_proper_prefix (p ++ k ∷ []) v) e).1
]) (and_parts (P x) (list_all P v) a).1

-- ---- one key more

either_again : (a b c w : Bool) → a || ((b || (c || false)) && w) ≡ (a || (b && w)) || (c && w)
either_again true b c w = refl
either_again false true c true = refl
either_again false true true false = refl
either_again false true false false = refl
either_again false false true true = refl
either_again false false true false = refl
either_again false false false w = refl

module _ (names : KeysymNames) (table : List Definition) (repertoire : Repertoire) (s : IsSettled table) (p : List ℕ) where
  -- by the key k from p
  abbrev pub is_by : ℕ → ℕ → List ℕ → Bool
  is_by c k v = begins (p ++ k ∷ []) v && is_whole table repertoire c v

  through_more : (a : Bool) (c : ℕ) (ks : List ℕ) (k : ℕ) (v : List ℕ) → a || is_through table repertoire c p (ks ++ k ∷ []) v ≡ (a || is_through table repertoire c p ks v) || is_by c k v
  through_more a c ks k v =
      ap (λ b. a || (b && is_whole table repertoire c v)) (list_any-append (λ j. begins (p ++ j ∷ []) v) ks (k ∷ []))
      ∙ either_again a (list_any (λ j. begins (p ++ j ∷ []) v) ks) (begins (p ++ k ∷ []) v) (is_whole table repertoire c v)

  pub next_through : (a : Bool) (c : ℕ) (es : List ℕ) (i : ℕ) (k : ℕ) (v : List ℕ) → slice_get es i ≡ Some k
      → a || is_through table repertoire c p (take (i + 1) es) v ≡ (a || is_through table repertoire c p (take i es) v) || is_by c k v
  next_through a c es i k v at = ap (λ ks. a || is_through table repertoire c p ks v) (taken_more es i k at) ∙ through_more a c (take i es) k v

  -- a key that is not in the repertoire leads nowhere
  pub not_by : (c k : ℕ) (v : List ℕ) → is_key repertoire k ≡ false → is_by c k v ≡ false
  not_by c k v n = elim (cases_Bool (is_by c k v)) [
    | inl e ↦ absurd (
        let parts = and_parts (begins (p ++ k ∷ []) v) (is_whole table repertoire c v) e in
        let keys = (whole_parts names table repertoire c v parts.1).by_keys in
        let clash : true ≡ false = sym (key_of (is_key repertoire) p k v parts.0 keys) ∙ n in cc)
    | inr e ↦ e
  ]

  -- a node is not a sequence
  pub by_node : (c k : ℕ) (v : List ℕ) → is_extended table (p ++ k ∷ []) ≡ true → is_whole_after table repertoire c (p ++ k ∷ []) v ≡ is_by c k v
  by_node c k v x = same_test (is_whole_after table repertoire c (p ++ k ∷ []) v) (is_by c k v)
      (λ h. (let parts = and_parts (is_proper_prefix (p ++ k ∷ []) v) (is_whole table repertoire c v) h in
      and_from (begins (p ++ k ∷ []) v) (is_whole table repertoire c v) (or_right (same (p ++ k ∷ []) v) (is_proper_prefix (p ++ k ∷ []) v) parts.0) parts.1))
      (λ h. (let parts = and_parts (begins (p ++ k ∷ []) v) (is_whole table repertoire c v) h in
      elim (or_cases (same (p ++ k ∷ []) v) (is_proper_prefix (p ++ k ∷ []) v) parts.0) [
        | inl e ↦ absurd (
            let whole = whole_parts names table repertoire c v parts.1 in
            let ended : is_extended table v ≡ false = ends names table repertoire s.definitions s.prefix_free v whole.sequence in
            let clash : true ≡ false = sym x ∙ ap (is_extended table) (same_is (p ++ k ∷ []) v e) ∙ ended in cc)
        | inr e ↦ and_from (is_proper_prefix (p ++ k ∷ []) v) (is_whole table repertoire c v) e parts.1
      ]))

  -- nothing goes on from a sequence
  pub by_leaf : (c k : ℕ) (t v : List ℕ) → is_sequence table (p ++ k ∷ []) ≡ true → text_at table (p ++ k ∷ []) ≡ Some t → are_keys repertoire (p ++ k ∷ []) ≡ true
      → (spells c t && same v (p ++ k ∷ [])) ≡ is_by c k v
  by_leaf c k t v x at keys = same_test (spells c t && same v (p ++ k ∷ [])) (is_by c k v)
      (λ h. (let parts = and_parts (spells c t) (same v (p ++ k ∷ [])) h in
      let is : p ++ k ∷ [] ≡ v = sym (same_is v (p ++ k ∷ []) parts.1) in
      let text : text_at table (p ++ k ∷ []) ≡ Some (encode_utf8 c) = at ∙ ap Some (sym (same_is (encode_utf8 c) t parts.0)) in
      and_from (begins (p ++ k ∷ []) v) (is_whole table repertoire c v) (or_left (same (p ++ k ∷ []) v) (is_proper_prefix (p ++ k ∷ []) v) (same_from (p ++ k ∷ []) v is))
      (ap (is_whole table repertoire c) (sym is) ∙ whole_from names table repertoire c (p ++ k ∷ []) x keys text)))
      (λ h. (let parts = and_parts (begins (p ++ k ∷ []) v) (is_whole table repertoire c v) h in
      let whole = whole_parts names table repertoire c v parts.1 in
      elim (or_cases (same (p ++ k ∷ []) v) (is_proper_prefix (p ++ k ∷ []) v) parts.0) [
        | inl e ↦ (
            let is : p ++ k ∷ [] ≡ v = same_is (p ++ k ∷ []) v e in
            let t_is : Some t ≡ Some (encode_utf8 c) = sym at ∙ ap (text_at table) is ∙ whole.text in
            let spelled : encode_utf8 c ≡ t = cc in
            and_from (spells c t) (same v (p ++ k ∷ [])) (same_from (encode_utf8 c) t spelled) (same_from v (p ++ k ∷ []) (sym is)))
        | inr e ↦ absurd (
            let ended : is_extended table (p ++ k ∷ []) ≡ false = ends names table repertoire s.definitions s.prefix_free (p ++ k ∷ []) x in
            let longer : is_extended table (p ++ k ∷ []) ≡ true = list_any-weaker (λ (d : Definition). same v d.sequence) (λ d. is_proper_prefix (p ++ k ∷ []) d.sequence)
            (λ d f. ap (is_proper_prefix (p ++ k ∷ [])) (sym (same_is v d.sequence f)) ∙ e) table whole.sequence in
            let clash : true ≡ false = sym longer ∙ ended in cc)
      ]))

  -- the keys of p lead to all that goes on from it
  pub all_through : (c : ℕ) (v : List ℕ) → is_through table repertoire c p (edges table p) v ≡ is_whole_after table repertoire c p v
  all_through c v = same_test (is_through table repertoire c p (edges table p) v) (is_whole_after table repertoire c p v)
      (λ h. (let parts = and_parts (list_any (λ k. begins (p ++ k ∷ []) v) (edges table p)) (is_whole table repertoire c v) h in
      and_from (is_proper_prefix p v) (is_whole table repertoire c v) (some_by (edges table p) parts.0) parts.1))
      (λ h. (let parts = and_parts (is_proper_prefix p v) (is_whole table repertoire c v) h in
      let k = first_key p v parts.0 in
      let whole = whole_parts names table repertoire c v parts.1 in
      and_from (list_any (λ k. begins (p ++ k ∷ []) v) (edges table p)) (is_whole table repertoire c v)
      (list_any-weaker (λ j. k.0 == j) (λ j. begins (p ++ j ∷ []) v) (λ j e. ap (λ i. begins (p ++ i ∷ []) v) (sym (eqb-true k.0 j e)) ∙ k.1) (edges table p)
      (edge_listed table p k.0 (edge_by k.0 whole.sequence k.1))) parts.1))
    where
      some_by : (ks : List ℕ) → list_any (λ k. begins (p ++ k ∷ []) v) ks ≡ true → is_proper_prefix p v ≡ true
      some_by [] h = cc
      some_by (k ∷ ks) h = elim (or_cases (begins (p ++ k ∷ []) v) (list_any (λ j. begins (p ++ j ∷ []) v) ks) h) [ inl e ↦ goes_after p k v e | inr e ↦ some_by ks e ]

      edge_by : (k : ℕ) → is_sequence table v ≡ true → begins (p ++ k ∷ []) v ≡ true → has_edge table p k ≡ true
      edge_by k q h = edge_extends table p k ∙ elim (or_cases (same (p ++ k ∷ []) v) (is_proper_prefix (p ++ k ∷ []) v) h) [
        | inl e ↦ or_right (is_extended table (p ++ k ∷ [])) (is_sequence table (p ++ k ∷ [])) (ap (is_sequence table) (same_is (p ++ k ∷ []) v e) ∙ q)
        | inr e ↦ or_left (is_extended table (p ++ k ∷ [])) (is_sequence table (p ++ k ∷ [])) (list_any-weaker (λ (d : Definition). same v d.sequence) (λ d. is_proper_prefix (p ++ k ∷ []) d.sequence)
            (λ d f. ap (is_proper_prefix (p ++ k ∷ [])) (sym (same_is v d.sequence f)) ∙ e) table q)
      ]

  -- ---- the rows, once the sequences by these keys were offered

  -- the rows are the least of what they were before and of the sequences by these keys
  abbrev pub HasSeen : List ℕ → List WantedCharacter → List WantedCharacter → Type 0
  HasSeen ks before rows = (passes : ℕ → List ℕ → Bool) → AreLeast passes before → AreLeast (λ c v. passes c v || is_through table repertoire c p ks v) rows

  or_none : (a : Bool) → a ≡ a || false
  or_none true = refl
  or_none false = refl

  -- after an edge whose key is not in the repertoire, the rows have seen one more edge
  pub seen_skip : (es : List ℕ) (i k : ℕ) (before rows : List WantedCharacter) → slice_get es i ≡ Some k → is_key repertoire k ≡ false → HasSeen (take i es) before rows
      → HasSeen (take (i + 1) es) before rows
  seen_skip es i k before rows at n h passes a =
      are_same (λ c v. passes c v || is_through table repertoire c p (take i es) v) (λ c v. passes c v || is_through table repertoire c p (take (i + 1) es) v)
      (λ c v. or_none (passes c v || is_through table repertoire c p (take i es) v) ∙ ap (λ b. (passes c v || is_through table repertoire c p (take i es) v) || b) (sym (not_by c k v n))
      ∙ sym (next_through (passes c v) c es i k v at)) rows (h passes a)

  -- after an edge to a node from which the rows have seen all sequences, they have seen one more
  -- edge
  pub seen_node : (es : List ℕ) (i k : ℕ) (before rows next : List WantedCharacter) → slice_get es i ≡ Some k → is_extended table (p ++ k ∷ []) ≡ true → HasSeen (take i es) before rows
      → ((passes : ℕ → List ℕ → Bool) → AreLeast passes rows → AreLeast (λ c v. passes c v || is_whole_after table repertoire c (p ++ k ∷ []) v) next) → HasSeen (take (i + 1) es) before next
  seen_node es i k before rows next at x h more passes a =
      are_same (λ c v. (passes c v || is_through table repertoire c p (take i es) v) || is_whole_after table repertoire c (p ++ k ∷ []) v)
      (λ c v. passes c v || is_through table repertoire c p (take (i + 1) es) v)
      (λ c v. ap (λ b. (passes c v || is_through table repertoire c p (take i es) v) || b) (by_node c k v x) ∙ sym (next_through (passes c v) c es i k v at)) next
      (more (λ c v. passes c v || is_through table repertoire c p (take i es) v) (h passes a))

  -- past an edge to a leaf, whose text and keys were offered to the rows, they have seen one edge
  -- more
  pub seen_leaf : (es : List ℕ) (i k : ℕ) (t : List ℕ) (before rows : List WantedCharacter) → slice_get es i ≡ Some k → is_sequence table (p ++ k ∷ []) ≡ true → text_at table (p ++ k ∷ []) ≡ Some t
      → are_keys repertoire (p ++ k ∷ []) ≡ true
      → HasSeen (take i es) before rows → HasSeen (take (i + 1) es) before (map (offered_row t (p ++ k ∷ [])) rows)
  seen_leaf es i k t before rows at x text keys h passes a =
      are_same (λ c v. (passes c v || is_through table repertoire c p (take i es) v) || (spells c t && same v (p ++ k ∷ []))) (λ c v. passes c v || is_through table repertoire c p (take (i + 1) es) v)
      (λ c v. ap (λ b. (passes c v || is_through table repertoire c p (take i es) v) || b) (by_leaf c k t v x text keys) ∙ sym (next_through (passes c v) c es i k v at))
      (map (offered_row t (p ++ k ∷ [])) rows)
      (are_offered (λ c v. passes c v || is_through table repertoire c p (take i es) v) t (p ++ k ∷ []) rows (h passes a))

  -- past the last edge of a node, the rows have seen every whole sequence that goes on from it
  pub seen_all : (i : ℕ) (before rows : List WantedCharacter) → length (edges table p) ≤ i → HasSeen (take i (edges table p)) before rows
      → (passes : ℕ → List ℕ → Bool) → AreLeast passes before → AreLeast (λ c v. passes c v || is_whole_after table repertoire c p v) rows
  seen_all i before rows over h passes a =
      are_same (λ c v. passes c v || is_through table repertoire c p (take i (edges table p)) v) (λ c v. passes c v || is_whole_after table repertoire c p v)
      (λ c v. ap (λ b. passes c v || b) (ap (λ ks. is_through table repertoire c p ks v) (take_all i (edges table p) over) ∙ all_through c v)) rows (h passes a)
