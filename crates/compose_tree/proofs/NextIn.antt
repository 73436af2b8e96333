-- In a settled table each sequence is the next one after those before it.
use Rattle.std.proofs.Common.{◌≡◌, ℕ, suc, ◌+◌, ◌<◌, ◌≤◌, List, [], ◌∷◌, ◌++◌, Bool, true, false, cond, not, ◌&&◌, ◌⊎◌, length, map, take, refl, sym, ◌∙◌, ap, subst, arith, inl, inr, eqb-true, eq-eqb, Ordering, Less, Equal, Greater, nat_cmp, append_assoc}
use Rattle.std.specs.Prelude.{◌==◌}
use Rattle.std.specs.List.{list_all}
use Rattle.std.specs.Ordering.{ordering_then, is_lt}
use Rattle.std.specs.Cmp.Lexicographic.{slice_cmp}
use Rattle.std.proofs.lemmas.Cmp.{nat_list_cmp_total, ranked}
use Rattle.std.proofs.lemmas.Bool.{and_parts, and_from, or_cases, or_left, or_right, or_parts, not-true, not_from_false, cases_Bool}
use Rattle.std.proofs.lemmas.List.{append-nil}
use Rattle.std.proofs.lemmas.List.Folds.{list_any-append}
use Rattle.compose_model.specs.Table.{Definition, same, is_proper_prefix, is_sequence, is_extended, is_prefix_free, is_definition}
use Rattle.compose_model.specs.Nodes.{proper_prefixes, nodes, is_node, number_of}
use Rattle.compose_model.proofs.Definitions.{sequence_some}
use Rattle.compose_model.proofs.NodeLemmas.{same_is, same_from, root_is_node, extended_is_node}
use Rattle.compose_model.proofs.Lift.{not_extended}
use Rattle.compose_model.proofs.SameTable.{extended_from}
use Rattle.compose_read.specs.Settle.{sequences_rise, IsSettled}
use Rattle.compose_tree.specs.Rows.{path_of, last_sequence, shared, shared_with_last}
use Rattle.compose_tree.proofs.Prefixes.{Before, behind_prefix, prefix_of_more, prefix_of_longer, prefix_on}
use Rattle.compose_tree.proofs.OneMore.{IsNext, extended_more, sequence_more}
use Rattle.compose_tree.proofs.MoreRows.{map_of_map, more_nodes}

-- ---- two lists that diverge

apart : (j k : ℕ) → j < k → (j == k) ≡ false
apart j k h = elim (cases_Bool (j == k)) [
  | inl e ↦ absurd (let is : j ≡ k = eqb-true j k e in omega arith)
  | inr e ↦ e
]

-- two lists, neither of which is a prefix of the other: their common prefix, and where they diverge
pub record Parts (a b : List ℕ) : Type 0 where
  pub prefix : List ℕ
  pub first : ℕ
  pub first_rest : List ℕ
  pub second : ℕ
  pub second_rest : List ℕ
  pub first_is : a ≡ prefix ++ first ∷ first_rest
  pub second_is : b ≡ prefix ++ second ∷ second_rest
  pub less : nat_cmp first second ≡ Less
  pub count : shared a b ≡ length prefix

-- a list and a later one of which it is no prefix diverge somewhere
pub parts : (a b : List ℕ) → Before a b → is_proper_prefix a b ≡ false → Parts a b
parts [] [] h f = cc
parts [] (k ∷ b) h f = cc
parts (j ∷ a) [] h f = cc
parts (j ∷ a) (k ∷ b) h f = go (nat_cmp j k) refl h (λ l g. parts a b l g)
  where
    go : (o : Ordering) → nat_cmp j k ≡ o → ordering_then o (slice_cmp nat_cmp a b) ≡ Less → (Before a b → is_proper_prefix a b ≡ false → Parts a b) → Parts (j ∷ a) (k ∷ b)
    go Less e l later =
        record {
          prefix = [];
          first = j;
          first_rest = a;
          second = k;
          second_rest = b;
          first_is = refl;
          second_is = refl;
          less = e;
          count =
              ap (λ t. cond t (1 + shared a b) 0) (apart j k (ranked j k Less (sym e)));
        }
    go Equal e l later =
        let is : j ≡ k = ranked j k Equal (sym e) in
        let q = later l (ap (λ t. t && is_proper_prefix a b) (sym (eq-eqb j k is)) ∙ f) in
        record {
          prefix = j ∷ q.prefix;
          first = q.first;
          first_rest = q.first_rest;
          second = q.second;
          second_rest = q.second_rest;
          first_is = ap (λ y. j ∷ y) q.first_is;
          second_is = ap (λ i. i ∷ b) (sym is) ∙ ap (λ y. j ∷ y) q.second_is;
          less = q.less;
          count = ap (λ t. cond t (1 + shared a b) 0) (eq-eqb j k is) ∙ one_more (shared a b) q.count;
        }
      where
        one_more : {n : ℕ} (m : ℕ) → m ≡ n → 1 + m ≡ suc n
        one_more m e = omega arith
    go Greater e l later = cc

-- ---- increasing sequences

before_from : (o : Ordering) → is_lt o ≡ true → o ≡ Less
before_from Less h = refl
before_from Equal h = cc
before_from Greater h = cc

-- the first sequence comes before the second
pub head_before : (c e : Definition) (table : List Definition) → sequences_rise (c ∷ e ∷ table) ≡ true → Before c.sequence e.sequence
head_before c e table h = before_from (slice_cmp nat_cmp c.sequence e.sequence) (and_parts (is_lt (slice_cmp nat_cmp c.sequence e.sequence)) (sequences_rise (e ∷ table)) h).0

-- the sequences without the first one are still increasing
pub tail_rises : (c e : Definition) (table : List Definition) → sequences_rise (c ∷ e ∷ table) ≡ true → sequences_rise (e ∷ table) ≡ true
tail_rises c e table h = (and_parts (is_lt (slice_cmp nat_cmp c.sequence e.sequence)) (sequences_rise (e ∷ table)) h).1

own_sequence : (d : Definition) (table : List Definition) → is_sequence (d ∷ table) d.sequence ≡ true
own_sequence d table = or_left (same d.sequence d.sequence) (is_sequence table d.sequence) (same_from d.sequence d.sequence refl)

-- each sequence comes before the one after all
rise_before : (table : List Definition) (d : Definition) (t : List ℕ) → sequences_rise (table ++ d ∷ []) ≡ true → is_sequence table t ≡ true → Before t d.sequence
rise_before [] d t r h = cc
rise_before (c ∷ []) d t r h = elim (or_cases (same t c.sequence) false h) [
  | inl e ↦ ap (λ y. slice_cmp nat_cmp y d.sequence) (same_is t c.sequence e) ∙ head_before c d [] r
  | inr e ↦ cc
]
rise_before (c ∷ e ∷ table) d t r h = elim (or_cases (same t c.sequence) (is_sequence (e ∷ table) t) h) [
  | inl f ↦ ap (λ y. slice_cmp nat_cmp y d.sequence) (same_is t c.sequence f)
      ∙ nat_list_cmp_total.trans c.sequence e.sequence d.sequence (head_before c e (table ++ d ∷ []) r)
      (rise_before (e ∷ table) d e.sequence (tail_rises c e (table ++ d ∷ []) r) (own_sequence e table))
  | inr f ↦ rise_before (e ∷ table) d t (tail_rises c e (table ++ d ∷ []) r) f
]

-- the last sequence is in the table, and the others come before it
last_in : (c : Definition) (table : List Definition) → is_sequence (c ∷ table) (last_sequence (c ∷ table)) ≡ true
last_in c [] = own_sequence c []
last_in c (e ∷ table) = or_right (same (last_sequence (e ∷ table)) c.sequence) (is_sequence (e ∷ table) (last_sequence (e ∷ table))) (last_in e table)

before_last : (table : List Definition) (t : List ℕ) → sequences_rise table ≡ true → is_sequence table t ≡ true → (t ≡ last_sequence table) ⊎ Before t (last_sequence table)
before_last [] t r h = cc
before_last (c ∷ []) t r h = elim (or_cases (same t c.sequence) false h) [ inl e ↦ inl (same_is t c.sequence e) | inr e ↦ cc ]
before_last (c ∷ e ∷ table) t r h = elim (or_cases (same t c.sequence) (is_sequence (e ∷ table) t) h) [
  | inl f ↦ (let less : Before t e.sequence = ap (λ y. slice_cmp nat_cmp y e.sequence) (same_is t c.sequence f) ∙ head_before c e table r in
      elim (before_last (e ∷ table) e.sequence (tail_rises c e table r) (own_sequence e table)) [
        | inl g ↦ inr (ap (slice_cmp nat_cmp t) (sym g) ∙ less)
        | inr g ↦ inr (nat_list_cmp_total.trans t e.sequence (last_sequence (e ∷ table)) less g)
      ])
  | inr f ↦ before_last (e ∷ table) t (tail_rises c e table r) f
]

-- ---- prefixes of settled tables

rise_prefix : (xs ys : List Definition) → sequences_rise (xs ++ ys) ≡ true → sequences_rise xs ≡ true
rise_prefix [] ys h = refl
rise_prefix (c ∷ []) ys h = refl
rise_prefix (c ∷ e ∷ xs) ys h =
    and_from (is_lt (slice_cmp nat_cmp c.sequence e.sequence)) (sequences_rise (e ∷ xs)) (and_parts (is_lt (slice_cmp nat_cmp c.sequence e.sequence)) (sequences_rise (e ∷ xs ++ ys)) h).0
    (rise_prefix (e ∷ xs) ys (tail_rises c e (xs ++ ys) h))

all_prefix : (p q : Definition → Bool) → ((d : Definition) → p d ≡ true → q d ≡ true) → (xs ys : List Definition) → list_all p (xs ++ ys) ≡ true → list_all q xs ≡ true
all_prefix p q f [] ys h = refl
all_prefix p q f (d ∷ xs) ys h = let both = and_parts (p d) (list_all p (xs ++ ys)) h in and_from (q d) (list_all q xs) (f d both.0) (all_prefix p q f xs ys both.1)

free_prefix : (xs ys : List Definition) → is_prefix_free (xs ++ ys) ≡ true → is_prefix_free xs ≡ true
free_prefix xs ys h = all_prefix (λ d. not (is_extended (xs ++ ys) d.sequence)) (λ d. not (is_extended xs d.sequence)) weaker xs ys h
  where
    weaker : (d : Definition) → not (is_extended (xs ++ ys) d.sequence) ≡ true → not (is_extended xs d.sequence) ≡ true
    weaker d e = not_from_false (is_extended xs d.sequence)
        (or_parts (is_extended xs d.sequence) (is_extended ys d.sequence)
        (sym (list_any-append (λ (c : Definition). is_proper_prefix d.sequence c.sequence) xs ys) ∙ not-true (is_extended (xs ++ ys) d.sequence) e)).0

-- the prefix of a settled table is settled
pub settled_prefix : (xs ys : List Definition) → IsSettled (xs ++ ys) → IsSettled xs
settled_prefix xs ys s = record {
  definitions = all_prefix is_definition is_definition (λ d h. h) xs ys s.definitions;
  rise = rise_prefix xs ys s.rise;
  prefix_free = free_prefix xs ys s.prefix_free;
}

-- ---- the next sequence

-- the path to the last sequence, up to p
way_to : (f : List ℕ → ℕ) (p : List ℕ) (j : ℕ) (r : List ℕ) (k : ℕ) → take (suc (length p)) (map f (proper_prefixes (p ++ j ∷ r))) ≡ map f (proper_prefixes (p ++ k ∷ []))
way_to f [] j r k = refl
way_to f (i ∷ p) j r k =
    ap (λ xs. f [] ∷ take (suc (length p)) xs) (map_of_map f (λ q. i ∷ q) (proper_prefixes (p ++ j ∷ r))) ∙ ap (λ xs. f [] ∷ xs) (way_to (λ q. f (i ∷ q)) p j r k)
    ∙ ap (λ xs. f [] ∷ xs) (sym (map_of_map f (λ q. i ∷ q) (proper_prefixes (p ++ k ∷ []))))

-- how the definition continues the table, and the path there
pub record Next (table : List Definition) (d : Definition) : Type 0 where
  pub prefix : List ℕ
  pub key : ℕ
  pub rest : List ℕ
  pub next : IsNext table d prefix key rest
  pub count : shared_with_last table d.sequence ≡ length prefix
  pub way : take (suc (length prefix)) (path_of table) ≡ map (number_of table) (proper_prefixes (prefix ++ key ∷ []))

first_next : (d : Definition) (k : ℕ) (rest : List ℕ) → d.sequence ≡ k ∷ rest → is_prefix_free ([] ++ d ∷ []) ≡ true → Next [] d
first_next d k rest e free = record {
  prefix = [];
  key = k;
  rest = rest;
  next = record { sequence = e; below = λ t h. cc; opened = opens; free = free };
  count = refl;
  way = refl;
}
  where
    opens : (x : List ℕ) → is_proper_prefix x (k ∷ []) ≡ true → is_node [] x ≡ true
    opens x h = elim (prefix_of_more x [] k h) [ inl f ↦ ap (is_node []) f ∙ root_is_node [] | inr f ↦ cc ]

module _ (c : Definition) (rows : List Definition) (d : Definition) (rise : sequences_rise (c ∷ rows ++ d ∷ []) ≡ true) (free : is_prefix_free (c ∷ rows ++ d ∷ []) ≡ true) where
  last_before_next : Before (last_sequence (c ∷ rows)) d.sequence
  last_before_next = rise_before (c ∷ rows) d (last_sequence (c ∷ rows)) rise (last_in c rows)

  last_does_not_begin : is_proper_prefix (last_sequence (c ∷ rows)) d.sequence ≡ false
  last_does_not_begin =
      let s = last_sequence (c ∷ rows) in
      (or_parts (is_extended (c ∷ rows) s) (is_proper_prefix s d.sequence)
      (sym (extended_more (c ∷ rows) d s) ∙ not_extended (c ∷ rows ++ d ∷ []) s free (sequence_more (c ∷ rows) d s ∙ or_left (is_sequence (c ∷ rows) s) (same s d.sequence) (last_in c rows)))).1

  module _ (q : Parts (last_sequence (c ∷ rows)) d.sequence) where
    last_before : Before (last_sequence (c ∷ rows)) (q.prefix ++ q.second ∷ [])
    last_before =
        ap (λ y. slice_cmp nat_cmp y (q.prefix ++ q.second ∷ [])) q.first_is ∙ behind_prefix q.prefix (q.first ∷ q.first_rest) (q.second ∷ [])
        ∙ ap (λ o. ordering_then o (slice_cmp nat_cmp q.first_rest [])) q.less

    all_before : (t : List ℕ) → is_sequence (c ∷ rows) t ≡ true → Before t (q.prefix ++ q.second ∷ [])
    all_before t h = elim (before_last (c ∷ rows) t (rise_prefix (c ∷ rows) (d ∷ []) rise) h) [
      | inl e ↦ ap (λ y. slice_cmp nat_cmp y (q.prefix ++ q.second ∷ [])) e ∙ last_before
      | inr e ↦ nat_list_cmp_total.trans t (last_sequence (c ∷ rows)) (q.prefix ++ q.second ∷ []) e last_before
    ]

    along_last : (x : List ℕ) → is_proper_prefix x (q.prefix ++ q.first ∷ q.first_rest) ≡ true → is_node (c ∷ rows) x ≡ true
    along_last x h = extended_is_node (c ∷ rows) x (extended_from (c ∷ rows) x (last_sequence (c ∷ rows)) (ap (is_proper_prefix x) q.first_is ∙ h) (last_in c rows))

    opens : (x : List ℕ) → is_proper_prefix x (q.prefix ++ q.second ∷ []) ≡ true → is_node (c ∷ rows) x ≡ true
    opens x h = elim (prefix_of_more x q.prefix q.second h) [
      | inl e ↦ along_last x (ap (λ y. is_proper_prefix y (q.prefix ++ q.first ∷ q.first_rest)) e ∙ prefix_of_longer q.prefix q.first_rest q.first)
      | inr e ↦ along_last x (prefix_on x q.prefix (q.first ∷ q.first_rest) e)
    ]

    next_by : Next (c ∷ rows) d
    next_by = record {
      prefix = q.prefix;
      key = q.second;
      rest = q.second_rest;
      next = record { sequence = q.second_is ∙ sym (append_assoc q.prefix (q.second ∷ []) q.second_rest); below = all_before; opened = opens; free = free };
      count = q.count;
      way = ap (λ s. take (suc (length q.prefix)) (map (number_of (c ∷ rows)) (proper_prefixes s))) q.first_is ∙ way_to (number_of (c ∷ rows)) q.prefix q.first q.first_rest q.second;
    }

  later_next : Next (c ∷ rows) d
  later_next = next_by (parts (last_sequence (c ∷ rows)) d.sequence last_before_next last_does_not_begin)

-- after each prefix of a settled table the next definition continues it
pub next_of_settled : (table : List Definition) (d : Definition) → IsSettled (table ++ d ∷ []) → Next table d
next_of_settled [] d s = go d.sequence refl (sequence_some d (and_parts (is_definition d) true s.definitions).0)
  where
    go : (t : List ℕ) → d.sequence ≡ t → 0 < length d.sequence → Next [] d
    go [] e h = absurd (let none : length d.sequence ≡ 0 = ap length e in omega arith)
    go (k ∷ rest) e h = first_next d k rest e s.prefix_free
next_of_settled (c ∷ rows) d s = later_next c rows d s.rise s.prefix_free

-- the nodes grow with the table
pub nodes_grow : (table later : List Definition) → IsSettled (table ++ later) → length (nodes table) ≤ length (nodes (table ++ later))
nodes_grow table [] s = ap_le (append-nil table)
  where
    ap_le : (e : table ++ [] ≡ table) → length (nodes table) ≤ length (nodes (table ++ []))
    ap_le e = let f : length (nodes (table ++ [])) ≡ length (nodes table) = ap (λ t. length (nodes t)) e in omega arith
nodes_grow table (d ∷ later) s =
    let e : (table ++ d ∷ []) ++ later ≡ table ++ d ∷ later = append_assoc table (d ∷ []) later in
    let s' : IsSettled ((table ++ d ∷ []) ++ later) = subst IsSettled (sym e) s in
    let n = next_of_settled table d (settled_prefix (table ++ d ∷ []) later s') in
    let more : length (nodes (table ++ d ∷ [])) ≡ length (nodes table) + length n.rest = more_nodes table d n.prefix n.key n.rest n.next in
    let on : length (nodes (table ++ d ∷ [])) ≤ length (nodes ((table ++ d ∷ []) ++ later)) = nodes_grow (table ++ d ∷ []) later s' in
    let same_count : length (nodes ((table ++ d ∷ []) ++ later)) ≡ length (nodes (table ++ d ∷ later)) = ap (λ t. length (nodes t)) e in
    omega arith
