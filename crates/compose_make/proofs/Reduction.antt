-- The reduction: what types a character has, no later in the order, a plain key or a whole sequence
-- that types it.
use Rattle.std.proofs.Common.{◌≡◌, ◌⊎◌, ℕ, ◌+◌, ◌-◌, ◌<◌, ◌≤◌, List, [], ◌∷◌, ◌++◌, Bool, true, false, not, ◌&&◌, ◌||◌, length, map, replicate, refl, sym, ◌∙◌, ap, subst, inl, inr, arith, append-nil, append_assoc, length-append, eq-eqb, suc}
use Rattle.std.specs.Prelude.{Option, Some, None, unwrap_or, encode_utf8, ◌==◌, nat_lt, nat_le}
use Rattle.std.specs.Option.{option_map_or}
use Rattle.std.specs.List.{list_all}
use Rattle.std.proofs.lemmas.Str.{length-encode, len_utf8_bounds}
use Rattle.std.specs.Char.{len_utf8}
use Rattle.std.proofs.lemmas.List.{map_push, same_from_push}
use Rattle.std.proofs.lemmas.List.Folds.{list_all-append}
use Rattle.std.proofs.lemmas.Bool.{and_parts, and_from, or_cases, or_left, or_right, or_from, or_parts, not-true, not_from_false}
use Rattle.keysym_core.specs.Keysym.{is_keysym, is_ignored}
use Rattle.keysym_core.specs.Names.{KeysymNames, text}
use Rattle.compose_model.specs.Table.{Definition, same, is_proper_prefix, is_sequence, is_extended, is_table, is_definition, is_prefix_free, text_at}
use Rattle.compose_model.specs.Step.{Effect, ignores, extends, completes, passes, cancels, Step, effect, is_empty, step, run, steps_from, pending_by, text_by, pending_after, pending_from, pending}
use Rattle.compose_model.specs.Follows.{Types}
use Rattle.compose_model.specs.Nodes.{has_edge}
use Rattle.compose_model.specs.Certificate.{Repertoire, is_key}
use Rattle.compose_model.proofs.Tests.{both_at, list_any-weaker}
use Rattle.compose_model.proofs.Steps.{effect_tests, effect_is, pending_from-append}
use Rattle.compose_model.proofs.NodeLemmas.{same_is, same_from, edge_extends, extended_is_node}
use Rattle.compose_model.proofs.Definitions.{sequence_fed}
use Rattle.compose_model.proofs.Reached.{IsReached, node_reached, steps_from-append, root_reached}
use Rattle.compose_walk.specs.Evidence.{comes_first}
use Rattle.compose_walk.proofs.Reduction.{empty_is}
use Rattle.compose_walk.proofs.FirstOrder.{first_by_length, first_then}
use Rattle.compose_make.specs.Least.{are_keys, IsLeastTyping}
use Rattle.compose_make.specs.Candidates.{spells, is_plain, is_plain_key, is_whole, IsLeastOf}

-- ---- the lists that need to be checked

-- keys that are checked for a character: one plain key, or a whole sequence by keys of the
-- repertoire
abbrev pub is_candidate : KeysymNames → List Definition → Repertoire → ℕ → List ℕ → Bool
is_candidate names table repertoire c w = is_plain names table repertoire c w || is_whole table repertoire c w

-- ---- lists by their last element

pub record Snoc (w : List ℕ) : Type 0 where
  pub prefix : List ℕ
  pub last : ℕ
  pub is : w ≡ prefix ++ last ∷ []

pub snoc : (k : ℕ) (w : List ℕ) → Snoc (k ∷ w)
snoc k [] = record { prefix = []; last = k; is = refl }
snoc k (j ∷ w) = let r = snoc j w in record { prefix = k ∷ r.prefix; last = r.last; is = ap (λ x. k ∷ x) r.is }

pub last_of : (P : ℕ → Bool) (v : List ℕ) (k : ℕ) → list_all P (v ++ k ∷ []) ≡ true → (list_all P v ≡ true) × (P k ≡ true)
last_of P v k h =
    let parts = and_parts (list_all P v) (list_all P (k ∷ [])) (sym (list_all-append P v (k ∷ [])) ∙ h) in
    (parts.0, (and_parts (P k) true parts.1).0)

-- a list whose elements all pass still does with one more that passes at its end
pub with_last : (P : ℕ → Bool) (v : List ℕ) (k : ℕ) → list_all P v ≡ true → P k ≡ true → list_all P (v ++ k ∷ []) ≡ true
with_last P v k a b = list_all-append P v (k ∷ []) ∙ and_from (list_all P v) (list_all P (k ∷ [])) a (and_from (P k) true b refl)

length_snoc : (v : List ℕ) (k : ℕ) → length (v ++ k ∷ []) ≡ length v + 1
length_snoc v k = length-append v (k ∷ [])

prefix_snoc : (v : List ℕ) (k : ℕ) → is_proper_prefix v (v ++ k ∷ []) ≡ true
prefix_snoc [] k = refl
prefix_snoc (j ∷ v) k = and_from (j == j) (is_proper_prefix v (v ++ k ∷ [])) (eq-eqb j j refl) (prefix_snoc v k)

-- ---- a character's text is not empty

-- no character's text is empty
pub never_silent : (c : ℕ) → [] ≡ encode_utf8 c → ⊥
never_silent c e =
    let n : 0 ≡ length (encode_utf8 c) = ap length e in
    let m : length (encode_utf8 c) ≡ len_utf8 c = length-encode c in
    let b : 1 ≤ len_utf8 c = (len_utf8_bounds c).0 in
    absurd (omega arith)

-- what begins with a text that is not empty is not empty
pub never_prefix : (xs ys : List ℕ) → ([] ≡ xs → ⊥) → [] ≡ xs ++ ys → ⊥
never_prefix [] ys n e = n refl
never_prefix (x ∷ xs) ys n e = cc

-- ---- what is pending is what was typed, or shorter

abbrev pub IsKept : List ℕ → List ℕ → List ℕ → Type 0
IsKept u w v = (v ≡ u ++ w) ⊎ (length v < length u + length w)

pub pending_kept : (table : List Definition) (u w : List ℕ) → IsKept u w (pending_from table u w)
pending_kept table u [] = inl (sym (append-nil u))
pending_kept table u (k ∷ w) = go (λ y. pending_kept table y w) (effect table u k)
  where
    shorter : (y v : List ℕ) → length y < length u + 1 → IsKept y w v → IsKept u (k ∷ w) v
    shorter y v l (inl e) = inr (let n : length v ≡ length y + length w = ap length e ∙ length-append y w in omega arith)
    shorter y v l (inr h) = inr (omega arith)

    longer : (v : List ℕ) → IsKept (u ++ k ∷ []) w v → IsKept u (k ∷ w) v
    longer v (inl e) = inl (e ∙ append_assoc u (k ∷ []) w)
    longer v (inr h) = inr (let n = length_snoc u k in omega arith)

    go : ((y : List ℕ) → IsKept y w (pending_from table y w)) → (x : Effect) → IsKept u (k ∷ w) (pending_from table (pending_by x u k) w)
    go again ignores = shorter u (pending_from table u w) (omega arith) (again u)
    go again extends = longer (pending_from table (u ++ k ∷ []) w) (again (u ++ k ∷ []))
    go again completes = shorter [] (pending_from table [] w) (omega arith) (again [])
    go again passes = shorter [] (pending_from table [] w) (omega arith) (again [])
    go again cancels = shorter [] (pending_from table [] w) (omega arith) (again [])

-- and has no keys but those that were typed
pub pending_keys : (P : ℕ → Bool) (table : List Definition) (u w : List ℕ) → list_all P u ≡ true → list_all P w ≡ true → list_all P (pending_from table u w) ≡ true
pending_keys P table u [] a b = a
pending_keys P table u (k ∷ w) a b =
    let parts = and_parts (P k) (list_all P w) b in
    pending_keys P table (pending_after table u k) w (go parts.0 (effect table u k)) parts.1
  where
    go : P k ≡ true → (x : Effect) → list_all P (pending_by x u k) ≡ true
    go pk ignores = a
    go pk extends = with_last P u k a pk
    go pk completes = refl
    go pk passes = refl
    go pk cancels = refl

-- ---- runs that end with a key

run_snoc : (names : KeysymNames) (table : List Definition) (w : List ℕ) (k : ℕ)
    → map (λ s. s.text) (run names table (w ++ k ∷ [])) ≡ map (λ s. s.text) (run names table w) ++ (step names table (pending table w) k).text ∷ []
run_snoc names table w k =
    ap (map (λ (s : Step). s.text)) (steps_from-append names table [] w (k ∷ []))
    ∙ map_push (λ (s : Step). s.text) (run names table w) (step names table (pending table w) k)

pending_snoc : (table : List Definition) (w : List ℕ) (k : ℕ) → pending table (w ++ k ∷ []) ≡ pending_after table (pending table w) k
pending_snoc table w k = pending_from-append table [] w (k ∷ [])

silent_texts : (steps : List Step) → list_all (λ s. is_empty s.text) steps ≡ true → map (λ s. s.text) steps ≡ replicate (length steps) []
silent_texts [] h = refl
silent_texts (s ∷ steps) h =
    let parts = and_parts (is_empty s.text) (list_all (λ (x : Step). is_empty x.text) steps) h in
    ap (λ t. t ∷ map (λ (x : Step). x.text) steps) (empty_is s.text parts.0) ∙ ap (λ ts. [] ∷ ts) (silent_texts steps parts.1)

length_run : (names : KeysymNames) (table : List Definition) (u w : List ℕ) → length (steps_from names table u w) ≡ length w
length_run names table u [] = refl
length_run names table u (k ∷ w) = ap suc (length_run names table (pending_after table u k) w)

module _ (names : KeysymNames) (table : List Definition) (repertoire : Repertoire) where
  -- ---- a candidate types its character

  -- from what is pending without a text, the last key commits the character and nothing is left
  types_at : (p : List ℕ) (k c : ℕ) → IsReached table p → (step names table p k).text ≡ encode_utf8 c → pending_after table p k ≡ [] → Types names table (p ++ k ∷ []) c
  types_at p k c r t e = record {
    texts =
        run_snoc names table p k
        ∙ ap (λ ts. ts ++ (step names table (pending table p) k).text ∷ []) (silent_texts (run names table p) (r.silent names))
        ∙ ap (λ n. replicate n [] ++ (step names table (pending table p) k).text ∷ []) (length_run names table [] p ∙ (let n = length_snoc p k in omega arith))
        ∙ ap (λ x. replicate (length (p ++ k ∷ []) - 1) [] ++ x ∷ []) (ap (λ u. (step names table u k).text) r.again ∙ t);
    nothing_pending = pending_snoc table p k ∙ ap (λ u. pending_after table u k) r.again ∙ e;
  }

  plain_types : (c k : ℕ) → is_plain_key names table repertoire c k ≡ true → (is_key repertoire k ≡ true) × Types names table (k ∷ []) c
  plain_types c k h =
      let a = and_parts (is_key repertoire k && not (is_ignored k) && not (has_edge table [] k)) (spells c (text names k)) h in
      let b = and_parts (is_key repertoire k && not (is_ignored k)) (not (has_edge table [] k)) a.0 in
      let d = and_parts (is_key repertoire k) (not (is_ignored k)) b.0 in
      let none = or_parts (is_extended table (k ∷ [])) (is_sequence table (k ∷ [])) (sym (edge_extends table [] k) ∙ not-true (has_edge table [] k) b.1) in
      let e : effect table [] k ≡ passes = effect_is table [] k false false false true (not-true (is_ignored k) d.1) none.0 none.1 refl in
      (d.0, types_at [] k c (root_reached table) (ap (λ x. text_by x names table [] k) e ∙ sym (same_is (encode_utf8 c) (text names k) a.1)) (ap (λ x. pending_by x [] k) e))

  -- what a whole sequence is
  pub record Whole (c : ℕ) (w : List ℕ) : Type 0 where
    pub sequence : is_sequence table w ≡ true
    pub by_keys : are_keys repertoire w ≡ true
    pub text : text_at table w ≡ Some (encode_utf8 c)

  spelled : (c : ℕ) (o : Option (List ℕ)) → option_map_or (spells c) o false ≡ true → o ≡ Some (encode_utf8 c)
  spelled c None h = cc
  spelled c (Some t) h = ap Some (sym (same_is (encode_utf8 c) t h))

  -- a whole sequence for a character is a sequence of the table by keys of the repertoire whose
  -- text is the character
  pub whole_parts : (c : ℕ) (w : List ℕ) → is_whole table repertoire c w ≡ true → Whole c w
  whole_parts c w h =
      let a = and_parts (is_sequence table w && are_keys repertoire w) (option_map_or (spells c) (text_at table w) false) h in
      let b = and_parts (is_sequence table w) (are_keys repertoire w) a.0 in
      record { sequence = b.0; by_keys = b.1; text = spelled c (text_at table w) a.1 }

  -- a sequence by keys of the repertoire whose text is the character is a whole sequence for it
  pub whole_from : (c : ℕ) (w : List ℕ) → is_sequence table w ≡ true → are_keys repertoire w ≡ true → text_at table w ≡ Some (encode_utf8 c) → is_whole table repertoire c w ≡ true
  whole_from c w s k t =
      and_from (is_sequence table w && are_keys repertoire w) (option_map_or (spells c) (text_at table w) false) (and_from (is_sequence table w) (are_keys repertoire w) s k)
      (ap (λ o. option_map_or (spells c) o false) t ∙ same_from (encode_utf8 c) (encode_utf8 c) refl)

  module _ (sound : is_table table ≡ true) (free : is_prefix_free table ≡ true) where
    -- no sequence goes on from a sequence
    pub ends : (w : List ℕ) → is_sequence table w ≡ true → is_extended table w ≡ false
    ends w h =
        let d = both_at (λ (d : Definition). not (is_extended table d.sequence)) (λ d. same w d.sequence) table free h in
        ap (is_extended table) (same_is w d.0.sequence d.2) ∙ not-true (is_extended table d.0.sequence) d.1

    -- a sequence's keys before its last one are a node
    begun : (p : List ℕ) (k : ℕ) → is_sequence table (p ++ k ∷ []) ≡ true → is_extended table p ≡ true
    begun p k h = list_any-weaker (λ (d : Definition). same (p ++ k ∷ []) d.sequence) (λ d. is_proper_prefix p d.sequence)
        (λ d e. ap (is_proper_prefix p) (sym (same_is (p ++ k ∷ []) d.sequence e)) ∙ prefix_snoc p k) table h

    fed_last : (p : List ℕ) (k : ℕ) → is_sequence table (p ++ k ∷ []) ≡ true → is_ignored k ≡ false
    fed_last p k h =
        let d = both_at is_definition (λ (d : Definition). same (p ++ k ∷ []) d.sequence) table sound h in
        let keys : list_all (λ j. is_keysym j && not (is_ignored j)) (p ++ k ∷ []) ≡ true =
        ap (list_all (λ j. is_keysym j && not (is_ignored j))) (same_is (p ++ k ∷ []) d.0.sequence d.2) ∙ sequence_fed d.0 d.1 in
        not-true (is_ignored k) (and_parts (is_keysym k) (not (is_ignored k)) (last_of (λ j. is_keysym j && not (is_ignored j)) p k keys).1).1

    sequence_types : (c : ℕ) (p : List ℕ) (k : ℕ) → Whole c (p ++ k ∷ []) → Types names table (p ++ k ∷ []) c
    sequence_types c p k h =
        let r = node_reached table p sound (extended_is_node table p (begun p k h.sequence)) in
        let e : effect table p k ≡ completes = effect_is table p k false false true (is_empty p) (fed_last p k h.sequence) (ends (p ++ k ∷ []) h.sequence) h.sequence refl in
        types_at p k c r (ap (λ x. text_by x names table p k) e ∙ ap (λ o. unwrap_or o []) h.text) (ap (λ x. pending_by x p k) e)

    -- a sequence has keys
    pub nonempty : is_sequence table [] ≡ true → ⊥
    nonempty h =
        let d = both_at is_definition (λ (d : Definition). same [] d.sequence) table sound h in
        go d.0.sequence d.2
        (and_parts (nat_lt 0 (length d.0.sequence)) (nat_le (length d.0.sequence) 32)
        (and_parts (nat_lt 0 (length d.0.sequence) && nat_le (length d.0.sequence) 32) (list_all (λ j. is_keysym j && not (is_ignored j)) d.0.sequence)
        (and_parts (nat_lt 0 (length d.0.sequence) && nat_le (length d.0.sequence) 32 && list_all (λ j. is_keysym j && not (is_ignored j)) d.0.sequence)
        (nat_le (length d.0.text) 255) d.1).0).0).0
      where
        go : (s : List ℕ) → same [] s ≡ true → nat_lt 0 (length s) ≡ true → ⊥
        go [] e l = cc
        go (k ∷ s) e l = cc

    whole_types : (c : ℕ) (w : List ℕ) → Whole c w → Types names table w c
    whole_types c [] h = absurd (nonempty h.sequence)
    whole_types c (k ∷ w) h =
        let r = snoc k w in
        subst (λ (v : List ℕ). Types names table v c) (sym r.is) (sequence_types c r.prefix r.last (subst (λ (v : List ℕ). Whole c v) r.is h))

    plain_list_types : (c : ℕ) (w : List ℕ) → is_plain names table repertoire c w ≡ true → (are_keys repertoire w ≡ true) × Types names table w c
    plain_list_types c [] h = cc
    plain_list_types c (k ∷ []) h = let r = plain_types c k h in (and_from (is_key repertoire k) true r.0 refl, r.1)
    plain_list_types c (k ∷ j ∷ w) h = cc

    -- a candidate for a character has keys of the repertoire alone, and types the character
    pub candidate_types : (c : ℕ) (w : List ℕ) → is_candidate names table repertoire c w ≡ true → (are_keys repertoire w ≡ true) × Types names table w c
    candidate_types c w h = elim (or_cases (is_plain names table repertoire c w) (is_whole table repertoire c w) h) [
      | inl e ↦ plain_list_types c w e
      | inr e ↦ (let p = whole_parts c w e in (p.by_keys, whole_types c w p))
    ]

  -- ---- what types a character has a candidate that comes first or is it

  -- a candidate that is w, or is shorter
  abbrev pub Reduces : ℕ → List ℕ → Type 0
  Reduces c w = (v : List ℕ) × (is_candidate names table repertoire c v ≡ true) × ((v ≡ w) ⊎ (length v < length w))

  -- from the last key of what types the character
  at_last : (c : ℕ) (p : List ℕ) (k : ℕ) → are_keys repertoire (p ++ k ∷ []) ≡ true → (step names table (pending table p) k).text ≡ encode_utf8 c → pending_after table (pending table p) k ≡ []
      → Reduces c (p ++ k ∷ [])
  at_last c p k keys t nothing_pending = go (effect table (pending table p) k) refl
    where
      by : (are_keys repertoire p ≡ true) × (is_key repertoire k ≡ true)
      by = last_of (is_key repertoire) p k keys

      silent : (x : Effect) → effect table (pending table p) k ≡ x → text_by x names table (pending table p) k ≡ [] → ⊥
      silent x e s = never_silent c (sym s ∙ ap (λ y. text_by y names table (pending table p) k) (sym e) ∙ t)

      -- what is pending, and the key
      shorter : IsKept [] p (pending table p) → (pending table p ++ k ∷ [] ≡ p ++ k ∷ []) ⊎ (length (pending table p ++ k ∷ []) < length (p ++ k ∷ []))
      shorter (inl e) = inl (ap (λ v. v ++ k ∷ []) e)
      shorter (inr h) = inr (let a = length_snoc (pending table p) k in let b = length_snoc p k in omega arith)

      alone : (u : List ℕ) → u ≡ [] → (k ∷ [] ≡ p ++ k ∷ []) ⊎ (length (k ∷ []) < length (p ++ k ∷ []))
      alone u e = first p
        where
          first : (p : List ℕ) → (k ∷ [] ≡ p ++ k ∷ []) ⊎ (length (k ∷ []) < length (p ++ k ∷ []))
          first [] = inl refl
          first (j ∷ p) = inr (let b = length_snoc (j ∷ p) k in omega arith)

      at_rest : (u : List ℕ) → is_empty u ≡ true → u ≡ []
      at_rest [] e = refl
      at_rest (j ∷ u) e = cc

      known : (o : Option (List ℕ)) → unwrap_or o [] ≡ encode_utf8 c → o ≡ Some (encode_utf8 c)
      known None e = absurd (never_silent c e)
      known (Some x) e = ap Some e

      go : (x : Effect) → effect table (pending table p) k ≡ x → Reduces c (p ++ k ∷ [])
      go ignores e = absurd (silent ignores e refl)
      go extends e = absurd (silent extends e refl)
      go cancels e = absurd (silent cancels e refl)
      go completes e =
          let v : List ℕ = pending table p ++ k ∷ [] in
          let reported = effect_tests table (pending table p) k completes e in
          let text : text_at table v ≡ Some (encode_utf8 c) = known (text_at table v) (ap (λ y. text_by y names table (pending table p) k) (sym e) ∙ t) in
          let whole = whole_from c v reported.2 (with_last (is_key repertoire) (pending table p) k (pending_keys (is_key repertoire) table [] p refl by.0) by.1) text in
          (v, or_right (is_plain names table repertoire c v) (is_whole table repertoire c v) whole, shorter (pending_kept table [] p))
      go passes e =
          let reported = effect_tests table (pending table p) k passes e in
          let rest : pending table p ≡ [] = at_rest (pending table p) reported.3 in
          let none : has_edge table [] k ≡ false =
          ap (λ u. has_edge table u k) (sym rest) ∙ edge_extends table (pending table p) k
          ∙ or_from (is_extended table (pending table p ++ k ∷ [])) (is_sequence table (pending table p ++ k ∷ [])) reported.1 reported.2 in
          let spelled_so : spells c (text names k) ≡ true = same_from (encode_utf8 c) (text names k) (sym (ap (λ y. text_by y names table (pending table p) k) (sym e) ∙ t)) in
          let plain : is_plain_key names table repertoire c k ≡ true = and_from (is_key repertoire k && not (is_ignored k) && not (has_edge table [] k)) (spells c (text names k))
          (and_from (is_key repertoire k && not (is_ignored k)) (not (has_edge table [] k)) (and_from (is_key repertoire k) (not (is_ignored k)) by.1 (not_from_false (is_ignored k) reported.0))
          (not_from_false (has_edge table [] k) none)) spelled_so in
          (k ∷ [], or_left (is_plain names table repertoire c (k ∷ [])) (is_whole table repertoire c (k ∷ [])) plain, alone (pending table p) rest)

  -- whatever types a character by keys of the repertoire is a candidate, or has a shorter one
  pub reduced : (c : ℕ) (w : List ℕ) → are_keys repertoire w ≡ true → Types names table w c → Reduces c w
  reduced c [] keys t = absurd (never [] (replicate (length {A = ℕ} [] - 1) []) t.texts refl)
    where
      never : (xs ts : List (List ℕ)) → xs ≡ ts ++ encode_utf8 c ∷ [] → xs ≡ [] → ⊥
      never xs [] e n = cc
      never xs (y ∷ ts) e n = cc
  reduced c (j ∷ w) keys t = subst (Reduces c) (sym r.is) (at_last c r.prefix r.last (ap (are_keys repertoire) (sym r.is) ∙ keys) commits nothing_pending)
    where
      r : Snoc (j ∷ w)
      r = snoc j w

      all : map (λ s. s.text) (run names table r.prefix) ++ (step names table (pending table r.prefix) r.last).text ∷ [] ≡ replicate (length (j ∷ w) - 1) [] ++ encode_utf8 c ∷ []
      all = sym (run_snoc names table r.prefix r.last) ∙ ap (λ v. map (λ (s : Step). s.text) (run names table v)) (sym r.is) ∙ t.texts

      commits : (step names table (pending table r.prefix) r.last).text ≡ encode_utf8 c
      commits =
          (same_from_push (map (λ (s : Step). s.text) (run names table r.prefix)) (replicate (length (j ∷ w) - 1) []) (step names table (pending table r.prefix) r.last).text (encode_utf8 c) all).1

      nothing_pending : pending_after table (pending table r.prefix) r.last ≡ []
      nothing_pending = sym (pending_snoc table r.prefix r.last) ∙ ap (pending table) (sym r.is) ∙ t.nothing_pending

  -- ---- so the least candidate is the least typing

  -- in a prefix-free table the least candidate for a character is its least typing
  pub least_typing : is_table table ≡ true → is_prefix_free table ≡ true → (c : ℕ) (w : List ℕ) → IsLeastOf (is_candidate names table repertoire c) (Some w) → IsLeastTyping names table repertoire c w
  least_typing sound free c w l = record {
    by_keys = (candidate_types sound free c w l.0).0;
    types = (candidate_types sound free c w l.0).1;
    least = λ v keys t. (let r = reduced c v keys t in go v r.0 r.2 (l.1 r.0 r.1));
  }
    where
      go : (v x : List ℕ) → (x ≡ v) ⊎ (length x < length v) → (w ≡ x) ⊎ (comes_first w x ≡ true) → (w ≡ v) ⊎ (comes_first w v ≡ true)
      go v x (inl e) (inl a) = inl (a ∙ e)
      go v x (inl e) (inr b) = inr (ap (comes_first w) (sym e) ∙ b)
      go v x (inr h) (inl a) = inr (first_by_length w v (let n : length w ≡ length x = ap length a in omega arith))
      go v x (inr h) (inr b) = inr (first_then w x v b (first_by_length x v h))

  -- a character without a candidate is typed by no keys of the repertoire
  pub untyped : (c : ℕ) → IsLeastOf (is_candidate names table repertoire c) None → (w : List ℕ) → are_keys repertoire w ≡ true → Types names table w c → ⊥
  untyped c l w keys t = let r = reduced c w keys t in l r.0 r.1
