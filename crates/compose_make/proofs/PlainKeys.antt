-- Keys that type a character by themselves.
use Rattle.std.proofs.Common.{◌≡◌, ◌⊎◌, ℕ, ◌<◌, ◌≤◌, List, [], ◌∷◌, ◌++◌, Bool, true, false, cond, not, ◌&&◌, ◌||◌, refl, sym, ◌∙◌, ap, inl, inr, arith, Ordering, Less, Equal, Greater, nat_cmp}
use Rattle.std.specs.Prelude.{Option, Some, None, is_some, encode_utf8}
use Rattle.std.specs.Option.{option_map_or}
use Rattle.std.proofs.lemmas.Bool.{and_parts, cases_lt, cases_Bool}
use Rattle.std.proofs.lemmas.Map.Keys.{ge_from_not_lt}
use Rattle.std.proofs.lemmas.Map.Lookups.{exact_unsigned}
use Rattle.std.specs.Ordering.{is_lt}
use Rattle.keysym_core.specs.Names.{KeysymNames, text, character_of}
use Rattle.keysym_core.specs.Next.{IsNextOf, from_above}
use Rattle.keysym_core.specs.Keysym.{is_ignored}
use Rattle.compose_model.specs.Table.{Definition, is_sequence}
use Rattle.compose_model.specs.Nodes.{is_node, number_of, has_edge}
use Rattle.compose_model.specs.Certificate.{Repertoire, is_key}
use Rattle.compose_model.proofs.NodeLemmas.{same_is, same_from}
use Rattle.compose_tree.specs.declared.table.Target.TheVariants.{Node, Leaf}
use Rattle.compose_tree.specs.Targets.{target_of, leaf_number}
use Rattle.compose_walk.specs.Evidence.{comes_first}
use Rattle.compose_make.specs.Candidates.{spells, is_plain, is_plain_key, IsLeastOf}
use Rattle.compose_walk.proofs.FirstOrder.{first_by_order}
use Rattle.compose_make.proofs.Reduction.{never_silent}
use Rattle.compose_make.proofs.Rows.{encodes_one}

-- a key has a target exactly if it has an edge
pub some_target : (table : List Definition) (p : List ℕ) (k : ℕ) → is_some (target_of table p k) ≡ has_edge table p k
some_target table p k = go (is_node table (p ++ k ∷ [])) (is_sequence table (p ++ k ∷ []))
  where
    go : (a b : Bool) → is_some (cond a (Some (Node (record { 0 = number_of table (p ++ k ∷ []) }))) (cond b (Some (Leaf (record { 0 = leaf_number table (p ++ k ∷ []) }))) None)) ≡ a || b
    go true b = refl
    go false true = refl
    go false false = refl

-- if the first of three tests holds and the second fails, the first without the other two holds
-- exactly if the third fails
pub plain_test : (a b e r : Bool) → a ≡ true → b ≡ false → e ≡ not r → r ≡ a && not b && not e
plain_test true false true true ha hb hr = cc
plain_test true false true false ha hb hr = refl
plain_test true false false true ha hb hr = refl
plain_test true false false false ha hb hr = cc
plain_test false b e r ha hb hr = cc
plain_test true true e r ha hb hr = cc

-- of single keys the lesser one comes first
lesser_first : (k j : ℕ) → k ≤ j → (k ∷ [] ≡ j ∷ []) ⊎ (comes_first (k ∷ []) (j ∷ []) ≡ true)
lesser_first k j le = go (nat_cmp k j) refl
  where
    go : (o : Ordering) → nat_cmp k j ≡ o → (k ∷ [] ≡ j ∷ []) ⊎ (comes_first (k ∷ []) (j ∷ []) ≡ true)
    go Less e = inr (first_by_order (k ∷ []) (j ∷ []) refl (rw e refl))
    go Equal e = inl (ap (λ x. x ∷ []) (exact_unsigned k j e))
    go Greater e = inl (let ge : j ≤ k = ge_from_not_lt k j (ap is_lt e) in ap (λ x. x ∷ []) (let is : k ≡ j = omega arith in is))

module _ (names : KeysymNames) (table : List Definition) (repertoire : Repertoire) (c : ℕ) where
  -- the keysym's own text is the character
  spelled_by : (k : ℕ) → spells c (text names k) ≡ true → character_of names k ≡ Some c
  spelled_by k h = go (character_of names k) (same_is (encode_utf8 c) (option_map_or encode_utf8 (character_of names k) []) h)
    where
      go : (o : Option ℕ) → encode_utf8 c ≡ option_map_or encode_utf8 o [] → o ≡ Some c
      go None e = absurd (never_silent c (sym e))
      go (Some d) e = ap Some (sym (encodes_one c d e))

  plain_character : (k : ℕ) → is_plain_key names table repertoire c k ≡ true → character_of names k ≡ Some c
  plain_character k h = spelled_by k (and_parts (is_key repertoire k && not (is_ignored k) && not (has_edge table [] k)) (spells c (text names k)) h).1

  -- if no keysym of the character is left, none is plain
  pub none_plain : (after : Option ℕ) → IsNextOf names c after None → ((k : ℕ) → k < from_above after → is_plain_key names table repertoire c k ≡ false)
      → IsLeastOf (is_plain names table repertoire c) None
  none_plain after n passed [] h = cc
  none_plain after n passed (k ∷ []) h = elim (cases_lt k (from_above after)) [
    | inl l ↦ (let clash : true ≡ false = sym h ∙ passed k l in absurd (let e : ⊥ = cc in e))
    | inr l ↦ n k l (plain_character k h)
  ]
  none_plain after n passed (k ∷ j ∷ v) h = cc

  -- the next one, if it is plain, is the least
  pub next_plain : (after : Option ℕ) (k : ℕ) → IsNextOf names c after (Some k) → ((j : ℕ) → j < from_above after → is_plain_key names table repertoire c j ≡ false)
      → (is_key repertoire k && not (is_ignored k) && not (has_edge table [] k)) ≡ true
      → IsLeastOf (is_plain names table repertoire c) (Some (k ∷ []))
  next_plain after k n passed h = (plain_now, first)
    where
      plain_now : is_plain_key names table repertoire c k ≡ true
      plain_now = ap (λ b. b && spells c (text names k)) h ∙ same_from (encode_utf8 c) (text names k) (sym (ap (λ o. option_map_or encode_utf8 o []) n.1))

      first : (v : List ℕ) → is_plain names table repertoire c v ≡ true → (k ∷ [] ≡ v) ⊎ (comes_first (k ∷ []) v ≡ true)
      first [] e = cc
      first (j ∷ []) e = elim (cases_lt j (from_above after)) [
        | inl l ↦ absurd (let clash : true ≡ false = sym e ∙ passed j l in cc)
        | inr l ↦ lesser_first k j (n.2 j l (plain_character j e))
      ]
      first (j ∷ i ∷ v) e = cc

  -- the next one, if it is not plain, is skipped
  pub next_passed : (after : Option ℕ) (k : ℕ) → IsNextOf names c after (Some k) → ((j : ℕ) → j < from_above after → is_plain_key names table repertoire c j ≡ false)
      → (is_key repertoire k && not (is_ignored k) && not (has_edge table [] k)) ≡ false
      → (j : ℕ) → j < from_above (Some k) → is_plain_key names table repertoire c j ≡ false
  next_passed after k n passed h j l = elim (cases_lt j (from_above after)) [
    | inl b ↦ passed j b
    | inr b ↦ elim (cases_Bool (is_plain_key names table repertoire c j)) [
      | inr e ↦ e
      | inl e ↦ absurd (
          let le : k ≤ j = n.2 j b (plain_character j e) in
          let is : k ≡ j = omega arith in
          let reported : (is_key repertoire j && not (is_ignored j) && not (has_edge table [] j)) ≡ true =
          (and_parts (is_key repertoire j && not (is_ignored j) && not (has_edge table [] j)) (spells c (text names j)) e).0 in
          let clash : true ≡ false = sym reported ∙ ap (λ i. is_key repertoire i && not (is_ignored i) && not (has_edge table [] i)) (sym is) ∙ h in cc)
    ]
  ]
