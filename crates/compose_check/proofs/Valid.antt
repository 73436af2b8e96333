-- No condition fails exactly if the certificate is valid.
use Rattle.std.proofs.Common.{◌≡◌, ℕ, ◌+◌, ◌-◌, List, [], ◌∷◌, ◌++◌, Bool, true, false, cond, not, ◌&&◌, length, map, replicate, refl, sym, ◌∙◌, ap, ap₂, arith, ltb-false, le-ltb}
use Rattle.std.specs.Prelude.{nat_lt, nat_le, flat_map, None, encode_utf8}
use Rattle.std.specs.List.{list_all, AllByRecursion}
use Rattle.std.specs.Cmp.Lexicographic.{pointwise}
use Rattle.std.proofs.lemmas.Bool.{and_parts, and_from}
use Rattle.std.proofs.lemmas.List.Folds.{list_all-append, list_all-map}
use Rattle.keysym_core.specs.Names.{KeysymNames}
use Rattle.compose_model.specs.Table.{Definition, same}
use Rattle.compose_model.specs.Step.{step, is_cancel, is_empty, run, pending}
use Rattle.compose_model.specs.Follows.{Types}
use Rattle.compose_model.specs.Nodes.{nodes, node, number_of, edges}
use Rattle.compose_model.specs.Certificate.{Certificate, Repertoire, Typing, IsValid, is_key, pairs_rise, pairs_in_range, has_pair, rest_is_kept, edge_is_kept, new_starts_type_themselves}
use Rattle.compose_model.proofs.NodeLemmas.{same_is, same_from}
use Rattle.compose_fresh.specs.declared.fault.CheckFault.TheVariants.{TypingWrong}
use Rattle.compose_fresh.specs.Conditions.{Condition}
use Rattle.compose_fresh.specs.Fresh.{fresh_conditions}
use Rattle.compose_check.specs.Conditions.{pair_conditions, start_condition, start_conditions, one_edge_conditions, edge_conditions, edge_conditions_from, bound_conditions, bound_conditions_from, types, is_right, typing_conditions, conditions, fault_of}
use Rattle.compose_fresh.proofs.Unmet.{all_met, met_from_none, none_from_met, all_met-flat_map}
use Rattle.compose_fresh.proofs.FreshKeysyms.{are_fresh, fresh_is_met}

-- ---- the meaning of each group

starts_are : (names : KeysymNames) (fresh : List ℕ) (old new : List Definition) → all_met (start_conditions names fresh old new) ≡ new_starts_type_themselves names fresh old new
starts_are names fresh old new = list_all-map (λ (d : Condition). d.met) (start_condition names fresh old new) (edges new [])

module _ (names : KeysymNames) (old new : List Definition) (pairs : List (ℕ × ℕ)) where
  three : (a b c : Bool) → a && (b && (c && true)) ≡ (a && b) && c
  three true true true = refl
  three true true false = refl
  three true false c = refl
  three false b c = refl

  edge_is : (index : ℕ) (u v : List ℕ) (k : ℕ) → all_met (one_edge_conditions names old new pairs index u v k) ≡ edge_is_kept names old new pairs u v k
  edge_is index u v k =
      three (not (is_cancel (step names new v k).effect)) (same (step names new v k).text (step names old u k).text)
      (has_pair pairs (number_of old (step names old u k).pending) (number_of new (step names new v k).pending))

  edges_from : (index : ℕ) (ps : List (ℕ × ℕ))
      → all_met (edge_conditions_from names old new pairs index ps) ≡ list_all (λ p. list_all (edge_is_kept names old new pairs (node old p.0) (node new p.1)) (edges old (node old p.0))) ps
  edges_from index [] = refl
  edges_from index (p ∷ ps) =
      let here = flat_map (one_edge_conditions names old new pairs index (node old p.0) (node new p.1)) (edges old (node old p.0)) in
      list_all-append (λ (d : Condition). d.met) here (edge_conditions_from names old new pairs (1 + index) ps)
      ∙ ap₂ ◌&&◌
      (all_met-flat_map (one_edge_conditions names old new pairs index (node old p.0) (node new p.1)) (edges old (node old p.0))
      ∙ (λ i. list_all (λ k. edge_is index (node old p.0) (node new p.1) k i) (edges old (node old p.0))))
      (edges_from (1 + index) ps)

bounds_from : (bound index : ℕ) (ps : List (List ℕ)) → all_met (bound_conditions_from bound index ps) ≡ list_all (λ p. nat_le (length p) bound) ps
bounds_from bound index [] = refl
bounds_from bound index (p ∷ ps) = ap (λ b. nat_le (length p) bound && b) (bounds_from bound (1 + index) ps)

-- ---- typings

lists_are : (xs ys : List (List ℕ)) → pointwise same xs ys ≡ true → xs ≡ ys
lists_are [] [] h = refl
lists_are [] (y ∷ ys) h = cc
lists_are (x ∷ xs) [] h = cc
lists_are (x ∷ xs) (y ∷ ys) h = let both = and_parts (same x y) (pointwise same xs ys) h in ap₂ ◌∷◌ (same_is x y both.0) (lists_are xs ys both.1)

lists_from : (xs : List (List ℕ)) → pointwise same xs xs ≡ true
lists_from [] = refl
lists_from (x ∷ xs) = and_from (same x x) (pointwise same xs xs) (same_from x x refl) (lists_from xs)

empty_is : (u : List ℕ) → is_empty u ≡ true → u ≡ []
empty_is [] h = refl
empty_is (k ∷ u) h = cc

module _ (names : KeysymNames) (new : List Definition) where
  typed : List ℕ → List (List ℕ)
  typed w = map (λ s. s.text) (run names new w)

  wanted : List ℕ → ℕ → List (List ℕ)
  wanted w c = replicate (length w - 1) [] ++ encode_utf8 c ∷ []

  types_from_test : (w : List ℕ) (c : ℕ) → types names new w c ≡ true → Types names new w c
  unfolding typed wanted
  types_from_test w c h =
      let both = and_parts (pointwise same (typed w) (wanted w c)) (is_empty (pending new w)) h in record { texts = lists_are (typed w) (wanted w c) both.0; nothing_pending = empty_is (pending new w) both.1 }

  test_from_types : (w : List ℕ) (c : ℕ) → Types names new w c → types names new w c ≡ true
  unfolding typed wanted
  test_from_types w c t = and_from (pointwise same (typed w) (wanted w c)) (is_empty (pending new w)) (ap (pointwise same (typed w)) (sym t.texts) ∙ lists_from (typed w)) (ap is_empty t.nothing_pending)

  module _ (repertoire : Repertoire) where
    -- the meaning of the conditions on the typings of these characters
    record AreTyped (chars : List ℕ) (ts : List Typing) : Type 0 where
      pub characters : map (λ (t : Typing). t.character) ts ≡ chars
      pub by_keys : list_all (λ (t : Typing). list_all (is_key repertoire) t.keys) ts ≡ true
      pub right : AllByRecursion (λ (t : Typing). Types names new t.keys t.character) ts

    typed_from_met : (chars : List ℕ) (ts : List Typing) → all_met (typing_conditions names new repertoire chars ts) ≡ true → AreTyped chars ts
    typed_from_met [] [] h = record { characters = refl; by_keys = refl; right = tt }
    typed_from_met [] (t ∷ ts) h = cc
    typed_from_met (c ∷ cs) [] h = cc
    typed_from_met (c ∷ cs) (t ∷ ts) h = go (nat_lt t.character c) (nat_lt c t.character) refl refl h (typed_from_met cs ts)
      where
        go : (low high : Bool) → nat_lt t.character c ≡ low → nat_lt c t.character ≡ high
            → all_met
            (cond low (typing_conditions names new repertoire [] (t ∷ ts))
            (cond high (typing_conditions names new repertoire (c ∷ cs) [])
            (record { met = is_right names new repertoire t; fault = TypingWrong c } ∷ typing_conditions names new repertoire cs ts))) ≡ true
            → (all_met (typing_conditions names new repertoire cs ts) ≡ true → AreTyped cs ts) → AreTyped (c ∷ cs) (t ∷ ts)
        go true high e f h later = cc
        go false true e f h later = cc
        go false false e f h later =
            let parts = and_parts (is_right names new repertoire t) (all_met (typing_conditions names new repertoire cs ts)) h in
            let right = and_parts (list_all (is_key repertoire) t.keys) (types names new t.keys t.character) parts.0 in
            let rest = later parts.1 in
            let same_character : t.character ≡ c = omega (arith, ltb-false t.character c e, ltb-false c t.character f) in
            record {
              characters = ap₂ ◌∷◌ same_character rest.characters;
              by_keys = and_from (list_all (is_key repertoire) t.keys) (list_all (λ (t : Typing). list_all (is_key repertoire) t.keys) ts) right.0 rest.by_keys;
              right = (types_from_test t.keys t.character right.1, rest.right);
            }

    met_from_typed : (chars : List ℕ) (ts : List Typing) → AreTyped chars ts → all_met (typing_conditions names new repertoire chars ts) ≡ true
    met_from_typed [] [] a = refl
    met_from_typed [] (t ∷ ts) a = absurd (let clash = a.characters in cc)
    met_from_typed (c ∷ cs) [] a = absurd (let clash = a.characters in cc)
    met_from_typed (c ∷ cs) (t ∷ ts) a = go (nat_lt t.character c) (nat_lt c t.character) (le-ltb t.character c (omega (arith, same_character))) (le-ltb c t.character (omega (arith, same_character)))
        (and_from (is_right names new repertoire t) (all_met (typing_conditions names new repertoire cs ts))
        (and_from (list_all (is_key repertoire) t.keys) (types names new t.keys t.character) keys.0 (test_from_types t.keys t.character a.right.0))
        (met_from_typed cs ts (record { characters = rest; by_keys = keys.1; right = a.right.1 })))
      where
        same_character : t.character ≡ c
        same_character = let e = a.characters in cc

        rest : map (λ (t : Typing). t.character) ts ≡ cs
        rest = let e = a.characters in cc

        keys : (list_all (is_key repertoire) t.keys ≡ true) × (list_all (λ (t : Typing). list_all (is_key repertoire) t.keys) ts ≡ true)
        keys = and_parts (list_all (is_key repertoire) t.keys) (list_all (λ (t : Typing). list_all (is_key repertoire) t.keys) ts) a.by_keys

        go : (low high : Bool) → low ≡ false → high ≡ false → is_right names new repertoire t && all_met (typing_conditions names new repertoire cs ts) ≡ true
            → all_met
            (cond low (typing_conditions names new repertoire [] (t ∷ ts))
            (cond high (typing_conditions names new repertoire (c ∷ cs) [])
            (record { met = is_right names new repertoire t; fault = TypingWrong c } ∷ typing_conditions names new repertoire cs ts))) ≡ true
        go true high e f h = cc
        go false true e f h = cc
        go false false e f h = h

-- ---- all of them

module _ (names : KeysymNames) (old new : List Definition) (repertoire : Repertoire) (c : Certificate) where
  abbrev pairs : List Condition
  pairs = pair_conditions old new c.pairs

  abbrev fresh : List Condition
  fresh = fresh_conditions old c.fresh

  abbrev starts : List Condition
  starts = start_conditions names c.fresh old new

  abbrev kept : List Condition
  kept = edge_conditions names old new c.pairs

  abbrev bound : List Condition
  bound = bound_conditions new c.bound

  abbrev typings : List Condition
  typings = typing_conditions names new repertoire repertoire.characters c.typings

  all_are : all_met (conditions names old new repertoire c) ≡ all_met pairs && (all_met fresh && (all_met starts && (all_met kept && (all_met bound && all_met typings))))
  all_are =
      list_all-append (λ (d : Condition). d.met) pairs (fresh ++ (starts ++ (kept ++ (bound ++ typings))))
      ∙ ap (λ b. all_met pairs && b) (list_all-append (λ (d : Condition). d.met) fresh (starts ++ (kept ++ (bound ++ typings)))
      ∙ ap (λ b. all_met fresh && b) (list_all-append (λ (d : Condition). d.met) starts (kept ++ (bound ++ typings))
      ∙ ap (λ b. all_met starts && b) (list_all-append (λ (d : Condition). d.met) kept (bound ++ typings)
      ∙ ap (λ b. all_met kept && b) (list_all-append (λ (d : Condition). d.met) bound typings))))

  -- a certificate for which no condition fails is valid
  pub valid_from_none : fault_of names old new repertoire c ≡ None → IsValid names old new repertoire c
  valid_from_none h =
      let all = sym all_are ∙ met_from_none (conditions names old new repertoire c) h in
      let of_pairs = and_parts (all_met pairs) (all_met fresh && (all_met starts && (all_met kept && (all_met bound && all_met typings)))) all in
      let of_fresh = and_parts (all_met fresh) (all_met starts && (all_met kept && (all_met bound && all_met typings))) of_pairs.1 in
      let of_starts = and_parts (all_met starts) (all_met kept && (all_met bound && all_met typings)) of_fresh.1 in
      let of_kept = and_parts (all_met kept) (all_met bound && all_met typings) of_starts.1 in
      let of_bound = and_parts (all_met bound) (all_met typings) of_kept.1 in
      let rise = and_parts (pairs_rise c.pairs) (pairs_in_range old new c.pairs && (has_pair c.pairs 0 0 && (rest_is_kept c.pairs && true))) of_pairs.0 in
      let in_range = and_parts (pairs_in_range old new c.pairs) (has_pair c.pairs 0 0 && (rest_is_kept c.pairs && true)) rise.1 in
      let roots = and_parts (has_pair c.pairs 0 0) (rest_is_kept c.pairs && true) in_range.1 in
      let typed = typed_from_met names new repertoire repertoire.characters c.typings of_bound.1 in
      record {
        simulates = record {
          rise = rise.0;
          in_range = in_range.0;
          roots = roots.0;
          rest_kept = (and_parts (rest_is_kept c.pairs) true roots.1).0;
          new_starts = sym (starts_are names c.fresh old new) ∙ of_starts.0;
          edges_kept = sym (edges_from names old new c.pairs 0 c.pairs) ∙ of_kept.0;
        };
        bounded = sym (bounds_from c.bound 0 (nodes new)) ∙ of_bound.0;
        types = record { characters = typed.characters; by_keys = typed.by_keys; right = typed.right };
        fresh = are_fresh old c.fresh (none_from_met fresh of_fresh.0);
      }

  -- for a valid certificate no condition fails
  pub none_from_valid : IsValid names old new repertoire c → fault_of names old new repertoire c ≡ None
  none_from_valid v =
      none_from_met (conditions names old new repertoire c) (all_are
      ∙ and_from (all_met pairs) (all_met fresh && (all_met starts && (all_met kept && (all_met bound && all_met typings))))
      (and_from (pairs_rise c.pairs) (pairs_in_range old new c.pairs && (has_pair c.pairs 0 0 && (rest_is_kept c.pairs && true))) v.simulates.rise
      (and_from (pairs_in_range old new c.pairs) (has_pair c.pairs 0 0 && (rest_is_kept c.pairs && true)) v.simulates.in_range
      (and_from (has_pair c.pairs 0 0) (rest_is_kept c.pairs && true) v.simulates.roots (and_from (rest_is_kept c.pairs) true v.simulates.rest_kept refl))))
      (and_from (all_met fresh) (all_met starts && (all_met kept && (all_met bound && all_met typings))) (met_from_none fresh (fresh_is_met old c.fresh v.fresh))
      (and_from (all_met starts) (all_met kept && (all_met bound && all_met typings)) (starts_are names c.fresh old new ∙ v.simulates.new_starts)
      (and_from (all_met kept) (all_met bound && all_met typings) (edges_from names old new c.pairs 0 c.pairs ∙ v.simulates.edges_kept)
      (and_from (all_met bound) (all_met typings) (bounds_from c.bound 0 (nodes new) ∙ v.bounded)
      (met_from_typed names new repertoire repertoire.characters c.typings (record { characters = v.types.characters; by_keys = v.types.by_keys; right = v.types.right })))))))
