-- What is made keeps to the limits of a certificate, and is valid.
use Rattle.std.proofs.Common.{◌≡◌, ℕ, ◌<◌, ◌≤◌, List, [], ◌∷◌, true, ◌&&◌, length, refl, sym, ◌∙◌, ap, inl, inr, arith}
use Rattle.std.specs.Prelude.{Option, Some, None, Result, Ok, Err, nat_lt, nat_le, encode_utf8}
use Rattle.std.specs.List.{list_all, AllByRecursion}
use Rattle.std.proofs.lemmas.List.{length-map}
use Rattle.std.proofs.lemmas.Bool.{and_from, or_cases, le-leb, cases_lt}
use Rattle.std.proofs.Common.{lt-ltb, replicate, ◌-◌, ◌++◌}
use Rattle.keysym_core.specs.Names.{KeysymNames}
use Rattle.compose_model.specs.Table.{Definition, same, is_definition}
use Rattle.compose_model.specs.Follows.{Types}
use Rattle.compose_model.specs.Certificate.{Repertoire, Typing, AreFresh, is_key}
use Rattle.compose_model.proofs.Tests.{both_at}
use Rattle.compose_model.proofs.NodeLemmas.{same_is}
use Rattle.compose_read.specs.Settle.{IsSettled}
use Rattle.compose_cert.specs.Repertoire.{IsRepertoire}
use Rattle.compose_cert.specs.Spelling.{max_count, are_counted, is_typed}
use Rattle.compose_model.proofs.Definitions.{sequence_few}
use Rattle.compose_model.specs.Nodes.{nodes, number_of}
use Rattle.compose_model.specs.Step.{pending}
use Rattle.compose_fresh.specs.declared.fault.CheckFault.{CheckFault}
use Rattle.compose_fresh.specs.Conditions.{first_unmet}
use Rattle.compose_fresh.specs.Fresh.{fresh_conditions}
use Rattle.compose_walk.specs.declared.fault.MakeFault.{MakeFault}
use Rattle.compose_walk.specs.declared.fault.MakeFault.TheVariants.{BadFresh, TooManyFresh}
use Rattle.compose_walk.specs.Walks.{IsFollower}
use Rattle.compose_make.specs.Least.{are_keys, IsLeastTyping, AreLeastTypings}
use Rattle.compose_make.specs.Candidates.{is_plain, is_whole}
use Rattle.compose_make.proofs.Reduction.{is_candidate, reduced, candidate_types, whole_parts}
use Rattle.compose_make.specs.Depth.{IsGreatestDepth}
use Rattle.compose_make.specs.IsMade.{IsMadeFor}
use Rattle.compose_walk.proofs.FirstOrder.{FirstParts, first_parts}

module _ (names : KeysymNames) (table : List Definition) (repertoire : Repertoire) (s : IsSettled table) where
  -- a candidate has at most 32 keys
  candidate_few : (c : ℕ) (v : List ℕ) → is_candidate names table repertoire c v ≡ true → length v ≤ 32
  candidate_few c v h = elim (or_cases (is_plain names table repertoire c v) (is_whole table repertoire c v) h) [
    | inl e ↦ plain_few v e
    | inr e ↦ (
        let d = both_at is_definition (λ (d : Definition). same v d.sequence) table s.definitions (whole_parts names table repertoire c v e).sequence in
        let is : length v ≡ length d.0.sequence = ap length (same_is v d.0.sequence d.2) in
        let l = sequence_few d.0 d.1 in omega arith)
  ]
    where
      plain_few : (v : List ℕ) → is_plain names table repertoire c v ≡ true → length v ≤ 32
      plain_few [] e = cc
      plain_few (k ∷ []) e = omega arith
      plain_few (k ∷ j ∷ v) e = cc

  -- and so has a least typing
  least_few : (c : ℕ) (w : List ℕ) → IsLeastTyping names table repertoire c w → length w ≤ 32
  least_few c w l =
      let r = reduced names table repertoire c w l.by_keys l.types in
      let t = candidate_types names table repertoire s.definitions s.prefix_free c r.0 r.1 in
      let few : length r.0 ≤ 32 = candidate_few c r.0 r.1 in
      elim (l.least r.0 t.0 t.1) [
        | inl e ↦ (let is : length w ≡ length r.0 = ap length e in omega arith)
        | inr e ↦ by r.0 few (first_parts w r.0 e)
      ]
    where
      by : (v : List ℕ) → length v ≤ 32 → FirstParts w v → length w ≤ 32
      by v few (inl h) = omega arith
      by v few (inr h) = (let is = h.0 in omega arith)

  some_key : (c : ℕ) (w : List ℕ) → Types names table w c → 0 < length w
  some_key c (k ∷ w) t = omega arith
  some_key c [] t = absurd (never [] (replicate (length {A = ℕ} [] - 1) []) t.texts refl)
    where
      never : (xs ts : List (List ℕ)) → xs ≡ ts ++ encode_utf8 c ∷ [] → xs ≡ [] → ⊥
      never xs [] e n = cc
      never xs (y ∷ ts) e n = cc

  typed : (ts : List Typing) → AllByRecursion (λ t. IsLeastTyping names table repertoire t.character t.keys) ts → list_all is_typed ts ≡ true
  typed [] a = refl
  typed (t ∷ ts) a = and_from (is_typed t) (list_all is_typed ts)
      (and_from (nat_lt 0 (length t.keys)) (nat_le (length t.keys) max_count) (lt-ltb 0 (length t.keys) (some_key t.character t.keys a.0.types))
      (le-leb (length t.keys) max_count (let l = least_few t.character t.keys a.0 in omega arith))) (typed ts a.1)

  -- the typings keep to the limits
  pub counted : (pairs : List (ℕ × ℕ)) (ts : List Typing) → length pairs ≤ 1048576 → IsRepertoire repertoire → AreLeastTypings names table repertoire ts → are_counted pairs ts ≡ true
  counted pairs ts few r a =
      let n : length ts ≡ length repertoire.characters = sym (length-map ts (λ (t : Typing). t.character)) ∙ ap length a.characters in
      let m : length repertoire.characters ≤ 65536 = r.few in
      and_from (nat_le (length pairs) max_count && nat_le (length ts) max_count) (list_all is_typed ts)
      (and_from (nat_le (length pairs) max_count) (nat_le (length ts) max_count) (le-leb (length pairs) max_count few) (le-leb (length ts) max_count (omega arith))) (typed ts a.least)

  by_keys_all : (ts : List Typing) → AllByRecursion (λ t. IsLeastTyping names table repertoire t.character t.keys) ts → list_all (λ t. list_all (is_key repertoire) t.keys) ts ≡ true
  by_keys_all [] a = refl
  by_keys_all (t ∷ ts) a = and_from (are_keys repertoire t.keys) (list_all (λ (x : Typing). list_all (is_key repertoire) x.keys) ts) a.0.by_keys (by_keys_all ts a.1)

  right_all : (ts : List Typing) → AllByRecursion (λ t. IsLeastTyping names table repertoire t.character t.keys) ts → AllByRecursion (λ t. Types names table t.keys t.character) ts
  right_all [] a = tt
  right_all (t ∷ ts) a = (a.0.types, right_all ts a.1)

  -- what is made is valid
  pub made : (fresh : List ℕ) (old : List Definition) (pairs : List (ℕ × ℕ)) (ts : List Typing) (depth : ℕ) → AreFresh fresh old → IsFollower names fresh old table pairs
      → AreLeastTypings names table repertoire ts → IsGreatestDepth table depth
      → IsMadeFor names fresh old table repertoire (record { bound = depth; pairs = pairs; typings = ts; fresh = fresh })
  made fresh old pairs ts depth f w a d = record {
    follows = w.follows;
    valid = record {
      simulates = w.simulates;
      bounded = d.bounds;
      types = record { characters = a.characters; by_keys = by_keys_all ts a.least; right = right_all ts a.least };
      fresh = f;
    };
    pairs = w.pairs_are;
    bound = d;
    typings = a;
    fresh_keys = refl;
  }

-- what was walked was accepted
pub accepted : {X : Type 0} (old : List Definition) (fresh : List ℕ) (r : Result X MakeFault) (x : X) → r ≡ Ok x
    → ((fault : CheckFault) → first_unmet (fresh_conditions old fresh) ≡ Some fault → r ≡ Err (BadFresh fault))
    → (first_unmet (fresh_conditions old fresh) ≡ None → 1048576 < length fresh → r ≡ Err TooManyFresh) → (first_unmet (fresh_conditions old fresh) ≡ None) × (length fresh ≤ 1048576)
accepted old fresh r x ok bad many = go (first_unmet (fresh_conditions old fresh)) refl
  where
    go : (o : Option CheckFault) → first_unmet (fresh_conditions old fresh) ≡ o → (first_unmet (fresh_conditions old fresh) ≡ None) × (length fresh ≤ 1048576)
    go (Some fault) e = let clash : Ok x ≡ Err (BadFresh fault) = sym ok ∙ bad fault e in cc
    go None e = (e, elim (cases_lt 1048576 (length fresh)) [ inl l ↦ absurd (let clash : Ok x ≡ Err TooManyFresh = sym ok ∙ many e l in cc) | inr l ↦ l ])

-- a table has no more pairs than nodes
pub pairs_few : (names : KeysymNames) (fresh : List ℕ) (old new : List Definition) (pairs : List (ℕ × ℕ)) → IsFollower names fresh old new pairs → length (nodes old) ≤ 1048576 → length pairs ≤ 1048576
pairs_few names fresh old new pairs f l =
    let n : length pairs ≡ length (nodes old) = ap length f.pairs_are ∙ length-map (nodes old) (λ p. (number_of old p, number_of new (pending new p))) in omega arith

-- an option holds one thing
pub opened : {X : Type 0} (o : Option X) (x y : X) → o ≡ Some x → o ≡ Some y → x ≡ y
opened o x y e f = let both : Some x ≡ Some y = sym e ∙ f in cc
