-- The characters of the rows that have no keys, once the rows are the least of all candidates.
use Rattle.std.proofs.Common.{◌≡◌, ℕ, ◌<◌, List, [], ◌∷◌, Bool, true, false, cond, not, refl, sym, ◌∙◌, ap, subst, inl, inr, arith, eqb-true, ltb-true, lt-ltb}
use Rattle.std.specs.Prelude.{Option, Some, None, Result, Ok, Err, IfOk, ◌==◌, nat_lt, is_some}
use Rattle.std.proofs.lemmas.Bool.{and_parts, and_from, or_cases, or_left, or_right, or_parts}
use Rattle.keysym_core.specs.Names.{KeysymNames}
use Rattle.compose_model.specs.Table.{Definition, has_key}
use Rattle.compose_model.specs.Certificate.{Repertoire, keys_rise}
use Rattle.compose_read.specs.Settle.{IsSettled}
use Rattle.compose_fresh.proofs.Positions.{rises_tail}
use Rattle.compose_make.specs.Least.{AreUntypable}
use Rattle.compose_make.specs.Candidates.{IsLeastOf}
use Rattle.compose_make.specs.Wanted.{WantedCharacter, AreLeast, characters_of, all_missing}
use Rattle.compose_make.proofs.Reduction.{is_candidate, least_typing, untyped}

-- ---- they rise as all characters do

-- without its second element a rising list still rises
rises_without : (x y : ℕ) (ys : List ℕ) → keys_rise (x ∷ y ∷ ys) ≡ true → keys_rise (x ∷ ys) ≡ true
rises_without x y [] r = refl
rises_without x y (z ∷ ys) r =
    let first = and_parts (nat_lt x y) (keys_rise (y ∷ z ∷ ys)) r in
    let second = and_parts (nat_lt y z) (keys_rise (z ∷ ys)) first.1 in
    let a : x < y = ltb-true x y first.0 in
    let b : y < z = ltb-true y z second.0 in
    and_from (nat_lt x z) (keys_rise (z ∷ ys)) (lt-ltb x z (omega arith)) second.1

missing_from : (x : ℕ) (rows : List WantedCharacter) → keys_rise (x ∷ characters_of rows) ≡ true → keys_rise (x ∷ all_missing rows) ≡ true
missing_from x [] r = refl
missing_from x (row ∷ rows) r =
    let parts = and_parts (nat_lt x row.character) (keys_rise (row.character ∷ characters_of rows)) r in
    go row.keys (missing_from x rows (rises_without x row.character (characters_of rows) r)) parts.0 (missing_from row.character rows parts.1)
  where
    go : (o : Option (List ℕ)) → keys_rise (x ∷ all_missing rows) ≡ true → nat_lt x row.character ≡ true → keys_rise (row.character ∷ all_missing rows) ≡ true
        → keys_rise (x ∷ cond (is_some o) (all_missing rows) (row.character ∷ all_missing rows)) ≡ true
    go (Some w) without less with_it = without
    go None without less with_it = and_from (nat_lt x row.character) (keys_rise (row.character ∷ all_missing rows)) less with_it

missing_rise : (rows : List WantedCharacter) → keys_rise (characters_of rows) ≡ true → keys_rise (all_missing rows) ≡ true
missing_rise [] r = refl
missing_rise (row ∷ rows) r = go row.keys (missing_rise rows (rises_tail row.character (characters_of rows) r))
  where
    go : (o : Option (List ℕ)) → keys_rise (all_missing rows) ≡ true → keys_rise (cond (is_some o) (all_missing rows) (row.character ∷ all_missing rows)) ≡ true
    go (Some w) rest = rest
    go None rest = missing_from row.character rows r

-- ---- those of the rows without keys

missing_wanted : (rows : List WantedCharacter) (c : ℕ) → has_key (all_missing rows) c ≡ true → has_key (characters_of rows) c ≡ true
missing_wanted [] c h = cc
missing_wanted (row ∷ rows) c h = go (missing_wanted rows c) row.keys h
  where
    go : (has_key (all_missing rows) c ≡ true → has_key (characters_of rows) c ≡ true) → (o : Option (List ℕ))
        → has_key (cond (is_some o) (all_missing rows) (row.character ∷ all_missing rows)) c ≡ true → has_key (characters_of (row ∷ rows)) c ≡ true
    go rest (Some w) h = or_right (c == row.character) (has_key (characters_of rows) c) (rest h)
    go rest None h = elim (or_cases (c == row.character) (has_key (all_missing rows) c) h) [
      | inl e ↦ or_left (c == row.character) (has_key (characters_of rows) c) e
      | inr e ↦ or_right (c == row.character) (has_key (characters_of rows) c) (rest e)
    ]

module _ (passes : ℕ → List ℕ → Bool) where
  -- nothing passes the test of a character that is missing
  missing_none : (rows : List WantedCharacter) (c : ℕ) → AreLeast passes rows → has_key (all_missing rows) c ≡ true → IsLeastOf (passes c) None
  missing_none [] c a h = cc
  missing_none (row ∷ rows) c a h = go (missing_none rows c a.1) row.keys a.0 h
    where
      go : (has_key (all_missing rows) c ≡ true → IsLeastOf (passes c) None) → (o : Option (List ℕ)) → IsLeastOf (passes row.character) o
          → has_key (cond (is_some o) (all_missing rows) (row.character ∷ all_missing rows)) c ≡ true → IsLeastOf (passes c) None
      go rest (Some w) l h = rest h
      go rest None l h = elim (or_cases (c == row.character) (has_key (all_missing rows) c) h) [
        | inl e ↦ subst (λ (d : ℕ). IsLeastOf (passes d) None) (sym (eqb-true c row.character e)) l
        | inr e ↦ rest e
      ]

  -- and the first of the lists that pass the test of another one is known
  other_some : (rows : List WantedCharacter) (c : ℕ) → AreLeast passes rows → has_key (characters_of rows) c ≡ true → has_key (all_missing rows) c ≡ false
      → (w : List ℕ) × IsLeastOf (passes c) (Some w)
  other_some [] c a h n = cc
  other_some (row ∷ rows) c a h n = go (other_some rows c a.1) row.keys a.0 n
    where
      go : (has_key (characters_of rows) c ≡ true → has_key (all_missing rows) c ≡ false → (w : List ℕ) × IsLeastOf (passes c) (Some w)) → (o : Option (List ℕ)) → IsLeastOf (passes row.character) o
          → has_key (cond (is_some o) (all_missing rows) (row.character ∷ all_missing rows)) c ≡ false → (w : List ℕ) × IsLeastOf (passes c) (Some w)
      go rest (Some w) l n = elim (or_cases (c == row.character) (has_key (characters_of rows) c) h) [
        | inl e ↦ (w, subst (λ (d : ℕ). IsLeastOf (passes d) (Some w)) (sym (eqb-true c row.character e)) l)
        | inr e ↦ rest e n
      ]
      go rest None l n =
          let parts = or_parts (c == row.character) (has_key (all_missing rows) c) n in
          elim (or_cases (c == row.character) (has_key (characters_of rows) c) h) [
            | inl e ↦ absurd (let clash : true ≡ false = sym e ∙ parts.0 in cc)
            | inr e ↦ rest e parts.1
          ]

-- ---- the answer

are_untypable : (names : KeysymNames) (table : List Definition) (repertoire : Repertoire) → IsSettled table → (rows : List WantedCharacter) → keys_rise repertoire.characters ≡ true
    → characters_of rows ≡ repertoire.characters → AreLeast (is_candidate names table repertoire) rows → AreUntypable names table repertoire (all_missing rows)
are_untypable names table repertoire s rows rise e a = record {
  rise = missing_rise rows (ap keys_rise e ∙ rise);
  wanted = λ c h. ap (λ cs. has_key cs c) (sym e) ∙ missing_wanted rows c h;
  untyped = λ c h. untyped names table repertoire c (missing_none (is_candidate names table repertoire) rows c a h);
  others_typed = λ c h n.
      let least = other_some (is_candidate names table repertoire) rows c a (ap (λ cs. has_key cs c) e ∙ h) (not_true (has_key (all_missing rows) c) n) in
      (least.0, least_typing names table repertoire s.definitions s.prefix_free c least.0 least.1);
}
  where
    not_true : (b : Bool) → not b ≡ true → b ≡ false
    not_true false n = refl
    not_true true n = cc

-- the result of the rows is the answer
pub missing_found : {A E : Type 0} (characters : A → List ℕ) (names : KeysymNames) (table : List Definition) (repertoire : Repertoire) → IsSettled table → (rows : List WantedCharacter) (r : Result A E)
    → keys_rise repertoire.characters ≡ true
    → characters_of rows ≡ repertoire.characters → AreLeast (is_candidate names table repertoire) rows → IfOk r (λ a. characters a ≡ all_missing rows)
    → IfOk r (λ a. AreUntypable names table repertoire (characters a))
missing_found characters names table repertoire s rows (Ok a) rise e least h = subst (AreUntypable names table repertoire) (sym h) (are_untypable names table repertoire s rows rise e least)
missing_found characters names table repertoire s rows (Err fault) rise e least h = tt
