-- The answers of the rows, once they are the least of all candidates.
use Rattle.std.proofs.Common.{◌≡◌, ℕ, ◌<◌, List, [], ◌∷◌, ◌++◌, Bool, true, false, cond, ◌||◌, map, refl, sym, ◌∙◌, ap, subst, inl, inr, arith, eqb-true, eq-eqb}
use Rattle.std.specs.Prelude.{Option, Some, None, ◌==◌, nat_lt, is_some, unwrap_or, Result, Ok, Err, IfOk}
use Rattle.std.specs.List.{AllByRecursion}
use Rattle.std.proofs.lemmas.Bool.{and_parts, ltb-true, or_cases, or_left, or_right}
use Rattle.keysym_core.specs.Names.{KeysymNames}
use Rattle.compose_model.specs.Table.{Definition, has_key}
use Rattle.compose_model.specs.Certificate.{Repertoire, keys_rise}
use Rattle.compose_read.specs.Settle.{IsSettled}
use Rattle.compose_fresh.proofs.Positions.{rises_tail}
use Rattle.compose_make.specs.Least.{IsLeastTyping, AreLeastTypings, IsUnreachable}
use Rattle.compose_make.specs.Candidates.{is_plain, is_whole, IsLeastOf}
use Rattle.compose_make.proofs.Reduction.{is_candidate, least_typing, untyped, whole_parts, nonempty}
use Rattle.compose_make.specs.Wanted.{WantedCharacter, AreLeast, characters_of, typing_of, first_missing, is_whole_after, IsOfRows}
use Rattle.compose_make.specs.Found.{IsTypings}
use Rattle.compose_make.specs.declared.typings.Typings.{Typings}
use Rattle.compose_make.specs.declared.typings.Typings.TheVariants.{Found, Unreachable}
use Rattle.compose_make.proofs.Rows.{are_same}

-- ---- rows one after another

-- rows that hold the least keys still do with one row more that does
pub are_joined : (passes : ℕ → List ℕ → Bool) (rows : List WantedCharacter) (row : WantedCharacter) → AreLeast passes rows → IsLeastOf (passes row.character) row.keys
    → AreLeast passes (rows ++ row ∷ [])
are_joined passes [] row a l = (l, tt)
are_joined passes (r ∷ rows) row a l = (a.0, are_joined passes rows row a.1 l)

-- ---- the answer

-- a later character is greater
above : (x d : ℕ) (xs : List ℕ) → keys_rise (x ∷ xs) ≡ true → has_key xs d ≡ true → x < d
above x d [] r h = cc
above x d (y ∷ xs) r h =
    let parts = and_parts (nat_lt x y) (keys_rise (y ∷ xs)) r in
    let less : x < y = ltb-true x y parts.0 in
    elim (or_cases (d == y) (has_key xs d) h) [
      | inl e ↦ (let is : d ≡ y = eqb-true d y e in omega arith)
      | inr e ↦ (let more : y < d = above y d xs parts.1 e in omega arith)
    ]

module _ (names : KeysymNames) (table : List Definition) (repertoire : Repertoire) (s : IsSettled table) where
  -- the rows after the pass
  pub all_visited : (rows : List WantedCharacter) → AreLeast (λ c v. is_plain names table repertoire c v || is_whole_after table repertoire c [] v) rows
      → AreLeast (is_candidate names table repertoire) rows
  all_visited rows a =
      are_same (λ c v. is_plain names table repertoire c v || is_whole_after table repertoire c [] v) (is_candidate names table repertoire)
      (λ c v. ap (λ b. is_plain names table repertoire c v || b) (from_root c v)) rows a
    where
      from_root : (c : ℕ) (v : List ℕ) → is_whole_after table repertoire c [] v ≡ is_whole table repertoire c v
      from_root c (k ∷ v) = refl
      from_root c [] = go (is_whole table repertoire c []) refl
        where
          go : (b : Bool) → is_whole table repertoire c [] ≡ b → false ≡ b
          go false e = refl
          go true e = absurd (nonempty names table repertoire s.definitions s.prefix_free (whole_parts names table repertoire c [] e).sequence)

  least_typings : (rows : List WantedCharacter) → AreLeast (is_candidate names table repertoire) rows → first_missing rows ≡ None
      → AllByRecursion (λ t. IsLeastTyping names table repertoire t.character t.keys) (map typing_of rows)
  least_typings [] a n = tt
  least_typings (row ∷ rows) a n = go (least_typings rows a.1) row.keys refl
    where
      go : (first_missing rows ≡ None → AllByRecursion (λ t. IsLeastTyping names table repertoire t.character t.keys) (map typing_of rows)) → (o : Option (List ℕ)) → row.keys ≡ o
          → IsLeastTyping names table repertoire row.character (unwrap_or row.keys []) × AllByRecursion (λ t. IsLeastTyping names table repertoire t.character t.keys) (map typing_of rows)
      go rest None e = let clash : Some row.character ≡ None = ap (λ o. cond (is_some o) (first_missing rows) (Some row.character)) (sym e) ∙ n in cc
      go rest (Some w) e = (
        subst (λ (v : List ℕ). IsLeastTyping names table repertoire row.character v) (ap (λ o. unwrap_or o []) (sym e))
            (least_typing names table repertoire s.definitions s.prefix_free row.character w (subst (IsLeastOf (is_candidate names table repertoire row.character)) e a.0)),
        rest (ap (λ o. cond (is_some o) (first_missing rows) (Some row.character)) (sym e) ∙ n),
      )

  characters_kept : (rows : List WantedCharacter) → map (λ t. t.character) (map typing_of rows) ≡ characters_of rows
  characters_kept [] = refl
  characters_kept (row ∷ rows) = ap (λ cs. row.character ∷ cs) (characters_kept rows)

  pub all_found : (rows : List WantedCharacter) → characters_of rows ≡ repertoire.characters → AreLeast (is_candidate names table repertoire) rows → first_missing rows ≡ None
      → AreLeastTypings names table repertoire (map typing_of rows)
  all_found rows e a n = record { characters = characters_kept rows ∙ e; least = least_typings rows a n }

  missing_wanted : (rows : List WantedCharacter) (c : ℕ) → first_missing rows ≡ Some c → has_key (characters_of rows) c ≡ true
  missing_wanted [] c m = cc
  missing_wanted (row ∷ rows) c m = go (missing_wanted rows c) row.keys refl
    where
      go : (first_missing rows ≡ Some c → has_key (characters_of rows) c ≡ true) → (o : Option (List ℕ)) → row.keys ≡ o → has_key (characters_of (row ∷ rows)) c ≡ true
      go rest None e =
          or_left (c == row.character) (has_key (characters_of rows) c)
          (eq-eqb c row.character (let f : Some row.character ≡ Some c = ap (λ o. cond (is_some o) (first_missing rows) (Some row.character)) (sym e) ∙ m in cc))
      go rest (Some w) e = or_right (c == row.character) (has_key (characters_of rows) c) (rest (ap (λ o. cond (is_some o) (first_missing rows) (Some row.character)) (sym e) ∙ m))

  missing_least : (rows : List WantedCharacter) (c : ℕ) → AreLeast (is_candidate names table repertoire) rows → first_missing rows ≡ Some c → IsLeastOf (is_candidate names table repertoire c) None
  missing_least [] c a m = cc
  missing_least (row ∷ rows) c a m = go (missing_least rows c a.1) row.keys refl
    where
      go : (first_missing rows ≡ Some c → IsLeastOf (is_candidate names table repertoire c) None) → (o : Option (List ℕ)) → row.keys ≡ o → IsLeastOf (is_candidate names table repertoire c) None
      go rest None e =
          let f : Some row.character ≡ Some c = ap (λ o. cond (is_some o) (first_missing rows) (Some row.character)) (sym e) ∙ m in
          let is : row.character ≡ c = cc in
          subst (λ (d : ℕ). IsLeastOf (is_candidate names table repertoire d) None) is (subst (IsLeastOf (is_candidate names table repertoire row.character)) e a.0)
      go rest (Some w) e = rest (ap (λ o. cond (is_some o) (first_missing rows) (Some row.character)) (sym e) ∙ m)

  earlier : (rows : List WantedCharacter) (c d : ℕ) → keys_rise (characters_of rows) ≡ true → AreLeast (is_candidate names table repertoire) rows → first_missing rows ≡ Some c
      → has_key (characters_of rows) d ≡ true → d < c
      → (w : List ℕ) × IsLeastTyping names table repertoire d w
  earlier [] c d r a m h l = cc
  earlier (row ∷ rows) c d r a m h l = go (λ n x. earlier rows c d (rises_tail row.character (characters_of rows) r) a.1 n x l) row.keys refl
    where
      go : (first_missing rows ≡ Some c → has_key (characters_of rows) d ≡ true → (w : List ℕ) × IsLeastTyping names table repertoire d w) → (o : Option (List ℕ)) → row.keys ≡ o
          → (w : List ℕ) × IsLeastTyping names table repertoire d w
      go rest None e =
          let f : Some row.character ≡ Some c = ap (λ o. cond (is_some o) (first_missing rows) (Some row.character)) (sym e) ∙ m in
          let is : row.character ≡ c = cc in
          absurd (elim (or_cases (d == row.character) (has_key (characters_of rows) d) h) [
            | inl x ↦ (let same_one : d ≡ row.character = eqb-true d row.character x in omega arith)
            | inr x ↦ (let more : row.character < d = above row.character d (characters_of rows) r x in omega arith)
          ])
      go rest (Some w) e = elim (or_cases (d == row.character) (has_key (characters_of rows) d) h) [
        | inl x ↦ (
          w,
          subst (λ (i : ℕ). IsLeastTyping names table repertoire i w) (sym (eqb-true d row.character x))
              (least_typing names table repertoire s.definitions s.prefix_free row.character w (subst (IsLeastOf (is_candidate names table repertoire row.character)) e a.0)),
        )
        | inr x ↦ rest (ap (λ o. cond (is_some o) (first_missing rows) (Some row.character)) (sym e) ∙ m) x
      ]

  pub one_unreachable : (rows : List WantedCharacter) (c : ℕ) → keys_rise repertoire.characters ≡ true → characters_of rows ≡ repertoire.characters
      → AreLeast (is_candidate names table repertoire) rows → first_missing rows ≡ Some c → IsUnreachable names table repertoire c
  one_unreachable rows c r e a m = record {
    wanted = ap (λ cs. has_key cs c) (sym e) ∙ missing_wanted rows c m;
    untyped = untyped names table repertoire c (missing_least rows c a m);
    earlier_typed = λ d h l. earlier rows c d (ap keys_rise e ∙ r) a m (ap (λ cs. has_key cs d) e ∙ h) l;
  }

  -- the answer of the rows is the answer
  pub answered : {E : Type 0} (rows : List WantedCharacter) (r : Result Typings E) → keys_rise repertoire.characters ≡ true → characters_of rows ≡ repertoire.characters
      → AreLeast (is_candidate names table repertoire) rows → IfOk r (IsOfRows rows) → IfOk r (IsTypings names table repertoire)
  answered rows (Ok (Found typings)) rise e a h = subst (AreLeastTypings names table repertoire) (sym h.1) (all_found rows e a h.0)
  answered rows (Ok (Unreachable c)) rise e a h = one_unreachable rows c rise e a h
  answered rows (Err fault) rise e a h = tt
