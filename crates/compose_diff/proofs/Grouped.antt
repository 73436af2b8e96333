-- Each row is in one group.
use Rattle.std.proofs.Common.{◌≡◌, ℕ, Bool, true, false, not, List, [], ◌∷◌, ◌++◌, map, filter, flat_map, refl, sym, ◌∙◌, ap, ap₂, subst, inl, inr}
use Rattle.std.specs.Prelude.{◌&&◌, ◌||◌, ◌⊎◌, Option, Some, None}
use Rattle.std.specs.List.{list_any}
use Rattle.std.specs.List.Sorted.{IsPermutation}
use Rattle.std.specs.Option.{option_map_or}
use Rattle.std.proofs.lemmas.Bool.{or_left, or_right}
use Rattle.std.proofs.lemmas.List.Elements.{filter_agree}
use Rattle.std.proofs.lemmas.List.Folds.{list_any-append}
use Rattle.std.proofs.lemmas.List.Sorted.{IsPermutation-trans, IsPermutation-cons, IsPermutation-refl, IsPermutation-append_right, IsPermutation-filter_both}
use Rattle.compose_diff.specs.declared.row.DiffRow.{DiffRow}
use Rattle.compose_diff.specs.Groups.{Common, common, has, folds_with, firsts, group_of, groups, all_of, IsGroup}
use Rattle.compose_diff.proofs.Same.{bool_eq, has_it, it_has, folds_by, folds_none, none_folds, folds_same, folds_too}

filter_twice : (p q : DiffRow → Bool) (rows : List DiffRow) → filter p (filter q rows) ≡ filter (λ row. q row && p row) rows
filter_twice p q [] = refl
filter_twice p q (row ∷ rows) = by (filter_twice p q rows) (q row) refl
  where
    by : filter p (filter q rows) ≡ filter (λ r. q r && p r) rows → (t : Bool) → q row ≡ t → filter p (filter q (row ∷ rows)) ≡ filter (λ r. q r && p r) (row ∷ rows)
    by more true e = rw (e, more) refl
    by more false e = rw e more

module _ (gone : ℕ → Bool) where
  -- no earlier row folds together with it
  abbrev is_first : List DiffRow → DiffRow → Bool
  is_first earlier row = not (list_any (folds_with gone row) earlier)

  one_more : (earlier : List DiffRow) (row other : DiffRow) → list_any (folds_with gone other) (earlier ++ row ∷ []) ≡ (list_any (folds_with gone other) earlier || (folds_with gone other row || false))
  one_more earlier row other = list_any-append (folds_with gone other) earlier (row ∷ [])

  -- rows with the same in common fold with the same rows
  alike : (a b : DiffRow) (earlier : List DiffRow) → common gone a ≡ common gone b → list_any (folds_with gone a) earlier ≡ list_any (folds_with gone b) earlier
  alike a b earlier e = ap (λ o. list_any (λ other. option_map_or (λ w. has gone w other) o false) earlier) e

  -- a row in front that doesn't fold with the first row is in no group of it
  skipped : (row first : DiffRow) (rows : List DiffRow) → folds_with gone first row ≡ false → group_of gone (row ∷ rows) first ≡ group_of gone rows first
  skipped row first rows = by (common gone first)
    where
      by : (o : Option Common) → option_map_or (λ w. has gone w row) o false ≡ false
          → option_map_or (λ w. filter (has gone w) (row ∷ rows)) o (first ∷ []) ≡ option_map_or (λ w. filter (has gone w) rows) o (first ∷ [])
      by None e = refl
      by (Some w) e = rw e refl

  -- the groups of later rows don't have it
  all_skipped : (row : DiffRow) (rows earlier later : List DiffRow) → ((other : DiffRow) → folds_with gone other row ≡ true → list_any (folds_with gone other) earlier ≡ true)
      → map (group_of gone (row ∷ rows)) (firsts gone earlier later) ≡ map (group_of gone rows) (firsts gone earlier later)
  all_skipped row rows earlier [] known = refl
  all_skipped row rows earlier (next ∷ later) known =
      by (all_skipped row rows (earlier ++ next ∷ []) later (λ other f. one_more earlier next other ∙ or_left _ _ (known other f))) (list_any (folds_with gone next) earlier) refl
    where
      apart : (t : Bool) → folds_with gone next row ≡ t → list_any (folds_with gone next) earlier ≡ false → folds_with gone next row ≡ false
      apart true f e = let clash : false ≡ true = sym e ∙ known next f in cc
      apart false f e = f

      by : map (group_of gone (row ∷ rows)) (firsts gone (earlier ++ next ∷ []) later) ≡ map (group_of gone rows) (firsts gone (earlier ++ next ∷ []) later)
          → (t : Bool) → list_any (folds_with gone next) earlier ≡ t
          → map (group_of gone (row ∷ rows)) (firsts gone earlier (next ∷ later)) ≡ map (group_of gone rows) (firsts gone earlier (next ∷ later))
      by more true e = rw e more
      by more false e = rw e (ap₂ (λ g gs. g ∷ gs) (skipped row next rows (apart (folds_with gone next row) refl e)) more)

  behind : (row : DiffRow) (earlier rows : List DiffRow) → map (group_of gone (row ∷ rows)) (firsts gone (earlier ++ row ∷ []) rows) ≡ map (group_of gone rows) (firsts gone (earlier ++ row ∷ []) rows)
  behind row earlier rows = all_skipped row rows (earlier ++ row ∷ []) rows (λ other f. one_more earlier row other ∙ or_right (list_any (folds_with gone other) earlier) _ (or_left _ _ f))

  -- a row that folds with no row doesn't change which later rows are first, nor does one that folds
  -- with an earlier row
  as_before : (row : DiffRow) (earlier rows : List DiffRow) → ((other : DiffRow) → folds_with gone other row ≡ true → list_any (folds_with gone other) earlier ≡ true)
      → filter (is_first (earlier ++ row ∷ [])) rows ≡ filter (is_first earlier) rows
  as_before row earlier rows known = filter_agree (is_first (earlier ++ row ∷ [])) (is_first earlier) (λ other. ap not (one_more earlier row other ∙ by other (folds_with gone other row) refl)) rows
    where
      by : (other : DiffRow) (t : Bool) → folds_with gone other row ≡ t → (list_any (folds_with gone other) earlier || (folds_with gone other row || false)) ≡ list_any (folds_with gone other) earlier
      by other true f = or_left _ _ (known other f) ∙ sym (known other f)
      by other false f = rw f (or_false (list_any (folds_with gone other) earlier))
        where
          or_false : (b : Bool) → (b || false) ≡ b
          or_false true = refl
          or_false false = refl

  -- after a row that is first, the rows that are still first: those that were first before and
  -- don't fold with it
  parted : (row : DiffRow) (what : Common) (earlier rows : List DiffRow) → common gone row ≡ Some what → list_any (folds_with gone row) earlier ≡ false
      → IsPermutation (filter (is_first earlier) rows) (filter (has gone what) rows ++ filter (is_first (earlier ++ row ∷ [])) rows)
  parted row what earlier rows e new =
      subst (IsPermutation (filter (is_first earlier) rows)) (ap (λ xs. xs ++ filter (λ other. not (has gone what other)) (filter (is_first earlier) rows)) mine ∙ ap (λ ys. filter (has gone what) rows ++ ys) others)
      (IsPermutation-filter_both (has gone what) (λ other. not (has gone what other)) (λ other. refl) (filter (is_first earlier) rows))
    where
      mine : filter (has gone what) (filter (is_first earlier) rows) ≡ filter (has gone what) rows
      mine =
          filter_twice (has gone what) (is_first earlier) rows
          ∙ filter_agree (λ other. is_first earlier other && has gone what other) (has gone what) (λ other. by other (has gone what other) refl) rows
        where
          by : (other : DiffRow) (t : Bool) → has gone what other ≡ t → (is_first earlier other && has gone what other) ≡ has gone what other
          by other true h = rw (alike other row earlier (has_it gone what other h ∙ sym e) ∙ new) refl
          by other false h = rw h (and_false (is_first earlier other))
            where
              and_false : (b : Bool) → (b && false) ≡ false
              and_false true = refl
              and_false false = refl

      others : filter (λ other. not (has gone what other)) (filter (is_first earlier) rows) ≡ filter (is_first (earlier ++ row ∷ [])) rows
      others =
          filter_twice (λ other. not (has gone what other)) (is_first earlier) rows
          ∙ filter_agree (λ other. is_first earlier other && not (has gone what other)) (is_first (earlier ++ row ∷ []))
          (λ other. by (list_any (folds_with gone other) earlier) (has gone what other) ∙ ap not (ap (λ b. list_any (folds_with gone other) earlier || (b || false)) (sym (folds_by gone row other what e) ∙ folds_too gone row other) ∙ sym (one_more earlier row other))) rows
        where
          by : (a b : Bool) → (not a && not b) ≡ not (a || (b || false))
          by true b = refl
          by false true = refl
          by false false = refl

  abbrev later : List DiffRow → DiffRow → List DiffRow → List (List DiffRow)
  later earlier row rows = map (group_of gone rows) (firsts gone (earlier ++ row ∷ []) rows)

  -- the rows that no earlier row folds with are in the groups, each once
  all_grouped : (earlier rows : List DiffRow) → IsPermutation (filter (is_first earlier) rows) (all_of (map (group_of gone rows) (firsts gone earlier rows)))
  all_grouped earlier [] = IsPermutation-refl []
  all_grouped earlier (row ∷ rows) = by (all_grouped (earlier ++ row ∷ []) rows) (list_any (folds_with gone row) earlier) refl
    where
      alone : IsPermutation (filter (is_first (earlier ++ row ∷ [])) rows) (all_of (later earlier row rows)) → common gone row ≡ None
          → IsPermutation (row ∷ filter (is_first earlier) rows) (group_of gone (row ∷ rows) row ++ all_of (later earlier row rows))
      alone more e =
          subst (λ g. IsPermutation (row ∷ filter (is_first earlier) rows) (g ++ all_of (later earlier row rows))) (sym (ap (λ o. option_map_or (λ w. filter (has gone w) (row ∷ rows)) o (row ∷ [])) e))
          (IsPermutation-cons row _ _ (subst (λ xs. IsPermutation xs (all_of (later earlier row rows))) (as_before row earlier rows (λ other f. let clash : false ≡ true = sym (none_folds gone other row e) ∙ f in cc)) more))

      group_is : (what : Common) → common gone row ≡ Some what → group_of gone (row ∷ rows) row ≡ row ∷ filter (has gone what) rows
      group_is what e = ap (λ o. option_map_or (λ w. filter (has gone w) (row ∷ rows)) o (row ∷ [])) e ∙ rw (it_has gone what row e) refl

      together : IsPermutation (filter (is_first (earlier ++ row ∷ [])) rows) (all_of (later earlier row rows)) → (what : Common) → common gone row ≡ Some what → list_any (folds_with gone row) earlier ≡ false
          → IsPermutation (row ∷ filter (is_first earlier) rows) (group_of gone (row ∷ rows) row ++ all_of (later earlier row rows))
      together more what e new =
          subst (λ g. IsPermutation (row ∷ filter (is_first earlier) rows) (g ++ all_of (later earlier row rows))) (sym (group_is what e))
          (IsPermutation-cons row _ _ (IsPermutation-trans _ _ _ (parted row what earlier rows e new) (IsPermutation-append_right (filter (has gone what) rows) _ _ more)))

      own : IsPermutation (filter (is_first (earlier ++ row ∷ [])) rows) (all_of (later earlier row rows)) → (o : Option Common) → common gone row ≡ o → list_any (folds_with gone row) earlier ≡ false
          → IsPermutation (row ∷ filter (is_first earlier) rows) (group_of gone (row ∷ rows) row ++ all_of (later earlier row rows))
      own more None e new = alone more e
      own more (Some what) e new = together more what e new

      by : IsPermutation (filter (is_first (earlier ++ row ∷ [])) rows) (all_of (later earlier row rows)) → (t : Bool) → list_any (folds_with gone row) earlier ≡ t
          → IsPermutation (filter (is_first earlier) (row ∷ rows)) (all_of (map (group_of gone (row ∷ rows)) (firsts gone earlier (row ∷ rows))))
      by more true e =
          rw e
          (subst (λ gs. IsPermutation (filter (is_first earlier) rows) (all_of gs)) (sym (behind row earlier rows))
          (subst (λ xs. IsPermutation xs (all_of (later earlier row rows))) (as_before row earlier rows (λ other f. alike other row earlier (folds_same gone other row f) ∙ e)) more))
      by more false e =
          rw e (subst (λ gs. IsPermutation (row ∷ filter (is_first earlier) rows) (group_of gone (row ∷ rows) row ++ all_of gs)) (sym (behind row earlier rows)) (own more (common gone row) refl e))

  all_first : (rows : List DiffRow) → filter (is_first []) rows ≡ rows
  all_first [] = refl
  all_first (row ∷ rows) = ap (λ rs. row ∷ rs) (all_first rows)

  -- each row is in one group
  pub each_in_one : (rows : List DiffRow) → IsPermutation rows (all_of (groups gone rows))
  each_in_one rows = subst (λ rs. IsPermutation rs (all_of (groups gone rows))) (all_first rows) (all_grouped [] rows)

  -- ---- what a group is

  group_is_group : (rows : List DiffRow) (row : DiffRow) → IsGroup gone rows (group_of gone rows row)
  group_is_group rows row = (row, by (common gone row) refl)
    where
      by : (o : Option Common) → common gone row ≡ o → (group_of gone rows row ≡ filter (folds_with gone row) rows) ⊎ ((group_of gone rows row ≡ row ∷ []) × ((other : DiffRow) → folds_with gone row other ≡ false))
      by None e = inr ((ap (λ o. option_map_or (λ w. filter (has gone w) rows) o (row ∷ [])) e), (λ other. folds_none gone row other e))
      by (Some what) e =
          inl (ap (λ o. option_map_or (λ w. filter (has gone w) rows) o (row ∷ [])) e ∙ ap (λ o. filter (λ other. option_map_or (λ w. has gone w other) o false) rows) (sym e))

  among : (rows heads : List DiffRow) (part : List DiffRow) (before after : List (List DiffRow)) → map (group_of gone rows) heads ≡ before ++ part ∷ after → IsGroup gone rows part
  among rows [] part [] after e = let clash : [] ≡ part ∷ after = e in cc
  among rows [] part (b ∷ before) after e = let clash : [] ≡ b ∷ (before ++ part ∷ after) = e in cc
  among rows (head ∷ heads) part [] after e = let is : group_of gone rows head ≡ part = cc in subst (IsGroup gone rows) is (group_is_group rows head)
  among rows (head ∷ heads) part (b ∷ before) after e = let is : map (group_of gone rows) heads ≡ before ++ part ∷ after = cc in among rows heads part before after is

  pub each_is_group : (rows part : List DiffRow) (before after : List (List DiffRow)) → groups gone rows ≡ before ++ part ∷ after → IsGroup gone rows part
  each_is_group rows part before after e = among rows (firsts gone [] rows) part before after e
