-- If a source is gone, every row of it is removed.
use Rattle.std.proofs.Common.{◌≡◌, ℕ, suc, ◌≤◌, Bool, true, false, not, List, [], ◌∷◌, length, filter, refl, sym, ◌∙◌, ap, subst, arith, eqb-true}
use Rattle.std.specs.Prelude.{◌==◌, ◌&&◌, nat_lt}
use Rattle.std.proofs.lemmas.Bool.{and_parts, and_from, and_left, and_right, or_left, or_right}
use Rattle.compose_compare.specs.declared.Change.TheVariants.{Kept, Removed}
use Rattle.compose_diff.specs.declared.row.DiffRow.{DiffRow}
use Rattle.compose_diff.specs.Counts.{is_same}
use Rattle.compose_diff.specs.Causes.{is_in_source, count_in, removed_in, is_gone, are_removed}
use Rattle.compose_diff.specs.Folds.{reported}

-- ---- the number of elements that pass a test

abbrev count : {X : Type 0} → (X → Bool) → List X → ℕ
count p xs = length (filter p xs)

counted : {X : Type 0} (p : X → Bool) (x : X) (xs : List X) → p x ≡ true → count p (x ∷ xs) ≡ suc (count p xs)
counted p x xs e = rw e refl

left_out : {X : Type 0} (p : X → Bool) (x : X) (xs : List X) → p x ≡ false → filter p (x ∷ xs) ≡ filter p xs
left_out p x xs e = rw e refl

kept : {X : Type 0} (p : X → Bool) (x : X) (xs : List X) → p x ≡ true → filter p (x ∷ xs) ≡ x ∷ filter p xs
kept p x xs e = rw e refl

no_fewer : {X : Type 0} (p : X → Bool) (x : X) (xs : List X) → count p xs ≤ count p (x ∷ xs)
no_fewer p x xs = by (p x) refl
  where
    by : (t : Bool) → p x ≡ t → count p xs ≤ count p (x ∷ xs)
    by true e = omega (arith, counted p x xs e)
    by false e = omega (arith, ap length (left_out p x xs e))

one_more : {X : Type 0} (p : X → Bool) (x : X) (xs ys : List X) → count p xs ≤ count p ys → count p (x ∷ xs) ≤ count p (x ∷ ys)
one_more p x xs ys fewer = by (p x) refl
  where
    by : (t : Bool) → p x ≡ t → count p (x ∷ xs) ≤ count p (x ∷ ys)
    by true e = omega (arith, counted p x xs e, counted p x ys e, fewer)
    by false e = omega (arith, ap length (left_out p x xs e), ap length (left_out p x ys e), fewer)

-- among the elements that are left, no more pass
of_left : {X : Type 0} (keep p : X → Bool) (xs : List X) → count p (filter keep xs) ≤ count p xs
of_left keep p [] = omega arith
of_left keep p (x ∷ xs) = by (of_left keep p xs) (keep x) refl
  where
    by : count p (filter keep xs) ≤ count p xs → (t : Bool) → keep x ≡ t → count p (filter keep (x ∷ xs)) ≤ count p (x ∷ xs)
    by fewer true e = subst (λ ys. count p ys ≤ count p (x ∷ xs)) (sym (kept keep x xs e)) (one_more p x (filter keep xs) xs fewer)
    by fewer false e = subst (λ ys. count p ys ≤ count p (x ∷ xs)) (sym (left_out keep x xs e)) (omega (arith, fewer, no_fewer p x xs))

-- ---- rows of a source that are removed

abbrev in_source : ℕ → DiffRow → Bool
in_source source row = is_in_source source row.old

abbrev is_removed : ℕ → DiffRow → Bool
is_removed source row = is_same row.change Removed && is_in_source source row.old

fewer_removed : (source : ℕ) (rows : List DiffRow) → count (is_removed source) rows ≤ count (in_source source) rows
fewer_removed source [] = omega arith
fewer_removed source (row ∷ rows) = by (fewer_removed source rows) (is_removed source row) (in_source source row) refl refl
  where
    by : count (is_removed source) rows ≤ count (in_source source) rows → (s t : Bool) → is_removed source row ≡ s → in_source source row ≡ t
        → count (is_removed source) (row ∷ rows) ≤ count (in_source source) (row ∷ rows)
    by fewer true true e f = omega (arith, fewer, counted (is_removed source) row rows e, counted (in_source source) row rows f)
    by fewer true false e f = let clash : false ≡ true = sym f ∙ (and_parts (is_same row.change Removed) (is_in_source source row.old) e).1 in cc
    by fewer false t e f = omega (arith, fewer, ap length (left_out (is_removed source) row rows e), no_fewer (in_source source) row rows)

abbrev AreRemoved : ℕ → List DiffRow → Type 0
AreRemoved source rows = are_removed source rows ≡ true

-- if as many rows of a source are removed as are in it, all are
all_removed : (source : ℕ) (rows : List DiffRow) → count (in_source source) rows ≤ count (is_removed source) rows → AreRemoved source rows
all_removed source [] many = refl
all_removed source (row ∷ rows) many = by (λ m. all_removed source rows m) (is_same row.change Removed) (in_source source row) refl refl
  where
    by : (count (in_source source) rows ≤ count (is_removed source) rows → AreRemoved source rows) → (s t : Bool) → is_same row.change Removed ≡ s → in_source source row ≡ t
        → AreRemoved source (row ∷ rows)
    by more true true e f =
        and_from _ _ (or_left _ _ e) (more (omega (arith, many, counted (in_source source) row rows f, counted (is_removed source) row rows (and_from _ _ e f))))
    by more false true e f =
        absurd
        (omega
        (arith, many, counted (in_source source) row rows f, ap length (left_out (is_removed source) row rows (and_left (is_same row.change Removed) _ e)), fewer_removed source rows))
    by more s false e f =
        and_from _ _ (or_right _ _ (ap not f))
        (more (omega (arith, many, ap length (left_out (in_source source) row rows f), ap length (left_out (is_removed source) row rows (and_right (is_same row.change Removed) _ f)))))

-- ---- a source that is gone

-- if a source is gone by the rows that are left, all its rows are removed
pub source_is_gone : (keep : DiffRow → Bool) (rows : List DiffRow) (source : ℕ) → is_gone rows (reported (filter keep rows)) source ≡ true → AreRemoved source rows
source_is_gone keep rows source e =
    let parts = and_parts (nat_lt 1 (count_in source rows)) (removed_in source (reported (filter keep rows)) == count_in source rows) e in
    let whole = eqb-true (removed_in source (reported (filter keep rows))) (count_in source rows) parts.1 in
    all_removed source rows
    (omega (
      arith,
      whole,
      of_left (λ row. not (is_same row.change Kept)) (is_removed source) (filter keep rows),
      of_left keep (is_removed source) rows,
    ))
