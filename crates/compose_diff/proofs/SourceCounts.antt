-- Counts of the rows of a source, one row after another.
use Rattle.std.proofs.Common.{◌≡◌, ℕ, ◌+◌, ◌≤◌, ◌<◌, Bool, true, false, cond, List, [], ◌∷◌, ◌++◌, length, take, filter, get_or, refl, sym, ◌∙◌, ap, arith, eqb-true}
use Rattle.std.specs.Prelude.{◌==◌, unwrap_or, if◌then◌else◌, Option, Some, None}
use Rattle.std.proofs.lemmas.List.{length-append, length-take-le}
use Rattle.std.proofs.lemmas.List.Elements.{filter_more}
use Rattle.std.proofs.lemmas.List.Sums.{length-filter, count_by-le-length}
use Rattle.compose_diff.specs.declared.row.DiffRow.{DiffRow}
use Rattle.compose_diff.specs.Causes.{is_counted, counted_in}

-- no more are counted than there are
pub few : (removed_alone : Bool) (source : ℕ) (rows : List DiffRow) → counted_in removed_alone source rows ≤ length rows
few removed_alone source rows =
    let counted = length-filter (is_counted removed_alone source) rows in
    let fewer = count_by-le-length (is_counted removed_alone source) rows in
    omega (arith, counted, fewer)

pub counted_more : (removed_alone : Bool) (source : ℕ) (rows : List DiffRow) (i : ℕ) (d : DiffRow) (b : Bool) → i < length rows → b ≡ is_counted removed_alone source (get_or rows i d)
    → counted_in removed_alone source (take (i + 1) rows) ≡ (if b then counted_in removed_alone source (take i rows) + 1 else counted_in removed_alone source (take i rows))
counted_more removed_alone source rows i d b less e =
    ap length (filter_more (is_counted removed_alone source) rows i d less)
    ∙ length-append (filter (is_counted removed_alone source) (take i rows)) (cond (is_counted removed_alone source (get_or rows i d)) (get_or rows i d ∷ []) [])
    ∙ ap (λ t. counted_in removed_alone source (take i rows) + length (cond t (get_or rows i d ∷ []) [])) (sym e) ∙ by b
  where
    by : (t : Bool) → counted_in removed_alone source (take i rows) + length (cond t (get_or rows i d ∷ []) []) ≡ (if t then counted_in removed_alone source (take i rows) + 1 else counted_in removed_alone source (take i rows))
    by true = refl
    by false = omega arith

-- one more is counted for one source
pub put : (key source count : ℕ) (o : Option ℕ) (at : ℕ → ℕ) → count ≡ at key → unwrap_or o 0 ≡ at source
    → unwrap_or (cond (key == source) (Some (count + 1)) o) 0 ≡ (if key == source then at source + 1 else at source)
put key source count o at here there = by (key == source) refl
  where
    by : (t : Bool) → (key == source) ≡ t → unwrap_or (cond t (Some (count + 1)) o) 0 ≡ (if t then at source + 1 else at source)
    by true e = ap (λ n. n + 1) (here ∙ ap at (eqb-true key source e))
    by false e = there
