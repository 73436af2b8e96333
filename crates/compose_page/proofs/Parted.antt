-- Each row that is not kept is in one part.
use Rattle.std.proofs.Common.{◌≡◌, ◌∙◌, List, [], ◌∷◌, ◌++◌, Bool, true, false, cond, filter, is_some, subst, sym, ap, refl}
use Rattle.std.proofs.lemmas.List.{append_assoc}
use Rattle.std.specs.Prelude.{not, ◌&&◌}
use Rattle.std.specs.List.Sorted.{IsPermutation}
use Rattle.std.proofs.lemmas.List.Sorted.{IsPermutation-refl, IsPermutation-cons, IsPermutation-trans, IsPermutation-sym, IsPermutation-append_left, IsPermutation-to_front}
use Rattle.compose_compare.specs.declared.Change.{Change}
use Rattle.compose_compare.specs.declared.Change.TheVariants.{Kept, Changed, Waiting, Removed, Added, NewStart}
use Rattle.compose_diff.specs.Counts.{is_same}
use Rattle.compose_diff.specs.Folds.{reported}
use Rattle.compose_diff.specs.Line.{is_loss}
use Rattle.compose_diff.specs.declared.row.DiffRow.{DiffRow}
use Rattle.compose_page.specs.Sections.{rows_of_all}

-- an item may be moved after others
behind : {X : Type 0} (x : X) (before after : List X) → IsPermutation (x ∷ (before ++ after)) (before ++ x ∷ after)
behind x before after =
    IsPermutation-sym _ _ (subst (λ xs. IsPermutation xs (x ∷ (before ++ after))) (append_assoc before (x ∷ []) after)
    (IsPermutation-append_left after (before ++ x ∷ []) (x ∷ before) (IsPermutation-to_front before x)))

-- one more reported row is one more row in one part
row_more : {X : Type 0} (change : Change) (typed : Bool) (x : X) (all lost otherwise starts additions : List X)
    → IsPermutation all (lost ++ (otherwise ++ (starts ++ additions)))
    → IsPermutation (cond (not (is_same change Kept)) (x ∷ all) all)
    (cond (is_loss change && not typed) (x ∷ lost) lost ++ (cond (is_loss change && typed) (x ∷ otherwise) otherwise
    ++ (cond (is_same change NewStart) (x ∷ starts) starts ++ cond (is_same change Added) (x ∷ additions) additions)))
row_more Kept typed x all lost otherwise starts additions same = same
row_more Changed false x all lost otherwise starts additions same = IsPermutation-cons x _ _ same
row_more Waiting false x all lost otherwise starts additions same = IsPermutation-cons x _ _ same
row_more Removed false x all lost otherwise starts additions same = IsPermutation-cons x _ _ same
row_more Changed true x all lost otherwise starts additions same = IsPermutation-trans _ _ _ (IsPermutation-cons x _ _ same) (behind x lost (otherwise ++ (starts ++ additions)))
row_more Waiting true x all lost otherwise starts additions same = IsPermutation-trans _ _ _ (IsPermutation-cons x _ _ same) (behind x lost (otherwise ++ (starts ++ additions)))
row_more Removed true x all lost otherwise starts additions same = IsPermutation-trans _ _ _ (IsPermutation-cons x _ _ same) (behind x lost (otherwise ++ (starts ++ additions)))
row_more NewStart typed x all lost otherwise starts additions same =
    subst (λ xs. IsPermutation (x ∷ all) xs) (append_assoc lost otherwise (x ∷ starts ++ additions))
    (IsPermutation-trans _ _ _ (IsPermutation-cons x _ _ (subst (λ xs. IsPermutation all xs) (sym (append_assoc lost otherwise (starts ++ additions))) same))
    (behind x (lost ++ otherwise) (starts ++ additions)))
row_more Added typed x all lost otherwise starts additions same =
    subst (λ xs. IsPermutation (x ∷ all) xs) (append_assoc lost otherwise (starts ++ x ∷ additions))
    (subst (λ xs. IsPermutation (x ∷ all) xs) (append_assoc (lost ++ otherwise) starts (x ∷ additions))
    (IsPermutation-trans _ _ _ (IsPermutation-cons x _ _ (subst (λ xs. IsPermutation all xs) (sym (append_assoc lost otherwise (starts ++ additions)) ∙ sym (append_assoc (lost ++ otherwise) starts additions)) same))
    (behind x ((lost ++ otherwise) ++ starts) additions)))

pub each_in_one : (rows : List DiffRow) → IsPermutation (reported rows) (rows_of_all rows)
each_in_one [] = IsPermutation-refl []
each_in_one (row ∷ rows) = row_more row.change (is_some row.typing) row _ _ _ _ _ (each_in_one rows)
