-- One element more of those that pass a test.
use Rattle.std.proofs.Common.{◌≡◌, ℕ, ◌+◌, ◌<◌, List, [], ◌∷◌, ◌++◌, Bool, true, false, cond, take, length, get_or, append-nil, sym, ◌∙◌, ap}
use Rattle.std.specs.Prelude.{Some, slice_get, filter}
use Rattle.std.proofs.lemmas.List.Elements.{filter_more}
use Rattle.std.proofs.lemmas.Option.{slice_get-get_or, slice_get_within, same_Some}

module _ (p : List ℕ → Bool) (xs : List (List ℕ)) (i : ℕ) (x : List ℕ) (here : slice_get xs i ≡ Some x) where
  within : i < length xs
  within = slice_get_within xs i x here

  is_it : get_or xs i x ≡ x
  is_it = same_Some (get_or xs i x) x (sym (slice_get-get_or xs i x within) ∙ here)

  more : filter p (take (i + 1) xs) ≡ filter p (take i xs) ++ cond (p x) (x ∷ []) []
  more = filter_more p xs i x within ∙ ap (λ y. filter p (take i xs) ++ cond (p y) (y ∷ []) []) is_it

  -- that fails it
  pub no_other : p x ≡ false → filter p (take i xs) ≡ filter p (take (i + 1) xs)
  no_other fails = sym (more ∙ ap (λ b. filter p (take i xs) ++ cond b (x ∷ []) []) fails ∙ append-nil (filter p (take i xs)))

  -- that passes it
  pub one_other : p x ≡ true → filter p (take i xs) ++ x ∷ [] ≡ filter p (take (i + 1) xs)
  one_other passes = sym (more ∙ ap (λ b. filter p (take i xs) ++ cond b (x ∷ []) []) passes)
