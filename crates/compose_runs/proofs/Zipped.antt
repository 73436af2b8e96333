-- Two lists side by side, when an item is added to each.
use Rattle.std.proofs.Common.{◌≡◌, ◌∙◌, ℕ, ◌+◌, ◌<◌, List, [], ◌∷◌, ◌++◌, length, take, map, drop, get_or, ap, sym, subst}
use Rattle.std.specs.List.{AllZip}
use Rattle.std.proofs.lemmas.List.{take_more, map-append, take-append-drop, drop_more}

zip_more : {A B : Type 0} (R : A → B → Type 0) (xs : List A) (ys : List B) (x : A) (y : B) → AllZip R xs ys → R x y → AllZip R (xs ++ x ∷ []) (ys ++ y ∷ [])
zip_more R [] [] x y all one = (one, tt)
zip_more R [] (b ∷ ys) x y all one = absurd all
zip_more R (a ∷ xs) [] x y all one = absurd all
zip_more R (a ∷ xs) (b ∷ ys) x y all one = (all.0, zip_more R xs ys x y all.1 one)

-- the same, if the first list is the beginning of another one; the last argument is a default for a
-- missing item
pub zip_next : {X A B : Type 0} (R : A → B → Type 0) (f : X → A) (xs : List X) (i : ℕ) (none : X) (ys : List B) (y : B) → i < length xs
    → AllZip R (map f (take i xs)) ys → R (f (get_or xs i none)) y → AllZip R (map f (take (i + 1) xs)) (ys ++ y ∷ [])
zip_next R f xs i none ys y within all one =
    subst (λ given. AllZip R given (ys ++ y ∷ [])) (sym (ap (map f) (take_more xs i none within) ∙ map-append f (take i xs) (get_or xs i none ∷ [])))
    (zip_more R (map f (take i xs)) ys (f (get_or xs i none)) y all one)

-- a list around one of its items
pub around : {X A : Type 0} (f : X → A) (xs : List X) (i : ℕ) (none : X) → i < length xs → map f xs ≡ map f (take i xs) ++ f (get_or xs i none) ∷ map f (drop (i + 1) xs)
around f xs i none within =
    let x = get_or xs i none in let rest = drop (i + 1) xs in
    ap (map f) (sym (take-append-drop i xs) ∙ ap (λ l. take i xs ++ l) (drop_more xs i none within)) ∙ map-append f (take i xs) (x ∷ rest)
