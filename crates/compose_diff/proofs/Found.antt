-- The first element that passes a test, searched from the beginning.
use Rattle.std.proofs.Common.{◌≡◌, ℕ, ◌+◌, ◌<◌, Bool, true, false, List, ◌∷◌, length, map, drop, get_or, sym, ◌∙◌, ap, refl}
use Rattle.std.specs.Prelude.{Some}
use Rattle.std.specs.List.{find, list_any}
use Rattle.std.proofs.lemmas.List.{drop_more, get_or-map, length-map}
use Rattle.std.proofs.lemmas.List.Folds.{list_any_at}
use Rattle.compose_diff.specs.Accepted.{Line, matches_text}

-- the element at this index, and what is left after it
at_index : {X : Type 0} (xs : List X) (i : ℕ) (x : X) → i < length xs → x ≡ get_or xs i x → drop i xs ≡ x ∷ drop (i + 1) xs
at_index xs i x less is = drop_more xs i x less ∙ ap (λ y. y ∷ drop (i + 1) xs) (sym is)

-- an element that passes is the first that does, if none before it passed
pub find_here : {X : Type 0} (p : X → Bool) (xs : List X) (i : ℕ) (x : X) → i < length xs → x ≡ get_or xs i x → p x ≡ true → find p (drop i xs) ≡ find p xs → find p xs ≡ Some x
find_here p xs i x less is passes left = sym left ∙ ap (find p) (at_index xs i x less is) ∙ rw passes refl

-- past an element that does not pass, what is left still has the first that passes
pub find_later : {X : Type 0} (p : X → Bool) (xs : List X) (i : ℕ) (x : X) → i < length xs → x ≡ get_or xs i x → p x ≡ false → find p (drop i xs) ≡ find p xs → find p (drop (i + 1) xs) ≡ find p xs
find_later p xs i x less is fails left = sym (ap (find p) (at_index xs i x less is) ∙ rw fails refl) ∙ left

-- a line that matches the text of one element matches one of the texts
pub matched_at : {X : Type 0} (text : X → List ℕ) (xs : List X) (line : Line) (i : ℕ) (x : X) → i < length xs → x ≡ get_or xs i x → matches_text (text x) line ≡ true
    → list_any (λ t. matches_text t line) (map text xs) ≡ true
matched_at text xs line i x less is reported =
    list_any_at (λ t. matches_text t line) (map text xs) i (text x) (rw (length-map xs text) less) (ap (λ t. matches_text t line) (get_or-map text xs i x (text x) less ∙ ap text (sym is)) ∙ reported)
