-- Lines without controls, one after another, are divided into exactly these lines.
use Rattle.std.proofs.Common.{◌≡◌, ℕ, List, [], ◌∷◌, ◌++◌, flat_map, map, refl, ◌∙◌, ap, arith, leb-true}
use Rattle.std.proofs.lemmas.Bool.{ne_eqb}
use Rattle.std.proofs.lemmas.List.{append_assoc}
use Rattle.std.specs.List.{list_all}
use Rattle.std.proofs.lemmas.Bool.{and_parts}
use Rattle.compose_text.specs.Lines.{lines_of, onto_first}
use Rattle.compose_diff.proofs.Plain.{is_plain, ArePlain}

-- a line, its newline, and what follows
line_first : (line rest : List ℕ) → ArePlain line → lines_of (line ++ 10 ∷ rest) ≡ line ∷ lines_of rest
line_first [] rest plain = refl
line_first (b ∷ line) rest plain =
    let parts = and_parts (is_plain b) (list_all is_plain line) plain in
    rw (ne_eqb b 10 (omega (arith, leb-true 32 b parts.0))) (ap (onto_first b) (line_first line rest parts.1))

-- the lines are those that were concatenated
pub lines_again : {X : Type 0} (f : X → List ℕ) (xs : List X) → ((x : X) → ArePlain (f x)) → lines_of (flat_map (λ x. f x ++ 10 ∷ []) xs) ≡ map f xs
lines_again f [] each = refl
lines_again f (x ∷ xs) each =
    ap lines_of (append_assoc (f x) (10 ∷ []) (flat_map (λ y. f y ++ 10 ∷ []) xs))
    ∙ line_first (f x) (flat_map (λ y. f y ++ 10 ∷ []) xs) (each x) ∙ ap (λ ls. f x ∷ ls) (lines_again f xs each)
