-- Lists that are made of the parts of a list, one after another.
use Rattle.std.proofs.Common.{◌≡◌, ◌∙◌, ℕ, suc, ◌+◌, ◌<◌, List, ◌∷◌, ◌++◌, length, drop, get_or, drop-cons, sym, ap, append_assoc, arith}
use Rattle.std.specs.Prelude.{flat_map}

-- one more part
pub one_more : {X Y : Type 0} (F : X → List Y) (xs : List X) (i : ℕ) (d : X) (found after whole : List Y) → i < length xs → after ≡ found ++ F (get_or xs i d)
    → found ++ flat_map F (drop i xs) ≡ whole → after ++ flat_map F (drop (i + 1) xs) ≡ whole
one_more F xs i d found after whole within added before =
    let one : suc i ≡ i + 1 = omega arith in
    let at : drop i xs ≡ get_or xs i d ∷ drop (i + 1) xs = drop-cons xs i d within ∙ ap (λ n. get_or xs i d ∷ drop n xs) one in
    ap (λ ys. ys ++ flat_map F (drop (i + 1) xs)) added ∙ append_assoc found (F (get_or xs i d)) (flat_map F (drop (i + 1) xs)) ∙ ap (λ ys. found ++ flat_map F ys) (sym at) ∙ before
