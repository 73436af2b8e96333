-- The first and the last entry that is so, with an entry more.
use Rattle.std.proofs.Common.{◌≡◌, ◌∙◌, ℕ, suc, ◌+◌, ◌<◌, List, [], ◌∷◌, ◌++◌, Bool, true, false, cond, length, take, drop, get_or, refl, sym, ap, arith}
use Rattle.std.specs.Prelude.{Option, Some, None}
use Rattle.std.specs.Option.{option_or}
use Rattle.std.proofs.lemmas.List.{take_more, drop_more, length-take-le}
use Rattle.compose_readers.specs.Fates.{Entry, first_from, last_from, fate_of, fates_from}
use Rattle.compose_readers.specs.declared.settling.Fate.{Fate}

-- ---- the first

-- with an entry more before the others
pub first_more : (is : Entry → Bool) (es : List Entry) (at : ℕ) (d : Entry) → at < length es
    → first_from is at (drop at es) ≡ cond (is (get_or es at d)) (Some at) (first_from is (at + 1) (drop (at + 1) es))
first_more is es at d within = ap (first_from is at) (drop_more es at d within)

-- ---- the last

or_none : (o : Option ℕ) → option_or o None ≡ o
or_none None = refl
or_none (Some x) = refl

or_assoc : (a b c : Option ℕ) → option_or (option_or a b) c ≡ option_or a (option_or b c)
or_assoc None b c = refl
or_assoc (Some a) b c = refl

one_or : (b : Bool) (x : ℕ) (o : Option ℕ) → option_or (cond b (Some x) None) o ≡ cond b (Some x) o
one_or true x o = refl
one_or false x o = refl

last_append : (is : Entry → Bool) (n : ℕ) (xs : List Entry) (y : Entry)
    → last_from is n (xs ++ y ∷ []) ≡ cond (is y) (Some (n + length xs)) (last_from is n xs)
last_append is n [] y =
    let zero : n ≡ n + 0 = omega arith in ap (λ m. cond (is y) (Some m) None) zero
last_append is n (x ∷ xs) y =
    let next : n + 1 + length xs ≡ n + suc (length xs) = omega arith in
    ap (λ o. option_or o (cond (is x) (Some n) None)) (last_append is (n + 1) xs y ∙ ap (λ m. cond (is y) (Some m) (last_from is (n + 1) xs)) next)
    ∙ by (is y)
  where
    by : (b : Bool) → option_or (cond b (Some (n + suc (length xs))) (last_from is (n + 1) xs)) (cond (is x) (Some n) None)
        ≡ cond b (Some (n + suc (length xs))) (option_or (last_from is (n + 1) xs) (cond (is x) (Some n) None))
    by true = refl
    by false = refl

-- with an entry more behind the others
pub last_more : (is : Entry → Bool) (es : List Entry) (at : ℕ) (d : Entry) → at < length es
    → last_from is 0 (take (at + 1) es) ≡ cond (is (get_or es at d)) (Some at) (last_from is 0 (take at es))
last_more is es at d within =
    let took = length-take-le at es (omega arith) in let long : 0 + length (take at es) ≡ at = omega (arith, took) in
    ap (last_from is 0) (take_more es at d within) ∙ last_append is 0 (take at es) (get_or es at d) ∙ ap (λ m. cond (is (get_or es at d)) (Some m) (last_from is 0 (take at es))) long

-- ---- fates

fates_append : (all : List Entry) (n : ℕ) (xs : List Entry) (y : Entry) → fates_from all n (xs ++ y ∷ []) ≡ fates_from all n xs ++ fate_of all (n + length xs) y ∷ []
fates_append all n [] y = let zero : n ≡ n + 0 = omega arith in ap (λ m. fate_of all m y ∷ []) zero
fates_append all n (x ∷ xs) y =
    let next : n + 1 + length xs ≡ n + suc (length xs) = omega arith in
    ap (λ fs. fate_of all n x ∷ fs) (fates_append all (n + 1) xs y ∙ ap (λ m. fates_from all (n + 1) xs ++ fate_of all m y ∷ []) next)

pub fates_more : (all es : List Entry) (at : ℕ) (d : Entry) → at < length es
    → fates_from all 0 (take (at + 1) es) ≡ fates_from all 0 (take at es) ++ fate_of all at (get_or es at d) ∷ []
fates_more all es at d within =
    let took = length-take-le at es (omega arith) in let long : 0 + length (take at es) ≡ at = omega (arith, took) in
    ap (fates_from all 0) (take_more es at d within) ∙ fates_append all 0 (take at es) (get_or es at d) ∙ ap (λ m. fates_from all 0 (take at es) ++ fate_of all m (get_or es at d) ∷ []) long
