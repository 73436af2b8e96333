-- Faults that are reported, one after another.
use Rattle.std.proofs.Common.{◌≡◌, ℕ, suc, ◌+◌, ◌-◌, ◌<◌, List, [], ◌∷◌, ◌++◌, true, false, cond, length, take, drop, get_or, sym, ap, ◌∙◌, arith}
use Rattle.std.proofs.Math.Seq.{drop-cons}
use Rattle.std.specs.Prelude.{flat_map}
use Rattle.std.proofs.lemmas.List.{length_push, append_assoc}
use Rattle.compose_read.specs.declared.ReadFault.{ReadFault}
use Rattle.compose_details.specs.Faulty.{place_of, is_among, each_once}

-- a fault in a reported line is left out
pub reported_before : (reported : List (ℕ × ℕ)) (f : ReadFault) (fs : List ReadFault) → is_among reported (place_of f) ≡ true → each_once reported (f ∷ fs) ≡ each_once reported fs
reported_before reported f fs e = ap (λ b. cond b (each_once reported fs) (f ∷ each_once (reported ++ place_of f ∷ []) fs)) e

one_more : (F : ReadFault → List ℕ) (n m : ℕ) (f : ReadFault) (fs : List ReadFault) → n ≡ suc m → flat_map F (take n (f ∷ fs)) ≡ F f ++ flat_map F (take m fs)
one_more F n m f fs e = ap (λ k. flat_map F (take k (f ∷ fs))) e

-- any other fault is reported, and one fewer may follow
pub reported_next : (F : ReadFault → List ℕ) (reported : List (ℕ × ℕ)) (f : ReadFault) (fs : List ReadFault) → is_among reported (place_of f) ≡ false → length reported < 20
    → flat_map F (take (20 - length reported) (each_once reported (f ∷ fs))) ≡ F f ++ flat_map F (take (20 - length (reported ++ place_of f ∷ [])) (each_once (reported ++ place_of f ∷ []) fs))
reported_next F reported f fs e few =
    let more = length_push reported (place_of f) in
    let count : 20 - length reported ≡ suc (20 - length (reported ++ place_of f ∷ [])) = omega (arith, more, few) in
    ap (λ b. flat_map F (take (20 - length reported) (cond b (each_once reported fs) (f ∷ each_once (reported ++ place_of f ∷ []) fs)))) e
    ∙ one_more F (20 - length reported) (20 - length (reported ++ place_of f ∷ [])) f (each_once (reported ++ place_of f ∷ []) fs) count

-- one fault further: it is in a line that is not reported yet, and its line is added
pub reported_more : (F : ReadFault → List ℕ) (reported more : List (ℕ × ℕ)) (others : List ReadFault) (i : ℕ) (d : ReadFault) (place : ℕ × ℕ) (t u goal : List ℕ)
    → i < length others → place ≡ place_of (get_or others i d) → is_among reported place ≡ false → length reported < 20 → more ≡ reported ++ place ∷ [] → u ≡ t ++ F (get_or others i d)
    → t ++ flat_map F (take (20 - length reported) (each_once reported (drop i others))) ≡ goal
    → u ++ flat_map F (take (20 - length more) (each_once more (drop (i + 1) others))) ≡ goal
reported_more F reported more others i d place t u goal within is_place fresh few is_more is_text before =
    let f = get_or others i d in
    let one : suc i ≡ i + 1 = omega arith in
    let at : drop i others ≡ f ∷ drop (i + 1) others = drop-cons others i d within ∙ ap (λ n. f ∷ drop n others) one in
    let same : more ≡ reported ++ place_of f ∷ [] = is_more ∙ ap (λ p. reported ++ p ∷ []) is_place in
    let none : is_among reported (place_of f) ≡ false = ap (is_among reported) (sym is_place) ∙ fresh in
    ap (λ x. x ++ flat_map F (take (20 - length more) (each_once more (drop (i + 1) others)))) is_text
    ∙ ap (λ ts. (t ++ F f) ++ flat_map F (take (20 - length ts) (each_once ts (drop (i + 1) others)))) same
    ∙ append_assoc t (F f) (flat_map F (take (20 - length (reported ++ place_of f ∷ [])) (each_once (reported ++ place_of f ∷ []) (drop (i + 1) others))))
    ∙ ap (λ x. t ++ x) (sym (reported_next F reported f (drop (i + 1) others) none few))
    ∙ ap (λ fs. t ++ flat_map F (take (20 - length reported) (each_once reported fs))) (sym at)
    ∙ before
