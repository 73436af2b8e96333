-- Increasing pairs, from one to the next.
use Rattle.std.proofs.Common.{◌≡◌, ℕ, ◌+◌, ◌-◌, ◌≤◌, List, [], ◌∷◌, true, ◌&&◌, length, drop, refl, sym, ◌∙◌, ap, arith}
use Rattle.std.specs.Prelude.{slice_get, Some}
use Rattle.compose_model.specs.Certificate.{is_pair_before, pairs_rise}
use Rattle.compose_fresh.proofs.Unmet.{drop_at}

-- a pair, the next one, and those that follow
pub next_rises : (xs : List (ℕ × ℕ)) (i : ℕ) (p q : ℕ × ℕ) → 1 ≤ i → slice_get xs (i - 1) ≡ Some p → slice_get xs i ≡ Some q
    → pairs_rise (drop (i - 1) xs) ≡ is_pair_before p q && pairs_rise (drop (i + 1 - 1) xs)
next_rises xs i p q low e f =
    let this : drop i xs ≡ q ∷ drop (i + 1) xs = drop_at xs i q f in
    let same : i - 1 + 1 ≡ i = omega arith in
    let back : i ≡ i + 1 - 1 = omega arith in
    ap pairs_rise (drop_at xs (i - 1) p e ∙ ap (λ n. p ∷ drop n xs) same ∙ ap (λ ys. p ∷ ys) this)
    ∙ ap (λ ys. is_pair_before p q && pairs_rise ys) (sym this ∙ ap (λ n. drop n xs) back)

-- at most one pair is always increasing
pub short_rises : (xs : List (ℕ × ℕ)) → length xs ≤ 1 → pairs_rise xs ≡ true
short_rises [] h = refl
short_rises (p ∷ []) h = refl
short_rises (p ∷ q ∷ xs) h = absurd (omega arith)
