-- The texts of the sequences that people lose.
use Rattle.std.proofs.Common.{◌≡◌, ◌∙◌, ℕ, ◌+◌, ◌<◌, List, [], ◌∷◌, ◌++◌, Bool, true, false, ◌||◌, Bor, map, refl, sym, ap, inl, inr, arith}
use Rattle.std.specs.Prelude.{bytes_eq, IsTrue}
use Rattle.std.proofs.lemmas.Bool.{cases_lt}
use Rattle.std.proofs.lemmas.Slice.Eq.{bytes_eq-Decides}
use Rattle.compose_lookup.specs.TextIndex.{is_among}

or_later : {b : Bool} (a : Bool) → b ≡ true → (a || b) ≡ true
or_later true h = refl
or_later false h = h

-- a text among these is among them and one more
kept_among : (xs : List (Bor (List ℕ))) (t : Bor (List ℕ)) (q : List ℕ) → IsTrue (is_among (map (λ t. t.now) xs) q) → IsTrue (is_among (map (λ t. t.now) (xs ++ t ∷ [])) q)
kept_among [] t q h = let clash : false ≡ true = h in cc
kept_among (x ∷ xs) t q h = by (bytes_eq q x.now) (kept_among xs t q) h
  where
    by : (a : Bool) → (is_among (map (λ t. t.now) xs) q ≡ true → is_among (map (λ t. t.now) (xs ++ t ∷ [])) q ≡ true) → (a || is_among (map (λ t. t.now) xs) q) ≡ true
        → (a || is_among (map (λ t. t.now) (xs ++ t ∷ [])) q) ≡ true
    by true more e = refl
    by false more e = more e

-- and so is that one
added_among : (xs : List (Bor (List ℕ))) (t : Bor (List ℕ)) (q : List ℕ) → t.now ≡ q → IsTrue (is_among (map (λ t. t.now) (xs ++ t ∷ [])) q)
added_among [] t q is = ap (λ b. b || false) ((bytes_eq-Decides q t.now).1 (sym is))
added_among (x ∷ xs) t q is = or_later (bytes_eq q x.now) (added_among xs t q is)

module _ (is_lost : ℕ → Bool) (text : ℕ → List ℕ) where
  -- the texts of the lost ones below n are among these
  abbrev pub AreAmong : ℕ → List (Bor (List ℕ)) → Type 0
  AreAmong n xs = (i : ℕ) → i < n → IsTrue (is_lost i) → IsTrue (is_among (map (λ t. t.now) xs) (text i))

  -- with the next one, if it is lost
  pub one_lost : (n : ℕ) (xs : List (Bor (List ℕ))) (t : Bor (List ℕ)) → AreAmong n xs → t.now ≡ text n → AreAmong (n + 1) (xs ++ t ∷ [])
  one_lost n xs t all is i below lost = elim (cases_lt i n) [
    | inl h ↦ kept_among xs t (text i) (all i h lost)
    | inr h ↦ (let last : n ≡ i = omega arith in added_among xs t (text i) (is ∙ ap text last))
  ]

  -- without it, if it is not
  pub one_kept : (n : ℕ) (xs : List (Bor (List ℕ))) → AreAmong n xs → is_lost n ≡ false → AreAmong (n + 1) xs
  one_kept n xs all kept i below lost = elim (cases_lt i n) [
    | inl h ↦ all i h lost
    | inr h ↦ (let last : n ≡ i = omega arith in let clash : false ≡ true = sym kept ∙ ap is_lost last ∙ lost in cc)
  ]
