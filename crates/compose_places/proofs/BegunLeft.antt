-- The lines that are left among those that pass a test, after one more line.
use Rattle.std.proofs.Common.{◌≡◌, ℕ, zero, suc, List, [], ◌∷◌, Bool, true, false, cond, take, drop, refl, sym, ◌∙◌, ap, ap₂}
use Rattle.std.specs.Prelude.{filter}

module _ {X : Type 0} (test : X → Bool) where
  none_of : (n : ℕ) → filter test (take n []) ≡ []
  none_of zero = refl
  none_of (suc n) = refl

  module _ (whole visits : List X) (n : ℕ) (left : filter test (take n visits) ≡ whole) where
    -- no line is left
    pub none_left : visits ≡ [] → [] ≡ whole
    none_left h = sym (none_of n) ∙ ap (λ xs. filter test (take n xs)) (sym h) ∙ left

    -- no line is to be read any more
    pub none_read : n ≡ 0 → [] ≡ whole
    none_read h = ap (λ m. filter test (take m visits)) (sym h) ∙ left

    pub still_none : n ≡ 0 → filter test (take n visits) ≡ drop 1 whole
    still_none h = left ∙ sym (none_read h) ∙ ap (drop 1) (none_read h)

    -- nothing is left after the last line
    pub none_after : (others : List X) → visits ≡ [] → others ≡ [] → filter test (take n others) ≡ drop 1 whole
    none_after others h e = ap (λ xs. filter test (take n xs)) e ∙ none_of n ∙ ap (drop 1) (none_left h)

    module _ (v : X) (others : List X) (m : ℕ) (is : visits ≡ v ∷ others) (one : n ≡ suc m) where
      opened : cond (test v) (v ∷ filter test (take m others)) (filter test (take m others)) ≡ whole
      opened = sym (ap₂ (λ k xs. filter test (take k xs)) one is) ∙ left

      -- a line that passes is the first
      pub first : test v ≡ true → v ∷ filter test (take m others) ≡ whole
      first h = ap (λ b. cond b (v ∷ filter test (take m others)) (filter test (take m others))) (sym h) ∙ opened

      -- the lines after one that passes
      pub others_left : test v ≡ true → filter test (take m others) ≡ drop 1 whole
      others_left h = ap (drop 1) (first h)

      -- a line that fails is left out
      pub left_out : test v ≡ false → filter test (take m others) ≡ whole
      left_out h = ap (λ b. cond b (v ∷ filter test (take m others)) (filter test (take m others))) (sym h) ∙ opened
