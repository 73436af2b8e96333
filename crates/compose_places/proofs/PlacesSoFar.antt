-- The places of the definitions among lines, after one more line.
use Rattle.std.proofs.Common.{◌≡◌, ℕ, suc, List, [], ◌∷◌, ◌++◌, Bool, true, false, cond, map, take, sym, ◌∙◌, ap, ap₂, append_assoc}
use Rattle.std.specs.Prelude.{filter}
use Rattle.std.proofs.lemmas.List.{append-nil}

module _ {X Y : Type 0} (test : X → Bool) (view : X → Y) (found whole : List Y) (left : List X) (n : ℕ) (decided : found ++ map view (filter test (take n left)) ≡ whole) where
  -- no line is left, or none is to be read
  pub all_found : map view (filter test (take n left)) ≡ [] → found ≡ whole
  all_found h = sym (append-nil found) ∙ ap (λ ys. found ++ ys) (sym h) ∙ decided

  module _ (v : X) (others : List X) (m : ℕ) (is : left ≡ v ∷ others) (one : n ≡ suc m) where
    opened : found ++ map view (cond (test v) (v ∷ filter test (take m others)) (filter test (take m others))) ≡ whole
    opened = sym (ap₂ (λ k xs. found ++ map view (filter test (take k xs))) one is) ∙ decided

    -- past a line that does not pass, what is found and what is still to come are the whole
    pub nothing_more : test v ≡ false → found ++ map view (filter test (take m others)) ≡ whole
    nothing_more h = ap (λ b. found ++ map view (cond b (v ∷ filter test (take m others)) (filter test (take m others)))) (sym h) ∙ opened

    -- past a line that passes and is found, what is found and what is still to come are the whole
    pub one_more : test v ≡ true → (after : List Y) → after ≡ found ++ view v ∷ [] → after ++ map view (filter test (take m others)) ≡ whole
    one_more h after pushed =
        ap (λ ys. ys ++ map view (filter test (take m others))) pushed ∙ append_assoc found (view v ∷ []) (map view (filter test (take m others)))
        ∙ ap (λ b. found ++ map view (cond b (v ∷ filter test (take m others)) (filter test (take m others)))) (sym h) ∙ opened
