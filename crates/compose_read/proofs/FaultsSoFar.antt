-- The first faults of the lines, as one more line is read.
use Rattle.std.proofs.Common.{◌≡◌, ◌≤◌, ℕ, suc, List, [], ◌∷◌, ◌++◌, length, take, sym, ◌∙◌, ap, ap₂, append_assoc}
use Rattle.std.specs.Prelude.{Option, Some, None}
use Rattle.std.specs.List.{filter_map, cons_option}
use Rattle.std.proofs.lemmas.List.{append-nil, take_all, take_at}

module _ {X Y : Type 0} (f : X → Option Y) (found whole : List Y) (left : List X) (n : ℕ) (reported : found ++ filter_map f (take n left) ≡ whole) where
  -- if the lines that are left have no fault, the faults found are all
  nothing_left : filter_map f (take n left) ≡ [] → whole ≡ found
  nothing_left h = sym reported ∙ ap (λ ys. found ++ ys) h ∙ append-nil found

  -- if no line that is left has a fault, the faults found are the first of all, provided that they
  -- are not too many
  pub all_found : (most : ℕ) → length found ≤ most → filter_map f (take n left) ≡ [] → found ≡ take most whole
  all_found most few h = sym (ap (take most) (nothing_left h) ∙ take_all most found few)

  -- if as many faults are found as are wanted, they are the first of all
  pub enough_found : (most : ℕ) → length found ≡ most → found ≡ take most whole
  enough_found most full = sym (ap (take most) (sym reported) ∙ take_at found (filter_map f (take n left)) most full)

  module _ (v : X) (others : List X) (m : ℕ) (is : left ≡ v ∷ others) (one : n ≡ suc m) where
    opened : found ++ cons_option (f v) (filter_map f (take m others)) ≡ whole
    opened = sym (ap₂ (λ k xs. found ++ filter_map f (take k xs)) one is) ∙ reported

    -- if the next line has no fault, the faults found and those of the other lines are still all
    pub nothing_more : None ≡ f v → found ++ filter_map f (take m others) ≡ whole
    nothing_more h = ap (λ o. found ++ cons_option o (filter_map f (take m others))) h ∙ opened

    -- if the next line has a fault, which is put after those found, they and those of the other
    -- lines are still all
    pub one_more : (y : Y) (after : List Y) → Some y ≡ f v → after ≡ found ++ y ∷ [] → after ++ filter_map f (take m others) ≡ whole
    one_more y after h pushed =
        ap (λ ys. ys ++ filter_map f (take m others)) pushed ∙ append_assoc found (y ∷ []) (filter_map f (take m others))
        ∙ ap (λ o. found ++ cons_option o (filter_map f (take m others))) h ∙ opened
