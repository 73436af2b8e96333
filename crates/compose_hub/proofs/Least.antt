-- The slot with the least number.
use Rattle.std.proofs.Common.{◌≡◌, ℕ, ◌+◌, ◌<◌, ◌≤◌, List, Bool, true, false, cond, get_or, refl, sym, ◌∙◌, subst, inl, inr, arith}
use Rattle.std.proofs.lemmas.Bool.{ltb-true, ltb-false}
use Rattle.std.specs.Prelude.{◌==◌, ◌⊎◌, Option, Some, None, nat_lt}
use Rattle.compose_hub.specs.declared.client.Client.{Client}
use Rattle.compose_hub.proofs.Slots.{same_or}
use Rattle.compose_hub.specs.Rounds.{lesser, LeastTo}

last_or : (j i : ℕ) → j < i + 1 → (j < i) ⊎ (j ≡ i)
last_or j i h = elim (same_or j i (j == i) refl) [ inl e ↦ inr e | inr ne ↦ inl (omega arith) ]

module _ (of : Option Client → Option ℕ) (slots : List (Option Client)) (i : ℕ) where
  -- one more slot, which has no number
  none_more : (least : Option (ℕ × ℕ)) → LeastTo of slots i least → of (get_or slots i None) ≡ None → LeastTo of slots (i + 1) least
  none_more None h e = λ j lt. by j (last_or j i lt)
    where
      by : (j : ℕ) → (j < i) ⊎ (j ≡ i) → of (get_or slots j None) ≡ None
      by j (inl l) = h j l
      by j (inr s) = subst (λ (n : ℕ). of (get_or slots n None) ≡ None) (sym s) e
  none_more (Some w) h e = ((let lt = h.0 in omega arith), h.1, λ j n lt f. by j n f (last_or j i lt))
    where
      by : (j n : ℕ) → of (get_or slots j None) ≡ Some n → (j < i) ⊎ (j ≡ i) → w.1 ≤ n
      by j n f (inl l) = h.2 j n l f
      by j n f (inr s) = let g = subst (λ (m : ℕ). of (get_or slots m None) ≡ Some n) s f in let no : None ≡ Some n = sym e ∙ g in absurd (cc)

  -- one more slot, which has this number
  module _ (m : ℕ) (e : of (get_or slots i None) ≡ Some m) where
    is_own : (n : ℕ) → of (get_or slots i None) ≡ Some n → m ≤ n
    is_own n f = let same : Some m ≡ Some n = sym e ∙ f in let is : m ≡ n = cc in omega arith

    here : (j n : ℕ) → j ≡ i → of (get_or slots j None) ≡ Some n → m ≤ n
    here j n s f = is_own n (subst (λ (k : ℕ). of (get_or slots k None) ≡ Some n) s f)

    first_more : LeastTo of slots i None → LeastTo of slots (i + 1) (Some (i, m))
    first_more h = (omega arith, e, λ j n lt f. by j n f (last_or j i lt))
      where
        by : (j n : ℕ) → of (get_or slots j None) ≡ Some n → (j < i) ⊎ (j ≡ i) → m ≤ n
        by j n f (inl l) = let no : None ≡ Some n = sym (h j l) ∙ f in absurd (cc)
        by j n f (inr s) = here j n s f

    module _ (w : ℕ × ℕ) (h : LeastTo of slots i (Some w)) where
      sooner : m < w.1 → LeastTo of slots (i + 1) (Some (i, m))
      sooner less = (omega arith, e, λ j n lt f. by j n f (last_or j i lt))
        where
          by : (j n : ℕ) → of (get_or slots j None) ≡ Some n → (j < i) ⊎ (j ≡ i) → m ≤ n
          by j n f (inl l) = let than = h.2 j n l f in omega arith
          by j n f (inr s) = here j n s f

      later : w.1 ≤ m → LeastTo of slots (i + 1) (Some w)
      later than = ((let lt = h.0 in omega arith), h.1, λ j n lt f. by j n f (last_or j i lt))
        where
          by : (j n : ℕ) → of (get_or slots j None) ≡ Some n → (j < i) ⊎ (j ≡ i) → w.1 ≤ n
          by j n f (inl l) = h.2 j n l f
          by j n f (inr s) = let own = here j n s f in omega arith

      either : (b : Bool) → nat_lt m w.1 ≡ b → LeastTo of slots (i + 1) (cond b (Some (i, m)) (Some w))
      either true t = sooner (ltb-true m w.1 t)
      either false t = later (ltb-false m w.1 t)

  -- one more slot
  pub least_more : (least : Option (ℕ × ℕ)) (number : Option ℕ) → LeastTo of slots i least → of (get_or slots i None) ≡ number → LeastTo of slots (i + 1) (lesser least i number)
  least_more least None h e = none_more least h e
  least_more None (Some m) h e = first_more m e h
  least_more (Some w) (Some m) h e = either m e w h (nat_lt m w.1) refl
