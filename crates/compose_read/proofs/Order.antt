-- Sequences in their order: a proper prefix comes before its extensions, and is a prefix of all
-- that come between.
use Rattle.std.proofs.Common.{◌≡◌, ℕ, List, [], ◌∷◌, Bool, true, false, cond, ◌&&◌, refl, sym, ◌∙◌, ap, inl, inr, Less, Equal, Greater, nat_cmp, nat_lt, eqb-true, arith}
use Rattle.std.specs.Prelude.{◌==◌}
use Rattle.std.specs.declared.cmp.Ordering.{Ordering}
use Rattle.std.specs.Ordering.{is_lt, ordering_reverse, ordering_then}
use Rattle.std.specs.Cmp.Lexicographic.{slice_cmp}
use Rattle.std.proofs.lemmas.Cmp.{nat_list_cmp_total}
use Rattle.std.proofs.lemmas.Bool.{and_parts, and_from, le-ltb, cases_Bool}
use Rattle.std.proofs.lemmas.Map.Lookups.{exact_bytes}
use Rattle.compose_model.specs.Table.{same, is_proper_prefix}
use Rattle.compose_model.proofs.NodeLemmas.{same_is}

-- one list comes before another in the order of sequences
abbrev pub Before : List ℕ → List ℕ → Type 0
Before s t = slice_cmp nat_cmp s t ≡ Less

-- of two lists, not each comes before the other
pub not_both : (s t : List ℕ) → Before s t → Before t s → ⊥
not_both s t e f = let g : Less ≡ Greater = sym e ∙ nat_list_cmp_total.antisymm s t ∙ ap ordering_reverse f in cc

-- no list comes before itself
pub not_itself : (s : List ℕ) → is_lt (slice_cmp nat_cmp s s) ≡ false
not_itself s = go (slice_cmp nat_cmp s s) refl
  where
    go : (o : Ordering) → slice_cmp nat_cmp s s ≡ o → is_lt o ≡ false
    go Less e = absurd (not_both s s e e)
    go Equal e = refl
    go Greater e = refl

-- a list that comes before another is not the same
pub not_same : (s t : List ℕ) → Before s t → same t s ≡ false
not_same s t h = elim (cases_Bool (same t s)) [
  | inl e ↦ absurd (let b : Before s s = ap (slice_cmp nat_cmp s) (sym (same_is t s e)) ∙ h in not_both s s b b)
  | inr e ↦ e
]

-- what comes before s comes before t, if s does not come after t
pub before_later : (r s t : List ℕ) → Before r s → is_lt (slice_cmp nat_cmp t s) ≡ false → Before r t
before_later r s t h l = go (slice_cmp nat_cmp s t) refl
  where
    go : (o : Ordering) → slice_cmp nat_cmp s t ≡ o → Before r t
    go Less e = nat_list_cmp_total.trans r s t h e
    go Equal e = ap (slice_cmp nat_cmp r) (sym (exact_bytes s t e)) ∙ h
    go Greater e = absurd (
        let f : slice_cmp nat_cmp t s ≡ Less = nat_list_cmp_total.antisymm t s ∙ ap ordering_reverse e in
        let clash : true ≡ false = sym (ap is_lt f) ∙ l in cc)

-- ---- prefixes

equal_numbers : (x y : ℕ) → x == y ≡ true → nat_cmp x y ≡ Equal
equal_numbers x y h =
    let is : x ≡ y = eqb-true x y h in
    let least : nat_lt x y ≡ false = le-ltb x y (omega arith) in
    ap (λ b. cond b Less (cond (x == y) Equal Greater)) least ∙ ap (λ b. cond b Equal Greater) h

equal_from : (x y : ℕ) → nat_cmp x y ≡ Equal → x == y ≡ true
equal_from x y h = go (nat_lt x y) (x == y) h
  where
    go : (a b : Bool) → cond a Less (cond b Equal Greater) ≡ Equal → b ≡ true
    go true b e = cc
    go false true e = refl
    go false false e = cc

-- a proper prefix comes before its extensions
pub prefix_before : (p s : List ℕ) → is_proper_prefix p s ≡ true → Before p s
prefix_before p [] h = cc
prefix_before [] (y ∷ s) h = refl
prefix_before (x ∷ p) (y ∷ s) h =
    let a = and_parts (x == y) (is_proper_prefix p s) h in
    ap (λ o. ordering_then o (slice_cmp nat_cmp p s)) (equal_numbers x y a.0) ∙ prefix_before p s a.1

-- no list is a proper prefix of itself
pub not_own_prefix : (s : List ℕ) → is_proper_prefix s s ≡ false
not_own_prefix s = elim (cases_Bool (is_proper_prefix s s)) [
  | inl e ↦ absurd (let b = prefix_before s s e in not_both s s b b)
  | inr e ↦ e
]

-- what comes later is not a prefix
pub later_no_prefix : (s t : List ℕ) → Before s t → is_proper_prefix t s ≡ false
later_no_prefix s t h = elim (cases_Bool (is_proper_prefix t s)) [
  | inl e ↦ absurd (not_both s t h (prefix_before t s e))
  | inr e ↦ e
]

-- a prefix of s is a prefix of all between it and s
pub prefix_of_between : (p q s : List ℕ) → is_proper_prefix p s ≡ true → Before p q → is_lt (slice_cmp nat_cmp s q) ≡ false → is_proper_prefix p q ≡ true
prefix_of_between [] [] s h b l = cc
prefix_of_between [] (z ∷ q) s h b l = refl
prefix_of_between (x ∷ p) q [] h b l = cc
prefix_of_between (x ∷ p) [] (y ∷ s) h b l = cc
prefix_of_between (x ∷ p) (z ∷ q) (y ∷ s) h b l =
    let a = and_parts (x == y) (is_proper_prefix p s) h in
    let is : x ≡ y = eqb-true x y a.0 in
    go (nat_cmp x z) refl (prefix_of_between p q s a.1) b (ap (λ n. is_lt (ordering_then (nat_cmp n z) (slice_cmp nat_cmp s q))) is ∙ l)
  where
    go : (o : Ordering) → nat_cmp x z ≡ o → (Before p q → is_lt (slice_cmp nat_cmp s q) ≡ false → is_proper_prefix p q ≡ true) → ordering_then o (slice_cmp nat_cmp p q) ≡ Less
        → is_lt (ordering_then (nat_cmp x z) (slice_cmp nat_cmp s q)) ≡ false
        → x == z && is_proper_prefix p q ≡ true
    go Less e f c m = let clash : true ≡ false = sym (ap (λ r. is_lt (ordering_then r (slice_cmp nat_cmp s q))) e) ∙ m in cc
    go Equal e f c m = and_from (x == z) (is_proper_prefix p q) (equal_from x z e)
        (f c (sym (ap (λ r. is_lt (ordering_then r (slice_cmp nat_cmp s q))) e) ∙ m))
    go Greater e f c m = cc
