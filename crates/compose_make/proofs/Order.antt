-- The order of typings is total, so the better of two is found by comparing them.
use Rattle.std.proofs.Common.{◌≡◌, ◌⊎◌, ℕ, List, Bool, true, false, cond, ◌&&◌, ◌||◌, length, refl, sym, ◌∙◌, ap, inl, inr, arith, eq-eqb, Ordering, Less, Equal, Greater, nat_cmp}
use Rattle.std.specs.Prelude.{Option, Some, None, ◌==◌, nat_lt}
use Rattle.std.specs.Ordering.{ordering_reverse, is_lt, ordering_index}
use Rattle.std.specs.Cmp.Lexicographic.{slice_cmp}
use Rattle.std.proofs.lemmas.Cmp.{nat_list_cmp_total, is_lt_index}
use Rattle.std.proofs.lemmas.Map.Lookups.{exact_bytes}
use Rattle.std.proofs.lemmas.Bool.{or_cases, or_left, or_right, cases_Bool, cases_lt, ltb-true}
use Rattle.compose_model.specs.Table.{same, comes_before}
use Rattle.compose_model.proofs.NodeLemmas.{same_is, same_from}
use Rattle.compose_walk.specs.Evidence.{comes_first}
use Rattle.compose_walk.proofs.FirstOrder.{first_by_length, first_by_order, first_then}
use Rattle.compose_make.specs.Candidates.{IsLeastOf}
use Rattle.compose_make.specs.Wanted.{better}

-- ---- the order

-- of lists that are as long the order of sequences decides
pub as_long : (v w : List ℕ) (o : Ordering) → length v ≡ length w → o ≡ slice_cmp nat_cmp v w → (ordering_index o == 0) ≡ comes_first v w
as_long v w o n e =
    sym (is_lt_index o) ∙ ap is_lt e ∙ ap (λ b. b && comes_before v w) (sym (eq-eqb (length v) (length w) n))
    ∙ ap (λ b. b || (length v == length w && comes_before v w)) (sym (not_below (length v) (length w) n))
  where
    not_below : (a b : ℕ) → a ≡ b → nat_lt a b ≡ false
    not_below a b e = elim (cases_Bool (nat_lt a b)) [ inl h ↦ absurd (let l = ltb-true a b h in omega arith) | inr h ↦ h ]

-- of two lists one comes first, or they are the same
pub first_total : (v w : List ℕ) → comes_first w v ≡ false → (v ≡ w) ⊎ (comes_first v w ≡ true)
first_total v w h = elim (cases_lt (length v) (length w)) [
  | inl l ↦ inr (first_by_length v w l)
  | inr l ↦ elim (cases_lt (length w) (length v)) [
    | inl m ↦ absurd (let clash : true ≡ false = sym (first_by_length w v m) ∙ h in cc)
    | inr m ↦ go (slice_cmp nat_cmp v w) refl (let e : length v ≡ length w = omega arith in e)
  ]
]
  where
    go : (o : Ordering) → slice_cmp nat_cmp v w ≡ o → length v ≡ length w → (v ≡ w) ⊎ (comes_first v w ≡ true)
    go Less e n = inr (first_by_order v w n e)
    go Equal e n = inl (exact_bytes v w e)
    go Greater e n = absurd (
        let less : slice_cmp nat_cmp w v ≡ Less = nat_list_cmp_total.antisymm w v ∙ ap ordering_reverse e in
        let clash : true ≡ false = sym (first_by_order w v (sym n) less) ∙ h in cc)

-- ---- the least of the lists that pass

-- tests that say the same have the same least list
pub least_same : (p q : List ℕ → Bool) → ((v : List ℕ) → p v ≡ q v) → (o : Option (List ℕ)) → IsLeastOf p o → IsLeastOf q o
least_same p q alike None l = λ v h. l v (alike v ∙ h)
least_same p q alike (Some w) l = (sym (alike w) ∙ l.0, λ v h. l.1 v (alike v ∙ h))

-- one more list that passes
pub least_more : (p : List ℕ → Bool) (w : List ℕ) (o : Option (List ℕ)) → IsLeastOf p o → IsLeastOf (λ v. p v || same v w) (better o w)
least_more p w None l = (or_right (p w) (same w w) (same_from w w refl), λ v h. elim (or_cases (p v) (same v w) h) [ inl e ↦ absurd (l v e) | inr e ↦ inl (sym (same_is v w e)) ])
least_more p w (Some u) l = go (comes_first w u) refl
  where
    go : (b : Bool) → comes_first w u ≡ b → IsLeastOf (λ v. p v || same v w) (cond b (Some w) (Some u))
    go true e = (
      or_right (p w) (same w w) (same_from w w refl),
      λ v h. elim (or_cases (p v) (same v w) h) [
        | inl a ↦ elim (l.1 v a) [ inl is ↦ inr (ap (comes_first w) (sym is) ∙ e) | inr f ↦ inr (first_then w u v e f) ]
        | inr a ↦ inl (sym (same_is v w a))
      ],
    )
    go false e = (
      or_left (p u) (same u w) l.0,
      λ v h. elim (or_cases (p v) (same v w) h) [
        | inl a ↦ l.1 v a
        | inr a ↦ (let is = same_is v w a in elim (first_total u w e) [ inl f ↦ inl (f ∙ sym is) | inr f ↦ inr (ap (comes_first u) is ∙ f) ])
      ],
    )
