-- The value that occurs most often with a key.
use Rattle.std.proofs.Common.{◌≡◌, ◌∙◌, ℕ, ◌+◌, ◌<◌, ◌≤◌, ◌≢◌, Bool, true, false, not, cond, ◌&&◌, ◌||◌, List, [], ◌∷◌, ◌++◌, length, take, get_or, refl, sym, ap, ap₂, subst, inl, inr, arith}
use Rattle.std.specs.Prelude.{Option, Some, None, unwrap_or, bytes_eq, nat_lt, nat_le, ◌==◌}
use Rattle.std.specs.List.{list_any}
use Rattle.std.proofs.lemmas.Bool.{and_parts, and_from, and_left, and_cases, or_cases, or_left, or_right, cases_Bool, ltb-true, ltb-false, lt-ltb, leb-true, eqb-true, eqb-false, not-true, not-false, false_from_ne_true, both_ways}
use Rattle.std.proofs.lemmas.Slice.Eq.{bytes_eq-Decides}
use Rattle.std.proofs.lemmas.List.{take_more}
use Rattle.std.proofs.lemmas.List.Sums.{count_by_more_yes, count_by_more_no}
use Rattle.compose_lint.specs.Commonest.{Note, times, is_commonest, has_other, Leading, next_leading, Leads, IsLed, leads_other}
use Rattle.compose_lint.proofs.Tests.{any_more, all_more, one_of_all, all_from, none_from, all_none, all_both, any_from}

same : (x y : List ℕ) → bytes_eq x y ≡ true → x ≡ y
same x y e = (bytes_eq-Decides x y).0 e

alike : (x : List ℕ) → bytes_eq x x ≡ true
alike x = (bytes_eq-Decides x x).1 refl

-- ---- counting

abbrev pub is_pair : List ℕ → List ℕ → Note → Bool
is_pair k v m = bytes_eq m.key k && bytes_eq m.value v

-- ---- the leading value, when a note is added

module _ (f : List ℕ → ℕ) (k : List ℕ) where
  abbrev pub is_key : Note → Bool
  is_key n = bytes_eq n.key k

  abbrev pub is_here : List ℕ → Note → Bool
  is_here v n = is_key n && bytes_eq n.value v

  abbrev pub is_at_most : ℕ → Note → Bool
  is_at_most c n = not (is_key n) || nat_le (f n.value) c

  abbrev pub is_as_often : List ℕ → ℕ → Note → Bool
  is_as_often v c n = is_key n && (not (bytes_eq n.value v) && f n.value == c)

  or_true : (b : Bool) → (b || true) ≡ true
  or_true true = refl
  or_true false = refl

  or_false : (b : Bool) → (b || false) ≡ b
  or_false true = refl
  or_false false = refl

  -- the first value with the key
  pub first_leads : (ys : List Note) (x : Note) → list_any is_key ys ≡ false → is_key x ≡ true → Leads f k (ys ++ x ∷ []) (record { value = x.value; count = f x.value; is_tied = false })
  first_leads ys x none is =
      let v = x.value in let others = all_none is_key ys none in record {
        here = any_more (is_here v) ys x ∙ or_right (list_any (is_here v) ys) (is_here v x) (and_from _ _ is (alike v));
        counted = refl;
        most = all_more (is_at_most (f v)) ys x ∙ and_from _ _ (all_from (λ n. not (is_key n)) (is_at_most (f v)) ys (λ n e. or_left (not (is_key n)) _ e) others) (or_right (not (is_key x)) _ (grind arith));
        tied = sym (any_more (is_as_often v (f v)) ys x
            ∙ ap₂ (λ a b. a || b)
            (none_from (λ n. not (is_key n)) (is_as_often v (f v)) ys (λ n e. and_left (is_key n) _ (not-true (is_key n) e)) others)
            (let h : is_as_often v (f v) x ≡ false = ap (λ b. is_key x && (not b && f v == f v)) (alike v) ∙ ap (λ b. b && false) is in h));
      }

  -- a note of another key
  pub other_key : (ys : List Note) (x : Note) (o : Option Leading) → is_key x ≡ false → IsLed f k ys o → IsLed f k (ys ++ x ∷ []) o
  other_key ys x None not_it none = any_more is_key ys x ∙ ap₂ (λ a b. a || b) none not_it
  other_key ys x (Some l) not_it led = record {
    here = any_more (is_here l.value) ys x ∙ or_left (list_any (is_here l.value) ys) (is_here l.value x) led.here;
    counted = led.counted;
    most = all_more (is_at_most l.count) ys x ∙ and_from _ _ led.most (or_left (not (is_key x)) _ (ap not not_it));
    tied = led.tied ∙ sym (any_more (is_as_often l.value l.count) ys x ∙ ap (λ b. list_any (is_as_often l.value l.count) ys || b) (and_left (is_key x) _ not_it) ∙ or_false _);
  }

-- ---- the leading value and the other values

module _ (notes : List Note) (k : List ℕ) where
  abbrev f : List ℕ → ℕ
  f v = times notes k v

  abbrev is_another : List ℕ → Note → Bool
  is_another v n = bytes_eq n.key k && (not (bytes_eq n.value v) && is_commonest notes k n.value)

  -- the commonest one is the leading one, which is not tied
  is_leading : (l : Leading) → Leads f k notes l → (n : Note) → is_at_most f k l.count n ≡ true → bytes_eq n.key k ≡ true → is_commonest notes k n.value ≡ true
      → (l.value ≡ n.value) × (l.is_tied ≡ false)
  is_leading l led n below is commonest = (equal, untied)
    where
      at_most : f n.value ≤ f l.value
      at_most = elim (or_cases (not (bytes_eq n.key k)) _ below) [
        | inl not_it ↦ absurd (both_ways (bytes_eq n.key k) (not-true _ not_it) is)
        | inr le ↦ let h = leb-true (f n.value) l.count le in omega (arith, h, led.counted)
      ]

      equal : l.value ≡ n.value
      equal = let m = one_of_all (λ (m : Note). not (bytes_eq m.key k) || (bytes_eq m.value n.value || nat_lt (f m.value) (f n.value))) (is_here f k l.value) notes commonest led.here in
          let h = and_parts (bytes_eq m.0.key k) (bytes_eq m.0.value l.value) m.2 in
          let is_l : m.0.value ≡ l.value = same _ _ h.1 in
          elim (or_cases (not (bytes_eq m.0.key k)) _ m.1) [
            | inl not_it ↦ absurd (both_ways (bytes_eq m.0.key k) (not-true _ not_it) h.0)
            | inr e ↦ elim (or_cases (bytes_eq m.0.value n.value) _ e) [
              | inl is_n ↦ sym is_l ∙ same _ _ is_n
              | inr lt ↦ absurd (let h = ltb-true (f m.0.value) (f n.value) lt in let g : f m.0.value ≡ f l.value = ap f is_l in omega (arith, h, g, at_most))
            ]
          ]

      untied : l.is_tied ≡ false
      untied = false_from_ne_true l.is_tied (λ tied.
          (let m = one_of_all (λ (m : Note). not (bytes_eq m.key k) || (bytes_eq m.value n.value || nat_lt (f m.value) (f n.value))) (is_as_often f k l.value l.count) notes commonest (sym led.tied ∙ tied) in
          let h = and_parts (bytes_eq m.0.key k) _ m.2 in
          let g = and_parts (not (bytes_eq m.0.value l.value)) (f m.0.value == l.count) h.1 in
          elim (or_cases (not (bytes_eq m.0.key k)) _ m.1) [
            | inl not_it ↦ both_ways (bytes_eq m.0.key k) (not-true _ not_it) h.0
            | inr e ↦ elim (or_cases (bytes_eq m.0.value n.value) _ e) [
              | inl is_n ↦ both_ways (bytes_eq m.0.value l.value) (not-true _ g.0) ((bytes_eq-Decides m.0.value l.value).1 (same _ _ is_n ∙ sym equal))
              | inr lt ↦ let a = ltb-true (f m.0.value) (f n.value) lt in let b = eqb-true (f m.0.value) l.count g.1 in omega (arith, a, b, at_most, led.counted)
            ]
          ]))

  -- the leading one is the commonest if it is not tied
  commonest_if : (l : Leading) → Leads f k notes l → l.is_tied ≡ false → is_commonest notes k l.value ≡ true
  commonest_if l led untied =
      all_from (λ (n : Note). is_at_most f k l.count n && not (is_as_often f k l.value l.count n))
      (λ (n : Note). not (bytes_eq n.key k) || (bytes_eq n.value l.value || nat_lt (f n.value) (f l.value))) notes
      (λ n e. each n (and_parts _ _ e).0 (not-true _ (and_parts _ _ e).1))
      (all_both (is_at_most f k l.count) (λ (n : Note). not (is_as_often f k l.value l.count n)) notes led.most (all_none (is_as_often f k l.value l.count) notes (sym led.tied ∙ untied)))
    where
      each : (n : Note) → is_at_most f k l.count n ≡ true → is_as_often f k l.value l.count n ≡ false
          → (not (bytes_eq n.key k) || (bytes_eq n.value l.value || nat_lt (f n.value) (f l.value))) ≡ true
      each n below not_as = elim (cases_Bool (bytes_eq n.key k)) [
        | inr not_it ↦ or_left (not (bytes_eq n.key k)) _ (ap not not_it)
        | inl is ↦ or_right (not (bytes_eq n.key k)) _ (elim (cases_Bool (bytes_eq n.value l.value)) [
          | inl e ↦ or_left (bytes_eq n.value l.value) _ e
          | inr ne ↦ or_right (bytes_eq n.value l.value) _ (lt-ltb (f n.value) (f l.value) (elim (or_cases (not (bytes_eq n.key k)) _ below) [
            | inl not_it ↦ absurd (both_ways (bytes_eq n.key k) (not-true _ not_it) is)
            | inr le ↦ elim (and_cases (bytes_eq n.key k) _ not_as) [
              | inl not_it ↦ absurd (both_ways (bytes_eq n.key k) not_it is)
              | inr h ↦ elim (and_cases (not (bytes_eq n.value l.value)) _ h) [
                | inl eq ↦ absurd (both_ways (bytes_eq n.value l.value) ne (not-false _ eq))
                | inr differ ↦ let a = leb-true (f n.value) l.count le in let b : f n.value ≢ l.count = eqb-false (f n.value) l.count differ in omega (arith, a, b, led.counted)
              ]
            ]
          ]))
        ])
      ]

  pub read_off : (v : List ℕ) (o : Option Leading) → IsLed f k notes o → leads_other v o ≡ has_other notes k v
  read_off v None none = sym (none_from (λ (n : Note). not (bytes_eq n.key k)) (is_another v) notes (λ n e. and_left (bytes_eq n.key k) _ (not-true _ e)) (all_none (λ (n : Note). bytes_eq n.key k) notes none))
  read_off v (Some l) led = by (not l.is_tied && not (bytes_eq l.value v)) refl
    where
      by : (b : Bool) → (not l.is_tied && not (bytes_eq l.value v)) ≡ b → b ≡ has_other notes k v
      by true e =
          let h = and_parts (not l.is_tied) (not (bytes_eq l.value v)) e in
          sym (any_from (is_at_most f k l.count) (is_here f k l.value) (is_another v) notes
          (λ n _ here. (let g = and_parts (bytes_eq n.key k) (bytes_eq n.value l.value) here in let is_l : n.value ≡ l.value = same _ _ g.1 in
          and_from _ _ g.0 (and_from _ _ (ap (λ x. not (bytes_eq x v)) is_l ∙ h.1) (ap (is_commonest notes k) is_l ∙ commonest_if l led (not-true _ h.0)))))
          led.most led.here)
      by false e = sym (false_from_ne_true (has_other notes k v) (λ other.
          (let n = one_of_all (is_at_most f k l.count) (is_another v) notes led.most other in
          let h = and_parts (bytes_eq n.0.key k) _ n.2 in let g = and_parts (not (bytes_eq n.0.value v)) _ h.1 in
          let led_by = is_leading l led n.0 n.1 h.0 g.1 in
          both_ways (not l.is_tied && not (bytes_eq l.value v)) e (and_from _ _ (ap not led_by.1) (ap (λ x. not (bytes_eq x v)) led_by.0 ∙ g.0)))))
