-- The leading value with each key, when a note is counted.
use Rattle.std.proofs.Common.{◌≡◌, ◌∙◌, ℕ, ◌+◌, ◌<◌, ◌≤◌, Bool, true, false, not, cond, ◌&&◌, ◌||◌, List, [], ◌∷◌, ◌++◌, length, take, get_or, refl, sym, ap, ap₂, subst, inl, inr, arith}
use Rattle.std.specs.Prelude.{◌⊎◌, Option, Some, None, unwrap_or, bytes_eq, nat_lt, nat_le, ◌==◌}
use Rattle.std.specs.List.{list_any}
use Rattle.std.proofs.lemmas.Bool.{and_from, and_left, or_cases, or_parts, or_left, or_right, cases_Bool, ltb-true, ltb-false, leb-true, eqb-true, eqb-false, not-true, false_from_ne_true}
use Rattle.std.proofs.lemmas.Slice.Eq.{bytes_eq-Decides}
use Rattle.std.proofs.lemmas.List.{take_more}
use Rattle.std.proofs.lemmas.List.Sums.{sum_by-cons, count_by_more_yes, count_by_more_no}
use Rattle.compose_lint.specs.Commonest.{Note, times, Leading, next_leading, Leads, IsLed, count_of, other_count, IsTallied}
use Rattle.compose_lint.proofs.Tests.{any_more, all_more, all_from, none_from, any_same}
use Rattle.compose_lint.proofs.Leading.{is_pair, is_key, is_here, is_at_most, is_as_often, first_leads, other_key}

equal : (x y : List ℕ) → bytes_eq x y ≡ true → x ≡ y
equal x y e = (bytes_eq-Decides x y).0 e

is_equal : (x y : List ℕ) → x ≡ y → bytes_eq x y ≡ true
is_equal x y e = (bytes_eq-Decides x y).1 e

turned : (x y : List ℕ) → bytes_eq x y ≡ false → bytes_eq y x ≡ false
turned x y ne = false_from_ne_true (bytes_eq y x) (λ e. (let h : bytes_eq x y ≡ true = is_equal x y (sym (equal y x e)) in let t : true ≡ false = sym h ∙ ne in cc))

and_none : (b : Bool) → (b && false) ≡ false
and_none true = refl
and_none false = refl

-- ---- how often a value occurs

module _ (notes : List Note) (i : ℕ) (x : Note) (within : i < length notes) (is : x ≡ get_or notes i x) where
  times_more : (k v : List ℕ) → is_pair k v x ≡ true → times (take (i + 1) notes) k v ≡ times (take i notes) k v + 1
  times_more k v e = count_by_more_yes (is_pair k v) notes i x within (ap (is_pair k v) (sym is) ∙ e)

  times_same : (k v : List ℕ) → is_pair k v x ≡ false → times (take (i + 1) notes) k v ≡ times (take i notes) k v
  times_same k v e = count_by_more_no (is_pair k v) notes i x within (ap (is_pair k v) (sym is) ∙ e)

  with_it : take (i + 1) notes ≡ take i notes ++ x ∷ []
  with_it = take_more notes i x within ∙ ap (λ y. take i notes ++ y ∷ []) (sym is)

-- a value doesn't occur with a key that doesn't
none_counted : (k v : List ℕ) (ys : List Note) → list_any (λ (n : Note). bytes_eq n.key k) ys ≡ false → times ys k v ≡ 0
none_counted k v [] e = refl
none_counted k v (y ∷ ys) e =
    let h = or_parts (bytes_eq y.key k) (list_any (λ (n : Note). bytes_eq n.key k) ys) e in
    let zero : 0 + times ys k v ≡ times ys k v = omega arith in
    sum_by-cons (λ (n : Note). cond (is_pair k v n) 1 0) y ys
    ∙ ap (λ b. cond b 1 0 + times ys k v) (and_left (bytes_eq y.key k) (bytes_eq y.value v) h.0)
    ∙ zero ∙ none_counted k v ys h.1

-- ---- the leading value

-- with the same counts
led_same : (f g : List ℕ → ℕ) (k : List ℕ) (ys : List Note) (o : Option Leading) → ((w : List ℕ) → g w ≡ f w) → IsLed f k ys o → IsLed g k ys o
led_same f g k ys None same none = none
led_same f g k ys (Some l) same led = record {
  here = led.here;
  counted = led.counted ∙ sym (same l.value);
  most = all_from (is_at_most f k l.count) (is_at_most g k l.count) ys (λ n e. ap (λ m. not (bytes_eq n.key k) || nat_le m l.count) (same n.value) ∙ e) led.most;
  tied = led.tied ∙ any_same (is_as_often f k l.value l.count) (is_as_often g k l.value l.count) ys (λ n. ap (λ m. bytes_eq n.key k && (not (bytes_eq n.value l.value) && m == l.count)) (sym (same n.value)));
}

-- with one more of the value of a note
module _ (f g : List ℕ → ℕ) (k : List ℕ) (x : Note) (same : (w : List ℕ) → bytes_eq x.value w ≡ false → g w ≡ f w) (more : g x.value ≡ f x.value + 1) where
  is_or_same : (w : List ℕ) → (x.value ≡ w) ⊎ (g w ≡ f w)
  is_or_same w = elim (cases_Bool (bytes_eq x.value w)) [
    | inl e ↦ inl (equal x.value w e)
    | inr ne ↦ inr (same w ne)
  ]

  -- no value occurs more often than before, or than that of the note
  at_most : (c d : ℕ) → c ≤ d → g x.value ≤ d → (n : Note) → is_at_most f k c n ≡ true → is_at_most g k d n ≡ true
  at_most c d up enough n e = elim (or_cases (not (bytes_eq n.key k)) (nat_le (f n.value) c) e) [
    | inl not_it ↦ or_left (not (bytes_eq n.key k)) (nat_le (g n.value) d) not_it
    | inr le ↦ or_right (not (bytes_eq n.key k)) (nat_le (g n.value) d) (elim (is_or_same n.value) [
      | inl eq ↦ let h : g x.value ≡ g n.value = ap g eq in grind (arith, h, enough)
      | inr s ↦ let h = leb-true (f n.value) c le in grind (arith, h, s, up)
    ])
  ]

  -- the value of the note leads now
  leads_now : (ys : List Note) (l : Leading) → Leads f k ys l → bytes_eq x.key k ≡ true → l.count < g x.value → Leads g k (ys ++ x ∷ []) (record { value = x.value; count = g x.value; is_tied = false })
  leads_now ys l led it often =
      let v = x.value in record {
        here = any_more (is_here g k v) ys x ∙ or_right (list_any (is_here g k v) ys) (is_here g k v x) (and_from _ _ it (is_equal v v refl));
        counted = refl;
        most = all_more (is_at_most g k (g v)) ys x
            ∙ and_from _ _ (all_from (is_at_most f k l.count) (is_at_most g k (g v)) ys (at_most l.count (g v) (omega arith) (omega arith)) led.most) (or_right (not (bytes_eq x.key k)) _ (grind arith));
        tied = sym (any_more (is_as_often g k v (g v)) ys x
            ∙ ap₂ (λ a b. a || b) (none_from (is_at_most f k l.count) (is_as_often g k v (g v)) ys none led.most)
            (ap (λ b. bytes_eq x.key k && (not b && g v == g v)) (is_equal v v refl) ∙ and_none (bytes_eq x.key k)));
      }
    where
      none : (n : Note) → is_at_most f k l.count n ≡ true → is_as_often g k x.value (g x.value) n ≡ false
      none n e = elim (or_cases (not (bytes_eq n.key k)) (nat_le (f n.value) l.count) e) [
        | inl not_it ↦ and_left (bytes_eq n.key k) _ (not-true _ not_it)
        | inr le ↦ elim (is_or_same n.value) [
          | inl eq ↦ ap (λ b. bytes_eq n.key k && (not b && g n.value == g x.value)) (is_equal n.value x.value (sym eq)) ∙ and_none (bytes_eq n.key k)
          | inr s ↦ let h = leb-true (f n.value) l.count le in grind (arith, h, s, often)
        ]
      ]

  -- the leading value stays
  module _ (ys : List Note) (l : Leading) (led : Leads f k ys l) (it : bytes_eq x.key k ≡ true) (less : g x.value ≤ l.count) where
    differ : bytes_eq x.value l.value ≡ false
    differ = false_from_ne_true (bytes_eq x.value l.value) (λ e. (let h : f x.value ≡ f l.value = ap f (equal x.value l.value e) in omega (arith, h, more, less, led.counted)))

    each : (g x.value == l.count) ≡ false → (n : Note) → is_as_often f k l.value l.count n ≡ is_as_often g k l.value l.count n
    each e n = elim (is_or_same n.value) [
      | inl eq ↦ let h : f x.value ≡ f n.value = ap f eq in let j : g x.value ≡ g n.value = ap g eq in let ne = eqb-false (g x.value) l.count e in
          let a : (f n.value == l.count) ≡ false = grind (arith, h, more, less) in let b : (g n.value == l.count) ≡ false = ap (λ m. m == l.count) (sym j) ∙ e in
          ap (λ t. bytes_eq n.key k && (not (bytes_eq n.value l.value) && t)) (a ∙ sym b)
      | inr s ↦ ap (λ m. bytes_eq n.key k && (not (bytes_eq n.value l.value) && m == l.count)) (sym s)
    ]

    still_tied : (b : Bool) → (g x.value == l.count) ≡ b → (l.is_tied || (not (bytes_eq x.value l.value) && g x.value == l.count)) ≡ list_any (is_as_often g k l.value l.count) (ys ++ x ∷ [])
    still_tied true e =
        let b : (not (bytes_eq x.value l.value) && g x.value == l.count) ≡ true = and_from _ _ (ap not differ) e in
        or_right l.is_tied _ b ∙ sym (any_more (is_as_often g k l.value l.count) ys x ∙ or_right (list_any (is_as_often g k l.value l.count) ys) _ (and_from _ _ it b))
    still_tied false e =
        ap (λ t. t || (not (bytes_eq x.value l.value) && g x.value == l.count)) (led.tied ∙ any_same (is_as_often f k l.value l.count) (is_as_often g k l.value l.count) ys (each e))
        ∙ sym (any_more (is_as_often g k l.value l.count) ys x ∙ ap (λ b. list_any (is_as_often g k l.value l.count) ys || (b && (not (bytes_eq x.value l.value) && g x.value == l.count))) it)

    still_leads : Leads g k (ys ++ x ∷ []) (record { value = l.value; count = l.count; is_tied = l.is_tied || (not (bytes_eq x.value l.value) && g x.value == l.count) })
    still_leads = record {
      here = any_more (is_here g k l.value) ys x ∙ or_left (list_any (is_here g k l.value) ys) (is_here g k l.value x) led.here;
      counted = led.counted ∙ sym (same l.value differ);
      most = all_more (is_at_most g k l.count) ys x
          ∙ and_from _ _ (all_from (is_at_most f k l.count) (is_at_most g k l.count) ys (at_most l.count l.count (omega arith) less) led.most) (or_right (not (bytes_eq x.key k)) _ (grind (arith, less)));
      tied = still_tied (g x.value == l.count) refl;
    }

  next_led : (ys : List Note) (l : Leading) → Leads f k ys l → bytes_eq x.key k ≡ true → IsLed g k (ys ++ x ∷ []) (Some (next_leading (Some l) x.value (g x.value)))
  next_led ys l led it = by (nat_lt l.count (g x.value)) refl
    where
      by : (b : Bool) → nat_lt l.count (g x.value) ≡ b
          → Leads g k (ys ++ x ∷ []) (cond b (record { value = x.value; count = g x.value; is_tied = false })
          (record { value = l.value; count = l.count; is_tied = l.is_tied || (not (bytes_eq x.value l.value) && g x.value == l.count) }))
      by true e = leads_now ys l led it (ltb-true _ _ e)
      by false e = still_leads ys l led it (ltb-false _ _ e)

  -- the other counts
  module _ (l : Leading) (leads : l.count ≡ f l.value) (c : List ℕ → ℕ) (it : bytes_eq x.key k ≡ true) (counts : (v : List ℕ) → count_of (Some l) v (c v) ≡ f v) where
    unless_led : (v : List ℕ) → bytes_eq v l.value ≡ false → c v ≡ f v
    unless_led v ne = ap (λ b. cond b l.count (c v)) (sym ne) ∙ counts v

    -- of a value that doesn't lead before or after
    other_is : (v : List ℕ) → bytes_eq v l.value ≡ false → other_count l x.key x.value (g x.value) k v (c v) ≡ g v
    other_is v ne = by (bytes_eq x.value l.value) (bytes_eq x.value v) refl refl
      where
        by : (s t : Bool) → bytes_eq x.value l.value ≡ s → bytes_eq x.value v ≡ t
            → cond s (c v) (cond (bytes_eq x.key k && bytes_eq l.value v) l.count (cond (bytes_eq x.key k && t) (g x.value) (c v))) ≡ g v
        by true true d e = let h : bytes_eq v l.value ≡ true = is_equal v l.value (sym (equal x.value v e) ∙ equal x.value l.value d) in let t : true ≡ false = sym h ∙ ne in cc
        by true false d e = unless_led v ne ∙ sym (same v e)
        by false true d e = ap₂ (λ a b. cond (a && b) l.count (cond (a && true) (g x.value) (c v))) it (turned v l.value ne) ∙ ap g (equal x.value v e)
        by false false d e = ap₂ (λ a b. cond (a && b) l.count (cond (a && false) (g x.value) (c v))) it (turned v l.value ne) ∙ unless_led v ne ∙ sym (same v e)

    -- of the value that led
    led_is : (v : List ℕ) → bytes_eq v x.value ≡ false → bytes_eq v l.value ≡ true → other_count l x.key x.value (g x.value) k v (c v) ≡ g v
    led_is v ne eq =
        let is_l = equal v l.value eq in
        ap (λ s. cond s (c v) (cond (bytes_eq x.key k && bytes_eq l.value v) l.count (cond (bytes_eq x.key k && bytes_eq x.value v) (g x.value) (c v))))
        (turned l.value x.value (ap (λ w. bytes_eq w x.value) (sym is_l) ∙ ne))
        ∙ ap₂ (λ a b. cond (a && b) l.count (cond (a && bytes_eq x.value v) (g x.value) (c v))) it (is_equal l.value v (sym is_l))
        ∙ leads ∙ ap f (sym is_l) ∙ sym (same v (turned v x.value ne))

    next_counts : (v : List ℕ) → count_of (Some (next_leading (Some l) x.value (g x.value))) v (other_count l x.key x.value (g x.value) k v (c v)) ≡ g v
    next_counts v = by (nat_lt l.count (g x.value)) refl (cases_Bool (bytes_eq v x.value)) (cases_Bool (bytes_eq v l.value))
      where
        by : (b : Bool) → nat_lt l.count (g x.value) ≡ b → ((bytes_eq v x.value ≡ true) ⊎ (bytes_eq v x.value ≡ false)) → ((bytes_eq v l.value ≡ true) ⊎ (bytes_eq v l.value ≡ false))
            → count_of (Some (cond b (record { value = x.value; count = g x.value; is_tied = false })
            (record { value = l.value; count = l.count; is_tied = l.is_tied || (not (bytes_eq x.value l.value) && g x.value == l.count) }))) v (other_count l x.key x.value (g x.value) k v (c v)) ≡ g v
        by true e (inl eq) _ = ap (λ b. cond b (g x.value) (other_count l x.key x.value (g x.value) k v (c v))) eq ∙ ap g (sym (equal v x.value eq))
        by true e (inr ne) (inl eq) = ap (λ b. cond b (g x.value) (other_count l x.key x.value (g x.value) k v (c v))) ne ∙ led_is v ne eq
        by true e (inr ne) (inr another) = ap (λ b. cond b (g x.value) (other_count l x.key x.value (g x.value) k v (c v))) ne ∙ other_is v another
        by false e _ (inr another) = ap (λ b. cond b l.count (other_count l x.key x.value (g x.value) k v (c v))) another ∙ other_is v another
        by false e _ (inl eq) =
            let is_l = equal v l.value eq in
            let apart : bytes_eq x.value v ≡ false = false_from_ne_true (bytes_eq x.value v) (λ h. (let j : f x.value ≡ f l.value = ap f (equal x.value v h ∙ is_l) in let m = ltb-false l.count (g x.value) e in omega (arith, j, more, m, leads))) in
            ap (λ b. cond b l.count (other_count l x.key x.value (g x.value) k v (c v))) eq ∙ leads ∙ ap f (sym is_l) ∙ sym (same v apart)

-- ---- another note

module _ (notes : List Note) (i : ℕ) (x : Note) (within : i < length notes) (is : x ≡ get_or notes i x) (k : List ℕ) where
  before : List ℕ → ℕ
  before v = times (take i notes) k v

  after : List ℕ → ℕ
  after v = times (take (i + 1) notes) k v

  -- of another key
  pub other_tallied : (o : Option Leading) (c d : List ℕ → ℕ) → bytes_eq x.key k ≡ false → ((v : List ℕ) → d v ≡ c v) → IsTallied (take i notes) k o c → IsTallied (take (i + 1) notes) k o d
  other_tallied o c d differs kept tallied = record {
    led = subst (λ ys. IsLed (times (take (i + 1) notes) k) k ys o) (sym (with_it notes i x within is))
        (led_same (times (take i notes) k) (times (take (i + 1) notes) k) k (take i notes ++ x ∷ []) o (λ w. times_same notes i x within is k w (and_left (bytes_eq x.key k) _ differs))
        (other_key (times (take i notes) k) k (take i notes) x o differs tallied.led));
    counts = λ v. ap (count_of o v) (kept v) ∙ tallied.counts v ∙ sym (times_same notes i x within is k v (and_left (bytes_eq x.key k) _ differs));
  }

  module _ (it : bytes_eq x.key k ≡ true) where
    one_more : times (take (i + 1) notes) k x.value ≡ times (take i notes) k x.value + 1
    one_more = times_more notes i x within is k x.value (and_from _ _ it (is_equal x.value x.value refl))

    no_more : (w : List ℕ) → bytes_eq x.value w ≡ false → times (take (i + 1) notes) k w ≡ times (take i notes) k w
    no_more w ne = times_same notes i x within is k w (ap (λ b. bytes_eq x.key k && b) ne ∙ and_none (bytes_eq x.key k))

    -- the first one of the key
    pub first_tallied : (c d : List ℕ → ℕ) → ((v : List ℕ) → d v ≡ c v) → IsTallied (take i notes) k None c → IsTallied (take (i + 1) notes) k (Some (next_leading None x.value 1)) d
    first_tallied c d kept tallied =
        let none = none_counted k x.value (take i notes) tallied.led in
        let once : times (take (i + 1) notes) k x.value ≡ 1 = one_more ∙ ap (λ m. m + 1) none in record {
          led = subst (λ ys. IsLed (times (take (i + 1) notes) k) k ys (Some (next_leading None x.value 1))) (sym (with_it notes i x within is))
              (subst (λ n. Leads (times (take (i + 1) notes) k) k (take i notes ++ x ∷ []) (record { value = x.value; count = n; is_tied = false })) once
              (first_leads (times (take (i + 1) notes) k) k (take i notes) x tallied.led it));
          counts = λ v. (by v (bytes_eq v x.value) refl once);
        }
      where
        by : (v : List ℕ) (b : Bool) → bytes_eq v x.value ≡ b → times (take (i + 1) notes) k x.value ≡ 1 → cond b 1 (d v) ≡ times (take (i + 1) notes) k v
        by v true e once = sym once ∙ ap (times (take (i + 1) notes) k) (sym (equal v x.value e))
        by v false e once = kept v ∙ tallied.counts v ∙ sym (no_more v (turned v x.value e))

    -- another one
    pub next_tallied : (l : Leading) (c d : List ℕ → ℕ) (n : ℕ) → n ≡ count_of (Some l) x.value (c x.value) + 1 → ((v : List ℕ) → d v ≡ other_count l x.key x.value n k v (c v))
        → IsTallied (take i notes) k (Some l) c → IsTallied (take (i + 1) notes) k (Some (next_leading (Some l) x.value n)) d
    next_tallied l c d n counted kept tallied =
        let f = times (take i notes) k in let g = times (take (i + 1) notes) k in
        let now : n ≡ g x.value = counted ∙ ap (λ m. m + 1) (tallied.counts x.value) ∙ sym one_more in record {
          led = subst (λ m. IsLed g k (take (i + 1) notes) (Some (next_leading (Some l) x.value m))) (sym now)
              (subst (λ ys. IsLed g k ys (Some (next_leading (Some l) x.value (g x.value)))) (sym (with_it notes i x within is)) (next_led f g k x no_more one_more (take i notes) l tallied.led it));
          counts = λ v. (ap (count_of (Some (next_leading (Some l) x.value n)) v) (kept v)
              ∙ ap (λ m. count_of (Some (next_leading (Some l) x.value m)) v (other_count l x.key x.value m k v (c v))) now
              ∙ next_counts f g k x no_more one_more l tallied.led.counted c it tallied.counts v);
        }

-- a count that is put
pub put : (b : Bool) (n : ℕ) (o : Option ℕ) → unwrap_or (cond b (Some n) o) 0 ≡ cond b n (unwrap_or o 0)
put true n o = refl
put false n o = refl

-- what is kept of two values
pub kept_apart : (l : Leading) (key value : List ℕ) (n : ℕ) (k v : List ℕ) (old first after : ℕ) → bytes_eq value l.value ≡ false → first ≡ cond (bytes_eq key k && bytes_eq value v) n old
    → after ≡ cond (bytes_eq key k && bytes_eq l.value v) l.count first → after ≡ other_count l key value n k v old
kept_apart l key value n k v old first after ne once twice =
    twice ∙ ap (λ m. cond (bytes_eq key k && bytes_eq l.value v) l.count m) once
    ∙ sym (ap (λ s. cond s old (cond (bytes_eq key k && bytes_eq l.value v) l.count (cond (bytes_eq key k && bytes_eq value v) n old))) ne)

module _ (notes : List Note) (i : ℕ) (x : Note) (within : i < length notes) (is : x ≡ get_or notes i x) (k key value : List ℕ) (at : key ≡ x.key) (of : value ≡ x.value) (leader : Leading) (o p : Option Leading) (put : p ≡ cond (bytes_eq key k) (Some leader) o) where
  -- the first note of its key
  pub first_note : (c : List ℕ → ℕ) → leader ≡ next_leading None value 1 → (bytes_eq key k ≡ true → o ≡ None) → IsTallied (take i notes) k o c → IsTallied (take (i + 1) notes) k p c
  first_note c leads none tallied = subst (λ q. IsTallied (take (i + 1) notes) k q c) (sym put) (by (bytes_eq key k) refl)
    where
      by : (b : Bool) → bytes_eq key k ≡ b → IsTallied (take (i + 1) notes) k (cond b (Some leader) o) c
      by true e =
          subst (λ q. IsTallied (take (i + 1) notes) k (Some q) c) (sym (leads ∙ ap (λ v. next_leading None v 1) of))
          (first_tallied notes i x within is k (ap (λ q. bytes_eq q k) (sym at) ∙ e) c c (λ v. refl) (subst (λ q. IsTallied (take i notes) k q c) (none e) tallied))
      by false e = other_tallied notes i x within is k o c c (ap (λ q. bytes_eq q k) (sym at) ∙ e) (λ v. refl) tallied

  -- another one
  pub next_note : (l : Leading) (c d : List ℕ → ℕ) (n : ℕ) → leader ≡ next_leading (Some l) value n → (bytes_eq key k ≡ true → o ≡ Some l) → (bytes_eq key k ≡ true → n ≡ count_of (Some l) value (c value) + 1)
      → ((v : List ℕ) → d v ≡ other_count l key value n k v (c v)) → IsTallied (take i notes) k o c → IsTallied (take (i + 1) notes) k p d
  next_note l c d n leads some counted kept tallied = subst (λ q. IsTallied (take (i + 1) notes) k q d) (sym put) (by (bytes_eq key k) refl)
    where
      same : (v : List ℕ) (s b : Bool) → b ≡ false → cond s (c v) (cond (b && bytes_eq l.value v) l.count (cond (b && bytes_eq value v) n (c v))) ≡ c v
      same v true b e = refl
      same v false true e = cc
      same v false false e = refl

      by : (b : Bool) → bytes_eq key k ≡ b → IsTallied (take (i + 1) notes) k (cond b (Some leader) o) d
      by true e =
          subst (λ q. IsTallied (take (i + 1) notes) k (Some q) d) (sym (leads ∙ ap (λ v. next_leading (Some l) v n) of))
          (next_tallied notes i x within is k (ap (λ q. bytes_eq q k) (sym at) ∙ e) l c d n (counted e ∙ ap (λ v. count_of (Some l) v (c v) + 1) of)
          (λ v. kept v ∙ ap₂ (λ a b. other_count l a b n k v (c v)) at of) (subst (λ q. IsTallied (take i notes) k q c) (some e) tallied))
      by false e = other_tallied notes i x within is k o c d (ap (λ q. bytes_eq q k) (sym at) ∙ e) (λ v. kept v ∙ same v (bytes_eq value l.value) (bytes_eq key k) e) tallied
