-- Increasing lists, and one more element after them.
use Rattle.std.proofs.Common.{◌≡◌, ◌⊎◌, inl, inr, ℕ, zero, suc, ◌+◌, ◌-◌, ◌<◌, ◌≤◌, List, [], ◌∷◌, ◌++◌, length, get_or, Bool, true, false, ◌&&◌, refl, sym, ◌∙◌, ap, arith, lt-ltb, length-append}
use Rattle.std.specs.Prelude.{nat_lt, nat_le, Some, Err}
use Rattle.std.specs.List.{list_all, list_any}
use Rattle.std.proofs.lemmas.Bool.{and_parts, and_from, and_left, and_right, ltb-true, leb-true, le-leb, lt-leb, le-ltb, or_left, or_right, or_from, cases_lt}
use Rattle.compose_text.specs.Numbers.{is_between}
use Rattle.compose_model.specs.Certificate.{Repertoire, keys_rise}
use Rattle.compose_cert.specs.Repertoire.{IsRepertoire, ranges_rise, max_entries, with_entry}
use Rattle.compose_cert.specs.declared.entry.LineEntry.TheVariants.{Keys, Character}
use Rattle.compose_cert.specs.declared.RepertoireFault.TheVariants.{NotRising, TooMany}

-- the first range goes upwards, and so do the others
first_rises : (r : ℕ × ℕ) (rs : List (ℕ × ℕ)) → ranges_rise (r ∷ rs) ≡ true → (nat_le r.0 r.1 ≡ true) × (ranges_rise rs ≡ true)
first_rises r [] h = (h, refl)
first_rises r (s ∷ rs) h =
    let p = and_parts (nat_le r.0 r.1 && nat_lt r.1 s.0) (ranges_rise (s ∷ rs)) h in
    ((and_parts (nat_le r.0 r.1) (nat_lt r.1 s.0) p.0).0, p.1)

-- a keysym above the end of the last of increasing ranges is above the end of each of them
pub above_ranges : (rs : List (ℕ × ℕ)) (k : ℕ) → ranges_rise rs ≡ true → 0 < length rs → nat_lt (get_or rs (length rs - 1) (0, 0)).1 k ≡ list_all (λ r. nat_lt r.1 k) rs
above_ranges [] k h l = absurd (omega arith)
above_ranges (r ∷ []) k h l = one (nat_lt r.1 k)
  where
    one : (t : Bool) → t ≡ (t && true)
    one true = refl
    one false = refl
above_ranges (r ∷ s ∷ rs) k h l =
    let p = and_parts (nat_le r.0 r.1 && nat_lt r.1 s.0) (ranges_rise (s ∷ rs)) h in
    let q = and_parts (nat_le r.0 r.1) (nat_lt r.1 s.0) p.0 in
    go (list_all (λ r. nat_lt r.1 k) (s ∷ rs)) refl (last ∙ above_ranges (s ∷ rs) k p.1 (omega arith)) q.1 (first_rises s rs p.1).0
  where
    last : nat_lt (get_or (r ∷ s ∷ rs) (length (r ∷ s ∷ rs) - 1) (0, 0)).1 k ≡ nat_lt (get_or (s ∷ rs) (length (s ∷ rs) - 1) (0, 0)).1 k
    last =
        let a : suc (suc (length rs)) - 1 ≡ suc (length rs) = omega arith in
        let b : suc (length rs) - 1 ≡ length rs = omega arith in
        ap (λ i. nat_lt (get_or (r ∷ s ∷ rs) i (0, 0)).1 k) a ∙ ap (λ i. nat_lt (get_or (s ∷ rs) i (0, 0)).1 k) (sym b)

    go : (t : Bool) → list_all (λ r. nat_lt r.1 k) (s ∷ rs) ≡ t → nat_lt (get_or (r ∷ s ∷ rs) (length (r ∷ s ∷ rs) - 1) (0, 0)).1 k ≡ list_all (λ r. nat_lt r.1 k) (s ∷ rs) → nat_lt r.1 s.0 ≡ true
        → nat_le s.0 s.1 ≡ true
        → nat_lt (get_or (r ∷ s ∷ rs) (length (r ∷ s ∷ rs) - 1) (0, 0)).1 k ≡ (nat_lt r.1 k && list_all (λ r. nat_lt r.1 k) (s ∷ rs))
    go true e i a b =
        let below = ltb-true s.1 k (and_parts (nat_lt s.1 k) (list_all (λ r. nat_lt r.1 k) rs) e).0 in
        i ∙ e ∙ sym (and_from (nat_lt r.1 k) (list_all (λ r. nat_lt r.1 k) (s ∷ rs)) (lt-ltb r.1 k (omega (arith, ltb-true r.1 s.0 a, leb-true s.0 s.1 b))) e)
    go false e i a b = i ∙ e ∙ sym (and_right (nat_lt r.1 k) (list_all (λ r. nat_lt r.1 k) (s ∷ rs)) e)

-- a character above the last of increasing characters is above each of them
pub above_characters : (cs : List ℕ) (c : ℕ) → keys_rise cs ≡ true → 0 < length cs → nat_lt (get_or cs (length cs - 1) 0) c ≡ list_all (λ d. nat_lt d c) cs
above_characters [] c h l = absurd (omega arith)
above_characters (d ∷ []) c h l = one (nat_lt d c)
  where
    one : (t : Bool) → t ≡ (t && true)
    one true = refl
    one false = refl
above_characters (d ∷ e ∷ cs) c h l =
    let p = and_parts (nat_lt d e) (keys_rise (e ∷ cs)) h in
    go (list_all (λ d. nat_lt d c) (e ∷ cs)) refl (last ∙ above_characters (e ∷ cs) c p.1 (omega arith)) p.0
  where
    last : nat_lt (get_or (d ∷ e ∷ cs) (length (d ∷ e ∷ cs) - 1) 0) c ≡ nat_lt (get_or (e ∷ cs) (length (e ∷ cs) - 1) 0) c
    last =
        let a : suc (suc (length cs)) - 1 ≡ suc (length cs) = omega arith in
        let b : suc (length cs) - 1 ≡ length cs = omega arith in
        ap (λ i. nat_lt (get_or (d ∷ e ∷ cs) i 0) c) a ∙ ap (λ i. nat_lt (get_or (e ∷ cs) i 0) c) (sym b)

    go : (t : Bool) → list_all (λ d. nat_lt d c) (e ∷ cs) ≡ t → nat_lt (get_or (d ∷ e ∷ cs) (length (d ∷ e ∷ cs) - 1) 0) c ≡ list_all (λ d. nat_lt d c) (e ∷ cs) → nat_lt d e ≡ true
        → nat_lt (get_or (d ∷ e ∷ cs) (length (d ∷ e ∷ cs) - 1) 0) c ≡ (nat_lt d c && list_all (λ d. nat_lt d c) (e ∷ cs))
    go true t i a =
        let below = ltb-true e c (and_parts (nat_lt e c) (list_all (λ d. nat_lt d c) cs) t).0 in
        i ∙ t ∙ sym (and_from (nat_lt d c) (list_all (λ d. nat_lt d c) (e ∷ cs)) (lt-ltb d c (omega (arith, ltb-true d e a))) t)
    go false t i a = i ∙ t ∙ sym (and_right (nat_lt d c) (list_all (λ d. nat_lt d c) (e ∷ cs)) t)

ranges_push : (rs : List (ℕ × ℕ)) (first last : ℕ) → ranges_rise rs ≡ true → list_all (λ r. nat_lt r.1 first) rs ≡ true → first ≤ last → ranges_rise (rs ++ (first, last) ∷ []) ≡ true
ranges_push [] first last h b l = le-leb first last l
ranges_push (r ∷ []) first last h b l =
    and_from (nat_le r.0 r.1 && nat_lt r.1 first) (nat_le first last) (and_from (nat_le r.0 r.1) (nat_lt r.1 first) h (and_parts (nat_lt r.1 first) true b).0) (le-leb first last l)
ranges_push (r ∷ s ∷ rs) first last h b l =
    let p = and_parts (nat_le r.0 r.1 && nat_lt r.1 s.0) (ranges_rise (s ∷ rs)) h in
    let q = and_parts (nat_lt r.1 first) (list_all (λ r. nat_lt r.1 first) (s ∷ rs)) b in
    and_from (nat_le r.0 r.1 && nat_lt r.1 s.0) (ranges_rise (s ∷ (rs ++ (first, last) ∷ []))) p.0 (ranges_push (s ∷ rs) first last p.1 q.1 l)

characters_push : (cs : List ℕ) (c : ℕ) → keys_rise cs ≡ true → list_all (λ d. nat_lt d c) cs ≡ true → keys_rise (cs ++ c ∷ []) ≡ true
characters_push [] c h b = refl
characters_push (d ∷ []) c h b = and_from (nat_lt d c) true (and_parts (nat_lt d c) true b).0 refl
characters_push (d ∷ e ∷ cs) c h b =
    let p = and_parts (nat_lt d e) (keys_rise (e ∷ cs)) h in
    let q = and_parts (nat_lt d c) (list_all (λ d. nat_lt d c) (e ∷ cs)) b in
    and_from (nat_lt d e) (keys_rise (e ∷ (cs ++ c ∷ []))) p.0 (characters_push (e ∷ cs) c p.1 q.1)

-- a range above the others can be added to a repertoire if there is room
pub range_added : (r : Repertoire) (first last : ℕ) → IsRepertoire r → list_all (λ k. nat_lt k.1 first) r.keys ≡ true → first ≤ last → length r.keys < max_entries
    → IsRepertoire (record r { keys = r.keys ++ (first, last) ∷ [] })
range_added r first last s b l m = record {
  rise = s.rise;
  few = s.few;
  few_keys = omega (arith, length-append r.keys ((first, last) ∷ []));
  ranges_rise = ranges_push r.keys first last s.ranges_rise b l;
}

-- a character above the others can be added to a repertoire if there is room
pub character_added : (r : Repertoire) (c : ℕ) → IsRepertoire r → list_all (λ d. nat_lt d c) r.characters ≡ true → length r.characters < max_entries
    → IsRepertoire (record r { characters = r.characters ++ c ∷ [] })
character_added r c s b m = record {
  rise = characters_push r.characters c s.rise b;
  few = omega (arith, length-append r.characters (c ∷ []));
  few_keys = s.few_keys;
  ranges_rise = s.ranges_rise;
}

-- ---- faults

-- a range that doesn't begin above the others is the fault, with the number of its line
pub range_falls : (n first last : ℕ) (r : Repertoire) → length r.characters ≡ 0 → list_all (λ k. nat_lt k.1 first) r.keys ≡ false → with_entry n (Some (Keys first last)) r ≡ Err (NotRising n)
range_falls n first last r e b = rw (le-ltb 0 (length r.characters) (omega arith), b) refl

-- if there is no room for another range, there are too many
pub ranges_many : (n first last : ℕ) (r : Repertoire) → length r.characters ≡ 0 → list_all (λ k. nat_lt k.1 first) r.keys ≡ true → max_entries ≤ length r.keys
    → with_entry n (Some (Keys first last)) r ≡ Err TooMany
ranges_many n first last r e b m = rw (le-ltb 0 (length r.characters) (omega arith), b, le-leb max_entries (length r.keys) m) refl

-- a character that isn't above the others is the fault, with the number of its line
pub character_falls : (n c : ℕ) (r : Repertoire) → list_all (λ d. nat_lt d c) r.characters ≡ false → with_entry n (Some (Character c)) r ≡ Err (NotRising n)
character_falls n c r b = rw b refl

-- if there is no room for another character, there are too many
pub characters_many : (n c : ℕ) (r : Repertoire) → list_all (λ d. nat_lt d c) r.characters ≡ true → max_entries ≤ length r.characters → with_entry n (Some (Character c)) r ≡ Err TooMany
characters_many n c r b m = rw (b, le-leb max_entries (length r.characters) m) refl

-- ---- the ranges, one by one

-- none of increasing ranges ends below its beginning
pub range_goes_up : (rs : List (ℕ × ℕ)) (i : ℕ) → ranges_rise rs ≡ true → i < length rs → (get_or rs i (0, 0)).0 ≤ (get_or rs i (0, 0)).1
range_goes_up [] i h l = absurd (omega arith)
range_goes_up (r ∷ rs) zero h l = leb-true r.0 r.1 (first_rises r rs h).0
range_goes_up (r ∷ rs) (suc i) h l = range_goes_up rs i (first_rises r rs h).1 (omega arith)

first_below : (r : ℕ × ℕ) (rs : List (ℕ × ℕ)) (j : ℕ) → ranges_rise (r ∷ rs) ≡ true → j < length rs → r.1 < (get_or rs j (0, 0)).0
first_below r [] j h l = absurd (omega arith)
first_below r (s ∷ rs) zero h l = let p = and_parts (nat_le r.0 r.1 && nat_lt r.1 s.0) (ranges_rise (s ∷ rs)) h in ltb-true r.1 s.0 (and_parts (nat_le r.0 r.1) (nat_lt r.1 s.0) p.0).1
first_below r (s ∷ rs) (suc j) h l =
    let p = and_parts (nat_le r.0 r.1 && nat_lt r.1 s.0) (ranges_rise (s ∷ rs)) h in
    let a = ltb-true r.1 s.0 (and_parts (nat_le r.0 r.1) (nat_lt r.1 s.0) p.0).1 in
    let b = leb-true s.0 s.1 (first_rises s rs p.1).0 in
    omega (arith, first_below s rs j p.1 (omega arith))

-- an earlier one of increasing ranges ends below the beginning of a later one
pub ranges_apart : (rs : List (ℕ × ℕ)) (i j : ℕ) → ranges_rise rs ≡ true → i < j → j < length rs → (get_or rs i (0, 0)).1 < (get_or rs j (0, 0)).0
ranges_apart [] i j h a l = absurd (omega arith)
ranges_apart (r ∷ rs) i zero h a l = absurd (omega arith)
ranges_apart (r ∷ rs) zero (suc j) h a l = first_below r rs j h (omega arith)
ranges_apart (r ∷ rs) (suc i) (suc j) h a l = ranges_apart rs i j (first_rises r rs h).1 (omega arith) (omega arith)

-- a keysym between the ends of one range is in the ranges
pub in_one : (rs : List (ℕ × ℕ)) (i k : ℕ) → i < length rs → (get_or rs i (0, 0)).0 ≤ k → k ≤ (get_or rs i (0, 0)).1 → list_any (λ r. is_between r.0 r.1 k) rs ≡ true
in_one [] i k l a b = absurd (omega arith)
in_one (r ∷ rs) zero k l a b = or_left (is_between r.0 r.1 k) (list_any (λ r. is_between r.0 r.1 k) rs) (and_from (nat_le r.0 k) (nat_le k r.1) (le-leb r.0 k a) (le-leb k r.1 b))
in_one (r ∷ rs) (suc i) k l a b = or_right (is_between r.0 r.1 k) (list_any (λ r. is_between r.0 r.1 k) rs) (in_one rs i k (omega arith) a b)

-- a keysym above the end or below the beginning of each range is in none
pub in_none : (rs : List (ℕ × ℕ)) (k : ℕ) → ((i : ℕ) → i < length rs → ((get_or rs i (0, 0)).1 < k) ⊎ (k < (get_or rs i (0, 0)).0)) → list_any (λ r. is_between r.0 r.1 k) rs ≡ false
in_none [] k n = refl
in_none (r ∷ rs) k n = or_from (is_between r.0 r.1 k) (list_any (λ r. is_between r.0 r.1 k) rs) (out (n 0 (omega arith))) (in_none rs k (λ i l. n (suc i) (omega arith)))
  where
    out : (r.1 < k) ⊎ (k < r.0) → is_between r.0 r.1 k ≡ false
    out (inl a) = and_right (nat_le r.0 k) (nat_le k r.1) (lt-leb k r.1 a)
    out (inr b) = and_left (nat_le r.0 k) (nat_le k r.1) (lt-leb r.0 k b)

-- the ranges that end below k, and those that begin above it, by the comparison with one range
pub ends_below : (rs : List (ℕ × ℕ)) (m k : ℕ) → ranges_rise rs ≡ true → m < length rs → (get_or rs m (0, 0)).1 < k → (i : ℕ) → i < m + 1 → (get_or rs i (0, 0)).1 < k
ends_below rs m k h l b i a = go (cases_lt i m)
  where
    go : (i < m) ⊎ (m ≤ i) → (get_or rs i (0, 0)).1 < k
    go (inl c) = omega (arith, ranges_apart rs i m h c l, range_goes_up rs m h l)
    go (inr c) = let e : i ≡ m = omega arith in omega (arith, ap (λ j. (get_or rs j (0, 0)).1) e)

-- a keysym below the beginning of one of increasing ranges is below that of each range after it
pub begins_above : (rs : List (ℕ × ℕ)) (m k : ℕ) → ranges_rise rs ≡ true → k < (get_or rs m (0, 0)).0 → (i : ℕ) → m ≤ i → i < length rs → k < (get_or rs i (0, 0)).0
begins_above rs m k h b i a l = go (cases_lt m i)
  where
    go : (m < i) ⊎ (i ≤ m) → k < (get_or rs i (0, 0)).0
    go (inl c) = omega (arith, ranges_apart rs m i h c l, range_goes_up rs m h (omega arith))
    go (inr c) = let e : i ≡ m = omega arith in omega (arith, ap (λ j. (get_or rs j (0, 0)).0) e)

-- a keysym above all ranges before an index, and below all from there on, is in none
pub in_none_of_all : (rs : List (ℕ × ℕ)) (low high k : ℕ) → high ≤ low → ((i : ℕ) → i < low → (get_or rs i (0, 0)).1 < k) → ((i : ℕ) → high ≤ i → i < length rs → k < (get_or rs i (0, 0)).0)
    → list_any (λ r. is_between r.0 r.1 k) rs ≡ false
in_none_of_all rs low high k l b a = in_none rs k (λ i m. go i m (cases_lt i low))
  where
    go : (i : ℕ) → i < length rs → (i < low) ⊎ (low ≤ i) → ((get_or rs i (0, 0)).1 < k) ⊎ (k < (get_or rs i (0, 0)).0)
    go i m (inl c) = inl (b i c)
    go i m (inr c) = inr (a i (omega arith) m)
