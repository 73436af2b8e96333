-- Sixteen pairs of bytes at once: from the mask of their signs to the bytes of a line.
use Rattle.std.proofs.Common.{◌≡◌, ℕ, zero, suc, ◌+◌, ◌-◌, ◌<◌, ◌≤◌, ◌^◌, ◌%◌, Bool, true, false, not, cond, ◌&&◌, ◌||◌, List, [], ◌∷◌, map, length, take, drop, replicate, bit_and, bit_or, eqb, w8, refl, sym, ap, ◌∙◌, arith}
use Rattle.std.specs.List.{count_by}
use Rattle.std.specs.Prelude.{◌==◌, nat_eq}
use Rattle.std.proofs.lemmas.List.{drop-drop, length-drop}
use Rattle.std.proofs.lemmas.List.Sums.{sum_by-cons}
use Rattle.std.proofs.lemmas.Simd.{zip2_of_maps, splat_is_map, mask_l-mod, bitmask_splat, ones-mask_l, length-zip2, length-chunk}
use lib.Count.{ones}
use lib.Lanes.{chunk, zip2, mask_l, top}
use Rattle.compose_lint.specs.Lost.{is_sign, has_sign_after, openings}

-- ---- a mask that is computed pair by pair

-- a lane of a mask
abbrev lane : Bool → ℕ
lane b = cond b 255 0

lane_or : (a b : Bool) → bit_or (lane a) (lane b) ≡ lane (a || b)
lane_or true true = refl
lane_or true false = refl
lane_or false true = refl
lane_or false false = refl

lane_and : (a b : Bool) → bit_and (lane a) (lane b) ≡ lane (a && b)
lane_and true true = refl
lane_and true false = refl
lane_and false true = refl
lane_and false false = refl

top_lane : (b : Bool) → top 7 (lane b) ≡ b
top_lane true = refl
top_lane false = refl

abbrev pub pairs : List ℕ → List ℕ → List (ℕ × ℕ)
pairs xs ys = zip2 (λ x y. (x, y)) xs ys

pub firsts_are : (xs ys : List ℕ) → length xs ≡ length ys → xs ≡ map (λ p. p.0) (pairs xs ys)
firsts_are [] ys e = refl
firsts_are (x ∷ xs) [] e = absurd (omega arith)
firsts_are (x ∷ xs) (y ∷ ys) e = ap (λ l. x ∷ l) (firsts_are xs ys (omega arith))

pub seconds_are : (xs ys : List ℕ) → length xs ≡ length ys → ys ≡ map (λ p. p.1) (pairs xs ys)
seconds_are [] [] e = refl
seconds_are [] (y ∷ ys) e = absurd (omega arith)
seconds_are (x ∷ xs) [] e = absurd (omega arith)
seconds_are (x ∷ xs) (y ∷ ys) e = ap (λ l. y ∷ l) (seconds_are xs ys (omega arith))

module _ (ps : List (ℕ × ℕ)) (sixteen : length ps ≡ 16) where
  -- a comparison with one byte
  pub compared : (t : ℕ → ℕ → Bool) (side : ℕ × ℕ → ℕ) (y : ℕ) {v : List ℕ} → v ≡ map side ps → zip2 (λ a b. lane (t a b)) v (replicate 16 y) ≡ map (λ p. lane (t (side p) y)) ps
  compared t side y is = zip2_of_maps (λ a b. lane (t a b)) side (λ _. y) ps is (splat_is_map ps 16 y sixteen)

  pub compared_left : (t : ℕ → ℕ → Bool) (side : ℕ × ℕ → ℕ) (y : ℕ) {v : List ℕ} → v ≡ map side ps → zip2 (λ a b. lane (t a b)) (replicate 16 y) v ≡ map (λ p. lane (t y (side p))) ps
  compared_left t side y is = zip2_of_maps (λ a b. lane (t a b)) (λ _. y) side ps (splat_is_map ps 16 y sixteen) is

  pub either : (a b : ℕ × ℕ → Bool) {xs ys : List ℕ} → xs ≡ map (λ p. lane (a p)) ps → ys ≡ map (λ p. lane (b p)) ps → zip2 bit_or xs ys ≡ map (λ p. lane (a p || b p)) ps
  either a b xs_are ys_are = zip2_of_maps bit_or (λ p. lane (a p)) (λ p. lane (b p)) ps xs_are ys_are ∙ (λ i. map (λ p. lane_or (a p) (b p) i) ps)

  pub both : (a b : ℕ × ℕ → Bool) {xs ys : List ℕ} → xs ≡ map (λ p. lane (a p)) ps → ys ≡ map (λ p. lane (b p)) ps → zip2 bit_and xs ys ≡ map (λ p. lane (a p && b p)) ps
  both a b xs_are ys_are = zip2_of_maps bit_and (λ p. lane (a p)) (λ p. lane (b p)) ps xs_are ys_are ∙ (λ i. map (λ p. lane_and (a p) (b p) i) ps)

tops : (a : ℕ × ℕ → Bool) (ps : List (ℕ × ℕ)) → map (top 7) (map (λ p. lane (a p)) ps) ≡ map a ps
tops a [] = refl
tops a (p ∷ ps) = λ i. top_lane (a p) i ∷ tops a ps i

signs_of_pairs : (xs ys : List ℕ) → map (λ p. is_sign p.0 p.1) (pairs xs ys) ≡ zip2 is_sign xs ys
signs_of_pairs [] ys = refl
signs_of_pairs (x ∷ xs) [] = refl
signs_of_pairs (x ∷ xs) (y ∷ ys) = ap (λ l. is_sign x y ∷ l) (signs_of_pairs xs ys)

pub length_pairs : (xs ys : List ℕ) (n : ℕ) → length xs ≡ n → length ys ≡ n → length (pairs xs ys) ≡ n
length_pairs xs ys n e f = length-zip2 (λ x y. (x, y)) xs ys (e ∙ sym f) ∙ e

-- the mask has the signs
pub signs_masked : (xs ys z : List ℕ) → length xs ≡ 16 → length ys ≡ 16 → z ≡ map (λ p. lane (is_sign p.0 p.1)) (pairs xs ys) → mask_l (map (top 7) z) % 2 ^ 64 ≡ mask_l (zip2 is_sign xs ys)
signs_masked xs ys z e f lanes =
    ap (λ l. mask_l l % 2 ^ 64) (ap (map (top 7)) lanes ∙ tops (λ p. is_sign p.0 p.1) (pairs xs ys) ∙ signs_of_pairs xs ys)
    ∙ mask_l-mod (zip2 is_sign xs ys) 64 (let long = length-zip2 is_sign xs ys (e ∙ sym f) in omega (arith, long, e))

-- ---- the pairs of consecutive bytes

-- two consecutive bytes among these are a sign
abbrev pub has_sign_in : List ℕ → Bool
has_sign_in [] = false
has_sign_in (first ∷ bytes) = has_sign_after first bytes

-- the signs of the first pairs, and those of the pairs after them
or_assoc : (a b c : Bool) → (a || (b || c)) ≡ ((a || b) || c)
or_assoc true b c = refl
or_assoc false b c = refl

abbrev any_set : List Bool → Bool
any_set [] = false
any_set (t ∷ ts) = t || any_set ts

pub split : (n : ℕ) (bytes : List ℕ) → n < length bytes → has_sign_in bytes ≡ (any_set (zip2 is_sign (take n bytes) (take n (drop 1 bytes))) || has_sign_in (drop n bytes))
split zero bytes more = refl
split (suc n) [] more = absurd (omega arith)
split (suc n) (x ∷ []) more = absurd (omega arith)
split (suc n) (x ∷ (y ∷ ys)) more =
    ap (λ t. is_sign x y || t) (split n (y ∷ ys) (omega arith)) ∙ or_assoc (is_sign x y) (any_set (zip2 is_sign (take n (y ∷ ys)) (take n ys))) (has_sign_in (drop n (y ∷ ys)))

none_set : (ts : List Bool) → mask_l ts ≡ 0 → any_set ts ≡ false
none_set [] e = refl
none_set (true ∷ ts) e = absurd (omega arith)
none_set (false ∷ ts) e = none_set ts (omega arith)

one_set : (ts : List Bool) → 0 < mask_l ts → any_set ts ≡ true
one_set [] some = absurd (omega arith)
one_set (true ∷ ts) some = refl
one_set (false ∷ ts) some = one_set ts (omega arith)

-- ---- the bytes `<`

openings_split : (n : ℕ) (bytes : List ℕ) → openings bytes ≡ openings (take n bytes) + openings (drop n bytes)
openings_split zero bytes = omega arith
openings_split (suc n) [] = refl
openings_split (suc n) (b ∷ bytes) = by (b == 60) (openings_split n bytes)
  where
    by : (t : Bool) → openings bytes ≡ openings (take n bytes) + openings (drop n bytes)
        → cond t (1 + openings bytes) (openings bytes) ≡ cond t (1 + openings (take n bytes)) (openings (take n bytes)) + openings (drop n bytes)
    by true e = omega (arith, e)
    by false e = e

pub openings_counted : (bytes : List ℕ) → count_by (λ b. eqb b 60) bytes ≡ openings bytes
openings_counted [] = refl
openings_counted (b ∷ bytes) = sum_by-cons (λ x. cond (eqb x 60) 1 0) b bytes ∙ by (eqb b 60) (openings_counted bytes)
  where
    by : (t : Bool) → count_by (λ x. eqb x 60) bytes ≡ openings bytes → cond t 1 0 + count_by (λ x. eqb x 60) bytes ≡ cond t (1 + openings bytes) (openings bytes)
    by true e = omega (arith, e)
    by false e = omega (arith, e)

pub openings_masked : (v : List ℕ) → length v ≡ 16 → ones (mask_l (map (top 7) (zip2 (λ a b. lane (eqb a b)) v (replicate 16 60))) % 2 ^ 64) ≡ openings v
openings_masked v long = ap ones (bitmask_splat w8 eqb v 16 60 long (omega arith)) ∙ ones-mask_l (λ b. eqb b 60) v ∙ openings_counted v

-- ---- from an index of a line on

module _ (line : List ℕ) (i n : ℕ) (more : i + n < length line) where
  abbrev masked : ℕ
  masked = mask_l (zip2 is_sign (chunk i n line) (chunk (i + 1) n line))

  here : has_sign_in (drop i line) ≡ (any_set (zip2 is_sign (chunk i n line) (chunk (i + 1) n line)) || has_sign_in (drop (i + n) line))
  here =
      split n (drop i line) (let left = length-drop i line in omega (arith, left, more))
      ∙ ap (λ next. any_set (zip2 is_sign (chunk i n line) (take n next)) || has_sign_in (drop n (drop i line))) (drop-drop 1 i line)
      ∙ ap (λ rest. any_set (zip2 is_sign (chunk i n line) (chunk (i + 1) n line)) || has_sign_in rest) (drop-drop n i line)

  pub passed : masked ≡ 0 → has_sign_in (drop i line) ≡ has_sign_in (drop (i + n) line)
  passed none = here ∙ ap (λ t. t || has_sign_in (drop (i + n) line)) (none_set (zip2 is_sign (chunk i n line) (chunk (i + 1) n line)) none)

  pub found : 0 < masked → has_sign_in (drop i line) ≡ true
  found some = here ∙ ap (λ t. t || has_sign_in (drop (i + n) line)) (one_set (zip2 is_sign (chunk i n line) (chunk (i + 1) n line)) some)

pub openings_at_once : (line : List ℕ) (i n : ℕ) → openings (drop i line) ≡ openings (chunk i n line) + openings (drop (i + n) line)
openings_at_once line i n = openings_split n (drop i line) ∙ ap (λ rest. openings (chunk i n line) + openings rest) (drop-drop n i line)

few_openings : (bytes : List ℕ) → openings bytes ≤ length bytes
few_openings [] = omega arith
few_openings (b ∷ bytes) = by (b == 60) (few_openings bytes)
  where
    by : (t : Bool) → openings bytes ≤ length bytes → cond t (1 + openings bytes) (openings bytes) ≤ suc (length bytes)
    by true less = omega (arith, less)
    by false less = omega (arith, less)

pub few_at_once : (line : List ℕ) (i n : ℕ) → i + n ≤ length line → openings (chunk i n line) ≤ n
few_at_once line i n room = let few = few_openings (chunk i n line) in let long = length-chunk i n line room in omega (arith, few, long)

-- ---- the last pairs, some of them again

or_false : (a b : Bool) → (a || b) ≡ false → b ≡ false
or_false true b e = cc
or_false false b e = e

or_true : (a b : Bool) → b ≡ true → (a || b) ≡ true
or_true true b e = refl
or_true false b e = e

-- no sign among these bytes is none among the last ones
sign_later : (bytes : List ℕ) (k : ℕ) → has_sign_in bytes ≡ false → has_sign_in (drop k bytes) ≡ false
sign_later [] zero e = refl
sign_later [] (suc k) e = refl
sign_later (x ∷ bytes) zero e = e
sign_later (x ∷ []) (suc k) e = sign_later [] k refl
sign_later (x ∷ (y ∷ ys)) (suc k) e = sign_later (y ∷ ys) k (or_false (is_sign x y) (has_sign_after y ys) e)

-- a sign among the last ones is one among these bytes
sign_before : (bytes : List ℕ) (k : ℕ) → has_sign_in (drop k bytes) ≡ true → has_sign_in bytes ≡ true
sign_before bytes k e = by (has_sign_in bytes) refl
  where
    by : (b : Bool) → has_sign_in bytes ≡ b → has_sign_in bytes ≡ true
    by true h = h
    by false h = let f : true ≡ false = sym e ∙ sign_later bytes k h in cc

single : (bytes : List ℕ) (n : ℕ) → length bytes ≡ n + 1 → has_sign_in (drop n bytes) ≡ false
single [] n e = absurd (omega (arith, e))
single (x ∷ []) zero e = refl
single (x ∷ (y ∷ ys)) zero e = absurd (omega (arith, e))
single (x ∷ bytes) (suc n) e = single bytes n (omega (arith, e))

whole_has : (first : ℕ) (line : List ℕ) → has_sign_in line ≡ true → has_sign_after first line ≡ true
whole_has first [] e = cc
whole_has first (x ∷ line) e = or_true (is_sign first x) (has_sign_after x line) e

pub sign_among : (line : List ℕ) (i : ℕ) (more : i + 16 < length line) → 0 < masked line i 16 more → has_sign_after 58 line ≡ true
sign_among line i more some = whole_has 58 line (sign_before line i (found line i 16 more some))

module _ (line : List ℕ) (last at : ℕ) (ends : last + 17 ≡ length line) (left : last ≤ at) where
  -- the mask of the last ones has a sign
  pub sign_at_end : 0 < masked line last 16 (omega (arith, ends)) → has_sign_after 58 line ≡ true
  sign_at_end some = sign_among line last (omega (arith, ends)) some

  -- it has none
  pub none_at_end : masked line last 16 (omega (arith, ends)) ≡ 0 → has_sign_in (drop at line) ≡ has_sign_after 58 line → has_sign_after 58 line ≡ false
  none_at_end none passed_by =
      let sum : last + (at - last) ≡ at = omega (arith, left) in
      sym passed_by ∙ ap (λ k. has_sign_in (drop k line)) (sym sum) ∙ ap has_sign_in (sym (drop-drop (at - last) last line))
      ∙ sign_later (drop last line) (at - last) (passed line last 16 (omega (arith, ends)) none ∙ single line (last + 16) (omega (arith, ends)))

-- the answer by the mask of the last ones
pub by_mask : (mask : ℕ) (answer : Bool) → (0 < mask → answer ≡ true) → (mask ≡ 0 → answer ≡ false) → not (nat_eq mask 0) ≡ answer
by_mask zero answer some none = sym (none refl)
by_mask (suc mask) answer some none = let more : nat_eq (suc mask) 0 ≡ false = grind arith in ap not more ∙ sym (some (omega arith))
