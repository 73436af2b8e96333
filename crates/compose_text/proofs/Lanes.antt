-- Sixteen bytes at a time: from the mask of those that are not of a class to the number of leading
-- bytes of the class.
use Rattle.std.proofs.Common.{◌≡◌, ℕ, ◌+◌, ◌*◌, ◌<◌, ◌≤◌, ◌^◌, ◌%◌, Bool, true, false, not, cond, List, [], ◌∷◌, ◌++◌, map, length, drop, replicate, refl, sym, ap, ap₂, ◌∙◌, arith, w8, Fits}
use Rattle.std.specs.List.{prefix_len}
use Rattle.std.proofs.lemmas.Bool.{agree_below, agree_below_at}
use Rattle.std.proofs.lemmas.List.{length-map}
use Rattle.std.proofs.lemmas.Simd.{zip2_of_maps, zip2_splat, splat_is_map, mask_l-mod, chunk-drop, length-chunk, trailing_mask_l}
use lib.Count.{count_trailing_zeros}
use lib.Lanes.{chunk, zip2, mask_l, top, Each1}

-- ---- a mask that is computed byte by byte

-- an operation on two vectors that were computed byte by byte from v
pub joined : (h : ℕ → ℕ → ℕ) (f g : ℕ → ℕ) (v : List ℕ) {a b : List ℕ} → a ≡ map f v → b ≡ map g v → zip2 h a b ≡ map (λ x. h (f x) (g x)) v
joined h f g v p q = zip2_of_maps h f g v p q

-- an operation on each byte and a constant
pub with_constant : (h : ℕ → ℕ → ℕ) (v : List ℕ) (n y : ℕ) → length v ≡ n → zip2 h v (replicate n y) ≡ map (λ x. h x y) v
with_constant h v n y long = zip2_splat h v n y long

-- a value repeated as often as a list is long is that list with the value for every element
pub constant : (v : List ℕ) (n y : ℕ) → length v ≡ n → replicate n y ≡ map (λ _. y) v
constant v n y long = splat_is_map v n y long

each_byte : (f : ℕ → ℕ) (p : ℕ → Bool) → agree_below (λ x. top 7 (f x)) p 256 ≡ true → (v : List ℕ) → Each1 (Fits w8) v → map (top 7) (map f v) ≡ map p v
each_byte f p all [] fits = refl
each_byte f p all (x ∷ xs) fits = ap₂ (λ b bs. b ∷ bs) (agree_below_at (λ y. top 7 (f y)) p 256 x all fits.0.fits) (each_byte f p all xs fits.1)

-- its bits are those of p, if the top bit agrees with p for each of the 256 bytes
pub masked : (f : ℕ → ℕ) (p : ℕ → Bool) (v z : List ℕ) → length v ≤ 64 → Each1 (Fits w8) v → z ≡ map f v → agree_below (λ x. top 7 (f x)) p 256 ≡ true
    → mask_l (map (top 7) z) % 2 ^ 64 ≡ mask_l (map p v)
masked f p v z few fits lanes all =
    ap (λ l. mask_l l % 2 ^ 64) (ap (map (top 7)) lanes ∙ each_byte f p all v fits) ∙ mask_l-mod (map p v) 64 (omega (arith, length-map v p))

-- ---- the leading bytes

module _ (q : ℕ → Bool) where
  abbrev others : List ℕ → ℕ
  others xs = mask_l (map (λ b. not (q b)) xs)

  all_of_it : (xs rest : List ℕ) → others xs ≡ 0 → prefix_len q (xs ++ rest) ≡ length xs + prefix_len q rest
  all_of_it [] rest none = omega arith
  all_of_it (x ∷ xs) rest none = go (q x) none (all_of_it xs rest)
    where
      go : (b : Bool) → cond (not b) 1 0 + 2 * others xs ≡ 0 → (others xs ≡ 0 → prefix_len q (xs ++ rest) ≡ length xs + prefix_len q rest)
          → cond b (1 + prefix_len q (xs ++ rest)) 0 ≡ length (x ∷ xs) + prefix_len q rest
      go true none again = let more = again (omega arith) in omega (arith, more)
      go false none again = let no : ⊥ = omega arith in absurd no

  part_of_it : (xs rest : List ℕ) → 0 < others xs → prefix_len (λ b. not (not (q b))) xs ≡ prefix_len q (xs ++ rest)
  part_of_it [] rest some = absurd (omega arith)
  part_of_it (x ∷ xs) rest some = go (q x) some (part_of_it xs rest)
    where
      go : (b : Bool) → 0 < cond (not b) 1 0 + 2 * others xs → (0 < others xs → prefix_len (λ b. not (not (q b))) xs ≡ prefix_len q (xs ++ rest))
          → cond (not (not b)) (1 + prefix_len (λ b. not (not (q b))) xs) 0 ≡ cond b (1 + prefix_len q (xs ++ rest)) 0
      go true some again = ap (λ n. 1 + n) (again (omega arith))
      go false some again = refl

  -- none of the n bytes is of another class
  pub passed : (d : List ℕ) (i n : ℕ) → i + n ≤ length d → others (chunk i n d) ≡ 0 → prefix_len q (drop i d) ≡ n + prefix_len q (drop (i + n) d)
  passed d i n room none =
      ap (prefix_len q) (chunk-drop i n d) ∙ all_of_it (chunk i n d) (drop (i + n) d) none ∙ ap (λ k. k + prefix_len q (drop (i + n) d)) (length-chunk i n d room)

  -- the lowest bit is that of the first byte of another class
  pub stopped : (d : List ℕ) (i n : ℕ) → i + n ≤ length d → n ≤ 64 → 0 < others (chunk i n d) → prefix_len q (drop i d) ≡ count_trailing_zeros 64 (others (chunk i n d))
  stopped d i n room few some =
      ap (prefix_len q) (chunk-drop i n d) ∙ sym (part_of_it (chunk i n d) (drop (i + n) d) some)
      ∙ sym (trailing_mask_l (λ b. not (q b)) 64 (chunk i n d) (omega (arith, length-chunk i n d room)) some)
