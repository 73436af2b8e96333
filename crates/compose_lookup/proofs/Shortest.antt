-- Elements that represent sequences, by the lengths of these.
use Rattle.std.proofs.Common.{◌≡◌, ℕ, zero, suc, ◌+◌, ◌-◌, ◌≤◌, arith, append_assoc, append-nil, List, [], ◌∷◌, ◌++◌, Bool, cond, length, map, refl, sym, ◌∙◌, ap, ap₂, inl, inr}
use Rattle.std.specs.Prelude.{nat_eq, filter, flat_map}
use Rattle.std.specs.List.{All, range_with_len}
use Rattle.std.proofs.lemmas.Bool.{cases_Bool}
use Rattle.std.proofs.lemmas.List.{map-append}
use Rattle.std.proofs.lemmas.List.Elements.{All-head, All-tail, filter-append}

module _ {X : Type 0} (sequence : X → List ℕ) (count : X → ℕ) (counts : (x : X) → count x ≡ length (sequence x)) (p : X → Bool) (q : List ℕ → Bool) where
  one_more : (n : ℕ) (x : X) (xs : List X) (ss : List (List ℕ)) → p x ≡ q (sequence x)
      → map sequence (filter p xs) ≡ filter (λ s. nat_eq (length s) n) ss
      → map sequence (filter p (cond (nat_eq (count x) n) (x ∷ xs) xs)) ≡ filter (λ s. nat_eq (length s) n) (cond (q (sequence x)) (sequence x ∷ ss) ss)
  one_more n x xs ss h rest =
      elim (cases_Bool (nat_eq (length (sequence x)) n)) [
        | inl e ↦ elim (cases_Bool (q (sequence x))) [
          | inl f ↦ rw (ap (λ m. nat_eq m n) (counts x) ∙ e, f) (rw (h ∙ f, e) (ap (λ t. sequence x ∷ t) rest))
          | inr f ↦ rw (ap (λ m. nat_eq m n) (counts x) ∙ e, f) (rw (h ∙ f) rest)
        ]
        | inr e ↦ elim (cases_Bool (q (sequence x))) [
          | inl f ↦ rw (ap (λ m. nat_eq m n) (counts x) ∙ e, f) (rw e rest)
          | inr f ↦ rw (ap (λ m. nat_eq m n) (counts x) ∙ e, f) rest
        ]
      ]

  -- those of one length that pass a test
  of_one : (n : ℕ) (xs : List X) → All (λ x. p x ≡ q (sequence x)) xs
      → map sequence (filter p (filter (λ x. nat_eq (count x) n) xs)) ≡ filter (λ s. nat_eq (length s) n) (filter q (map sequence xs))
  of_one n [] h = refl
  of_one n (x ∷ xs) h = one_more n x (filter (λ x. nat_eq (count x) n) xs) (filter q (map sequence xs)) (All-head (λ x. p x ≡ q (sequence x)) x xs h) (of_one n xs (All-tail (λ x. p x ≡ q (sequence x)) x xs h))

  -- those of these lengths in turn that pass a test
  pub of_each : (ns : List ℕ) (xs : List X) → All (λ x. p x ≡ q (sequence x)) xs
      → map sequence (filter p (flat_map (λ n. filter (λ x. nat_eq (count x) n) xs) ns)) ≡ flat_map (λ n. filter (λ s. nat_eq (length s) n) (filter q (map sequence xs))) ns
  of_each [] xs h = refl
  of_each (n ∷ ns) xs h =
      ap (map sequence) (filter-append p (filter (λ x. nat_eq (count x) n) xs) (flat_map (λ n. filter (λ x. nat_eq (count x) n) xs) ns))
      ∙ map-append sequence (filter p (filter (λ x. nat_eq (count x) n) xs)) (filter p (flat_map (λ n. filter (λ x. nat_eq (count x) n) xs) ns))
      ∙ ap₂ (λ a b. a ++ b) (of_one n xs h) (of_each ns xs h)

-- those that pass a test, and their sequences
pub mapped : {X : Type 0} (sequence : X → List ℕ) (p : X → Bool) (q : List ℕ → Bool) (xs : List X) → All (λ x. p x ≡ q (sequence x)) xs → map sequence (filter p xs) ≡ filter q (map sequence xs)
mapped sequence p q [] h = refl
mapped sequence p q (x ∷ xs) h = elim (cases_Bool (q (sequence x))) [
  | inl e ↦ rw (All-head (λ x. p x ≡ q (sequence x)) x xs h ∙ e, e) (ap (λ t. sequence x ∷ t) (mapped sequence p q xs (All-tail (λ x. p x ≡ q (sequence x)) x xs h)))
  | inr e ↦ rw (All-head (λ x. p x ≡ q (sequence x)) x xs h ∙ e, e) (mapped sequence p q xs (All-tail (λ x. p x ≡ q (sequence x)) x xs h))
]

-- ---- numbers in a row

-- one number more
pub one_more_number : {X : Type 0} (f : ℕ → List X) (a n : ℕ) → flat_map f (range_with_len a (suc n)) ≡ flat_map f (range_with_len a n) ++ f (a + n)
one_more_number f a zero = let here : a ≡ a + 0 = omega arith in append-nil (f a) ∙ ap f here
one_more_number f a (suc n) =
    let last : a + 1 + n ≡ a + suc n = omega arith in
    ap (λ t. f a ++ t) (one_more_number f (a + 1) n) ∙ sym (append_assoc (f a) (flat_map f (range_with_len (a + 1) n)) (f (a + 1 + n)))
    ∙ ap (λ m. (f a ++ flat_map f (range_with_len (a + 1) n)) ++ f m) last

-- the numbers from one to k; those below k were handled
pub up_to : {X : Type 0} (f : ℕ → List X) (k : ℕ) (xs ys : List X) → 1 ≤ k → xs ≡ flat_map f (range_with_len 1 (k - 1)) → ys ≡ xs ++ f k → ys ≡ flat_map f (range_with_len 1 (k + 1 - 1))
up_to f k xs ys some e g =
    let last : k ≡ 1 + (k - 1) = omega arith in
    let all : suc (k - 1) ≡ k + 1 - 1 = omega arith in
    g ∙ ap (λ t. t ++ f k) e ∙ ap (λ m. flat_map f (range_with_len 1 (k - 1)) ++ f m) last ∙ sym (one_more_number f 1 (k - 1))
    ∙ ap (λ m. flat_map f (range_with_len 1 m)) all
