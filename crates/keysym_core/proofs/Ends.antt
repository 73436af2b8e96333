-- Lists with the same first and the same last items.
use Rattle.std.proofs.Common.{◌≡◌, ◌≤◌, ◌+◌, ◌-◌, ◌++◌, ℕ, List, length, take, drop, sym, ap, ◌∙◌, arith, nat_eq, bytes_eq}
use Rattle.std.proofs.lemmas.List.{take-append-drop, drop-drop}
use Rattle.std.proofs.lemmas.Slice.Eq.{bytes_eq-Decides}
use Rattle.std.proofs.lemmas.Bool.Decides.{nat_tests}

-- the last items contain all that is past the first ones
past_first : (k : ℕ) (xs : List ℕ) → k ≤ length xs → length xs ≤ k + k → drop k xs ≡ drop (k + k - length xs) (drop (length xs - k) xs)
past_first k xs enough few =
    let all : length xs - k + (k + k - length xs) ≡ k = omega arith in
    sym (drop-drop (k + k - length xs) (length xs - k) xs ∙ ap (λ n. drop n xs) all)

-- lists of k to 2k items are the same if the first k and the last k items are
pub same_ends : (k : ℕ) (xs ys : List ℕ) → length xs ≡ length ys → k ≤ length xs → length xs ≤ k + k
    → take k xs ≡ take k ys → drop (length xs - k) xs ≡ drop (length ys - k) ys → xs ≡ ys
same_ends k xs ys long enough few first last =
    let enough_too : k ≤ length ys = omega arith in
    let few_too : length ys ≤ k + k = omega arith in
    let rest : drop k xs ≡ drop k ys =
    past_first k xs enough few ∙ ap (drop (k + k - length xs)) last ∙ ap (λ n. drop (k + k - n) (drop (length ys - k) ys)) long ∙ sym (past_first k ys enough_too few_too) in
    sym (take-append-drop k xs) ∙ ap (λ zs. zs ++ drop k xs) first ∙ ap (λ zs. take k ys ++ zs) rest ∙ take-append-drop k ys

-- a test of two numbers in place of one of two lists
pub is_tested : (a b : ℕ) (xs ys : List ℕ) → (a ≡ b → xs ≡ ys) → (xs ≡ ys → a ≡ b) → nat_eq a b ≡ bytes_eq xs ys
is_tested a b xs ys to from = grind (arith, bytes_eq-Decides xs ys, nat_tests)
