-- The number of leading bytes of a class: these bytes, what follows them, and that the text may be
-- cut there.
use Rattle.std.proofs.Common.{◌≡◌, ℕ, suc, ◌+◌, ◌-◌, ◌<◌, List, [], ◌∷◌, take, drop, get_or, Bool, true, false, cond, refl, sym, ◌∙◌, ap, subst, arith, inl, inr}
use Rattle.std.specs.List.{prefix_len}
use Rattle.std.specs.Str.{IsUtf8, IsCharBoundary}
use Rattle.std.proofs.lemmas.Str.{IsCharBoundary-start, IsCharBoundary-after_ascii}
use Rattle.std.proofs.lemmas.List.Sums.{prefix_len-le-length, prefix_len_passes}
use Rattle.std.proofs.lemmas.Bool.{cases_lt}
use Rattle.std.proofs.lemmas.Bool.Decides.{nat_tests}
use Rattle.compose_text.specs.Bytes.{is_blank, is_name_byte, leading, behind}

-- the leading bytes are as many first bytes as the scan counts
pub prefix_taken : (p : ℕ → Bool) (text : List ℕ) → leading p text ≡ take (prefix_len p text) text
prefix_taken p [] = refl
prefix_taken p (b ∷ rest) = go (p b) (prefix_taken p rest)
  where
    go : (x : Bool) → leading p rest ≡ take (prefix_len p rest) rest → cond x (b ∷ leading p rest) [] ≡ take (cond x (1 + prefix_len p rest) 0) (b ∷ rest)
    go true e = let one : 1 + prefix_len p rest ≡ suc (prefix_len p rest) = omega arith in ap (λ t. b ∷ t) e ∙ ap (λ n. take n (b ∷ rest)) (sym one)
    go false e = refl

-- what follows the leading bytes is what is left after as many as the scan counts
pub after_left : (p : ℕ → Bool) (text : List ℕ) → behind p text ≡ drop (prefix_len p text) text
after_left p [] = refl
after_left p (b ∷ rest) = go (p b) (after_left p rest)
  where
    go : (x : Bool) → behind p rest ≡ drop (prefix_len p rest) rest → cond x (behind p rest) (b ∷ rest) ≡ drop (cond x (1 + prefix_len p rest) 0) (b ∷ rest)
    go true e = let one : 1 + prefix_len p rest ≡ suc (prefix_len p rest) = omega arith in e ∙ ap (λ n. drop n (b ∷ rest)) (sym one)
    go false e = refl

-- the last byte that passes the test is ASCII, so a character ends there
cut_after : (p : ℕ → Bool) (text : List ℕ) → ((b : ℕ) → p b ≡ true → b < 128) → IsUtf8 text → IsCharBoundary text (prefix_len p text)
cut_after p text ascii u =
    let n = prefix_len p text in
    elim (cases_lt 0 n) [
      | inl some ↦
          let last : n - 1 + 1 ≡ n = omega arith in
          subst (IsCharBoundary text) last
          (IsCharBoundary-after_ascii text (n - 1) u (omega (arith, prefix_len-le-length p text)) (ascii (get_or text (n - 1) 0) (prefix_len_passes p text (n - 1) 0 (omega arith))))
      | inr none ↦
          let no : 0 ≡ n = omega arith in
          subst (IsCharBoundary text) no (IsCharBoundary-start text u)
    ]

-- a text may be cut after its leading blanks
pub cut_after_blanks : (text : List ℕ) → IsUtf8 text → IsCharBoundary text (prefix_len is_blank text)
cut_after_blanks text u = cut_after is_blank text (λ b h. grind (arith, nat_tests)) u

-- a text may be cut after a name at its beginning
pub cut_after_name : (text : List ℕ) → IsUtf8 text → IsCharBoundary text (prefix_len is_name_byte text)
cut_after_name text u = cut_after is_name_byte text (λ b h. grind (arith, nat_tests)) u
