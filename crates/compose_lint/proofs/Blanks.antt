-- A blank at the end of a line in a list is ignored.
use Rattle.std.proofs.Common.{◌≡◌, ◌∙◌, ℕ, suc, ◌+◌, ◌-◌, Bool, true, false, cond, List, [], ◌∷◌, ◌++◌, length, take, drop, reverse, refl, sym, ap, ap₂, arith}
use Rattle.std.specs.List.{prefix_len, suffix_len}
use Rattle.std.specs.Str.Lossy.{utf8_lossy}
use Rattle.std.proofs.lemmas.List.{take-append-le, length-append, reverse-append}
use Rattle.compose_text.specs.Bytes.{is_blank}
use Rattle.compose_lint.specs.Accepted.{without_last_blanks, without_blanks, listed_characters, listed_line}

one_more : (p : ℕ → Bool) (x : ℕ) (xs : List ℕ) → p x ≡ true → prefix_len p (x ∷ xs) ≡ 1 + prefix_len p xs
one_more p x xs e = rw e refl

-- adding a blank to the blanks at the end
last_more : (line : List ℕ) (b : ℕ) → is_blank b ≡ true → without_last_blanks (line ++ b ∷ []) ≡ without_last_blanks line
last_more line b blank =
    let count : suffix_len is_blank (line ++ b ∷ []) ≡ 1 + suffix_len is_blank line = ap (prefix_len is_blank) (reverse-append line (b ∷ [])) ∙ one_more is_blank b (reverse line) blank in
    let long : length (line ++ b ∷ []) ≡ length line + 1 = length-append line (b ∷ []) in
    ap₂ (λ n s. take (n - s) (line ++ b ∷ [])) long count
    ∙ ap (λ n. take n (line ++ b ∷ [])) (omega arith)
    ∙ take-append-le (length line - suffix_len is_blank line) line (b ∷ []) (omega arith)

-- after the first byte
step : (n x : ℕ) (line : List ℕ) → drop (1 + n) (x ∷ line) ≡ drop n line
step n x line = let next : 1 + n ≡ suc n = omega arith in ap (λ k. drop k (x ∷ line)) next

first_of : (t : Bool) (x b : ℕ) (line : List ℕ) → is_blank x ≡ t → is_blank b ≡ true → without_blanks (line ++ b ∷ []) ≡ without_blanks line → without_blanks (x ∷ line ++ b ∷ []) ≡ without_blanks (x ∷ line)
first_of true x b line e blank rest =
    ap (λ t. without_last_blanks (drop (cond t (1 + prefix_len is_blank (line ++ b ∷ [])) 0) (x ∷ line ++ b ∷ []))) e
    ∙ ap without_last_blanks (step (prefix_len is_blank (line ++ b ∷ [])) x (line ++ b ∷ [])) ∙ rest
    ∙ sym (ap (λ t. without_last_blanks (drop (cond t (1 + prefix_len is_blank line) 0) (x ∷ line))) e ∙ ap without_last_blanks (step (prefix_len is_blank line) x line))
first_of false x b line e blank rest =
    ap (λ t. without_last_blanks (drop (cond t (1 + prefix_len is_blank (line ++ b ∷ [])) 0) (x ∷ line ++ b ∷ []))) e ∙ last_more (x ∷ line) b blank
    ∙ sym (ap (λ t. without_last_blanks (drop (cond t (1 + prefix_len is_blank line) 0) (x ∷ line))) e)

same_blanks : (line : List ℕ) (b : ℕ) → is_blank b ≡ true → without_blanks (line ++ b ∷ []) ≡ without_blanks line
same_blanks [] b blank = ap (λ t. without_last_blanks (drop (cond t 1 0) (b ∷ []))) blank
same_blanks (x ∷ line) b blank = first_of (is_blank x) x b line refl blank (same_blanks line b blank)

-- the line of the list is the same
pub blank_at_end : (line : List ℕ) (b : ℕ) → is_blank b ≡ true → listed_line (line ++ b ∷ []) ≡ listed_line line
blank_at_end line b blank = ap (λ (bytes : List ℕ). listed_characters (utf8_lossy bytes)) (same_blanks line b blank)
