-- The includes of lines, one line after another.
use Rattle.std.proofs.Common.{◌≡◌, ℕ, ◌+◌, List, [], ◌∷◌, ◌++◌, Some, refl, sym, ◌∙◌, ap, append_assoc}
use Rattle.compose_read.specs.Visits.{raw_include}
use Rattle.compose_find.specs.Includes.{Include, includes_from}

include_first : (n : ℕ) (line raw : List ℕ) (lines : List (List ℕ)) → raw_include line ≡ Some raw → includes_from n (line ∷ lines) ≡ record { line = n; raw = raw } ∷ includes_from (1 + n) lines
include_first n line raw lines e = rw e refl

-- a line that is an include is one more
pub include_more : (n k : ℕ) (line raw : List ℕ) (lines all : List (List ℕ)) (before found whole : List Include) → Some raw ≡ raw_include line → k ≡ n → all ≡ line ∷ lines
    → found ≡ before ++ record { line = k; raw = raw } ∷ [] → before ++ includes_from n all ≡ whole → found ++ includes_from (1 + k) lines ≡ whole
include_more n k line raw lines all before found whole is same split pushed old =
    ap (λ xs. xs ++ includes_from (1 + k) lines) pushed ∙ append_assoc before (record { line = k; raw = raw } ∷ []) (includes_from (1 + k) lines)
    ∙ ap (λ xs. before ++ xs) (sym (include_first k line raw lines (sym is))) ∙ ap (λ m. before ++ includes_from m (line ∷ lines)) same ∙ ap (λ ls. before ++ includes_from n ls) (sym split) ∙ old
