-- The lines of a text are UTF-8, since a text may be cut before and after a newline.
use Rattle.std.proofs.Common.{◌≡◌, ◌≢◌, ◌≤◌, ◌<◌, ℕ, zero, suc, ◌+◌, List, [], ◌∷◌, length, take, drop, get_or, Bool, true, false, refl, sym, ◌∙◌, subst, nat_lt, arith, length-drop}
use Rattle.std.specs.Prelude.{◌==◌}
use Rattle.std.specs.List.{All, position_or_len}
use Rattle.std.specs.Str.{IsUtf8, IsCharBoundary}
use Rattle.std.proofs.lemmas.Bool.{ltb-true, ltb-false, eqb-true, eq-eqb}
use Rattle.std.proofs.lemmas.List.Elements.{All-nil, All-cons}
use Rattle.std.proofs.lemmas.List.Sums.{fails_before_first, passes_at_first}
use Rattle.std.proofs.lemmas.Str.{IsUtf8-take, IsUtf8-drop, IsCharBoundary-before_ascii, IsCharBoundary-after_ascii}
use Rattle.compose_text.specs.Lines.{lines_of}
use Rattle.compose_text.proofs.LineParts.{lines-some, lines-whole}

abbrev is_newline : ℕ → Bool
is_newline b = b == 10

-- the index of the first newline, or else the length
abbrev cut : List ℕ → ℕ
cut text = position_or_len is_newline text

-- if the lines after the first newline are UTF-8, all lines are
module _ (text : List ℕ) (u : IsUtf8 text) (some : text ≢ [])
    (others : length (drop (suc (cut text)) text) < length text → IsUtf8 (drop (suc (cut text)) text) → All IsUtf8 (lines_of (drop (suc (cut text)) text))) where
  other : (i : ℕ) → i < cut text → get_or text i 0 ≢ 10
  other i less is = let clash : true ≡ false = sym (eq-eqb (get_or text i 0) 10 is) ∙ fails_before_first is_newline text i 0 less in cc

  by_cut : (newline : Bool) → nat_lt (cut text) (length text) ≡ newline → All IsUtf8 (lines_of text)
  by_cut false e =
      let end = ltb-false (cut text) (length text) e in
      subst (All IsUtf8) (sym (lines-whole text some (λ i less. other i (omega arith)))) (All-cons IsUtf8 text [] u (All-nil IsUtf8))
  by_cut true e =
      let within = ltb-true (cut text) (length text) e in
      let is = eqb-true (get_or text (cut text) 0) 10 (passes_at_first is_newline text 0 within) in
      let next : cut text + 1 ≡ suc (cut text) = omega arith in
      let prefix = IsUtf8-take text (cut text) u (IsCharBoundary-before_ascii text (cut text) within (omega (arith, is))) in
      let behind = IsUtf8-drop text (suc (cut text)) u (subst (IsCharBoundary text) next (IsCharBoundary-after_ascii text (cut text) u within (omega (arith, is)))) in
      subst (All IsUtf8) (sym (lines-some text (cut text) within is other))
      (All-cons IsUtf8 (take (cut text) text) (lines_of (drop (suc (cut text)) text)) prefix (others (omega (arith, length-drop (suc (cut text)) text)) behind))

up_to : (n : ℕ) (text : List ℕ) → length text ≤ n → IsUtf8 text → All IsUtf8 (lines_of text)
up_to n [] l u = All-nil IsUtf8
up_to zero (b ∷ bytes) l u = absurd (omega arith)
up_to (suc n) (b ∷ bytes) l u =
    let text : List ℕ = b ∷ bytes in
    by_cut text u (λ none. cc) (λ shorter v. up_to n (drop (suc (cut text)) text) (omega arith) v) (nat_lt (cut text) (length text)) refl

-- the lines of a text are UTF-8
pub text_lines : (text : List ℕ) → IsUtf8 text → All IsUtf8 (lines_of text)
text_lines text u = up_to (length text) text (omega arith) u

-- the first line, and those after it
pub next_text : (rest line behind : List ℕ) → lines_of rest ≡ line ∷ lines_of behind → All IsUtf8 (lines_of rest) → IsUtf8 line × All IsUtf8 (lines_of behind)
next_text rest line behind lines h = let all = subst (All IsUtf8) lines h in (all 0 [] (omega arith), λ k d l. all (suc k) d (omega arith))
