-- Lost lines, line by line and source by source.
use Rattle.std.proofs.Common.{◌≡◌, ◌∙◌, ℕ, suc, ◌<◌, List, [], ◌∷◌, ◌++◌, Bool, true, false, cond, ◌&&◌, length, get_or, refl, sym, ap, append_assoc, eqb-true, arith}
use Rattle.std.specs.Prelude.{◌==◌, Some, slice_get}
use Rattle.std.specs.Option.{option_map}
use Rattle.std.proofs.lemmas.Option.{slice_get-get_or, same_Some}
use Rattle.compose_text.specs.Lines.{onto_first, lines_of}
use Rattle.compose_read.specs.Lines.{Source}
use Rattle.compose_lint.specs.Lost.{is_lost, lost_after}

not_empty : (n : ℕ) → (suc n == 0) ≡ false
not_empty n = by (suc n == 0) refl
  where
    by : (t : Bool) → (suc n == 0) ≡ t → (suc n == 0) ≡ false
    by true e = let zero : suc n ≡ 0 = eqb-true (suc n) 0 e in absurd (omega (arith, zero))
    by false e = e

-- nothing is left where no line is
pub no_lines : (bytes : List ℕ) → (length (lines_of bytes) == 0) ≡ (length bytes == 0)
no_lines [] = refl
no_lines (b ∷ bytes) = by (b == 10) (lines_of bytes) ∙ sym (not_empty (length bytes))
  where
    by : (t : Bool) (lines : List (List ℕ)) → (length (cond t ([] ∷ lines) (onto_first b lines)) == 0) ≡ false
    by true lines = not_empty (length lines)
    by false [] = refl
    by false (line ∷ lines) = not_empty (length lines)

-- one line further
pub next_lost : (marked unended : Bool) (before line rest after : List ℕ) (found more whole : List (List ℕ)) → lines_of rest ≡ line ∷ lines_of after
    → more ≡ found ++ cond (is_lost marked (unended && length (lines_of after) == 0) before line) (line ∷ []) [] → found ++ lost_after marked unended before (lines_of rest) ≡ whole
    → more ++ lost_after false unended line (lines_of after) ≡ whole
next_lost marked unended before line rest after found more whole parted added e =
    ap (λ ls. ls ++ lost_after false unended line (lines_of after)) added
    ∙ append_assoc found (cond (is_lost marked (unended && length (lines_of after) == 0) before line) (line ∷ []) []) (lost_after false unended line (lines_of after))
    ∙ ap (λ ls. found ++ lost_after marked unended before ls) (sym parted) ∙ e

abbrev pub nothing : Source
nothing = record { name = []; bytes = [] }

-- the bytes of the source at this index
pub source_bytes : (sources : List Source) (i : ℕ) (bytes : List ℕ) → i < length sources → option_map (λ (s : Source). s.bytes) (slice_get sources i) ≡ Some bytes
    → bytes ≡ (get_or sources i nothing).bytes
source_bytes sources i bytes within is =
    sym (same_Some (get_or sources i nothing).bytes bytes (ap (option_map (λ (s : Source). s.bytes)) (sym (slice_get-get_or sources i nothing within)) ∙ is))
