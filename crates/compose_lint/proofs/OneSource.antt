-- The lines of the sources, one source after another.
use Rattle.std.proofs.Common.{◌≡◌, ◌∙◌, ℕ, suc, ◌+◌, ◌<◌, Bool, cond, List, [], ◌∷◌, ◌++◌, length, drop, get_or, drop-cons, sym, ap, ap₂, append_assoc, arith}
use Rattle.std.specs.Prelude.{Some, slice_get}
use Rattle.std.specs.Option.{option_map}
use Rattle.std.proofs.lemmas.Option.{slice_get-get_or, same_Some}
use Rattle.keysym_core.specs.Names.{KeysymNames}
use Rattle.compose_read.specs.Lines.{Source}
use Rattle.compose_lint.specs.Lines.{LintLine, SourceLines, lines_in, included_lines, lint_source, sources_from}

abbrev no_source : Source
no_source = record { name = []; bytes = [] }

module _ (names : KeysymNames) (sources : List Source) (is_all : Bool) (i : ℕ) (within : i < length sources) where
  abbrev here : Source
  here = get_or sources i no_source

  at : drop i sources ≡ here ∷ drop (i + 1) sources
  at = let one : suc i ≡ i + 1 = omega arith in drop-cons sources i no_source within ∙ ap (λ n. here ∷ drop n sources) one

  -- one more source
  pub one_source : (bytes : List ℕ) (lines included : List LintLine) (found after whole : List SourceLines) → option_map (λ (s : Source). s.bytes) (slice_get sources i) ≡ Some bytes
      → lines ≡ lines_in names sources i → included ≡ cond is_all (included_lines names sources i) []
      → after ≡ found ++ record { bytes = bytes; lines = lines; included = included } ∷ []
      → found ++ sources_from names sources is_all i (drop i sources) ≡ whole
      → after ++ sources_from names sources is_all (i + 1) (drop (i + 1) sources) ≡ whole
  one_source bytes lines included found after whole is read others added before =
      let next : i + 1 ≡ 1 + i = omega arith in
      let rest = sources_from names sources is_all (i + 1) (drop (i + 1) sources) in
      ap (λ fs. fs ++ rest) added
      ∙ append_assoc found (record { bytes = bytes; lines = lines; included = included } ∷ []) rest
      ∙ ap₂ (λ bs ls. found ++ (record { bytes = bs; lines = ls; included = included } ∷ rest))
      (sym (same_Some here.bytes bytes (ap (option_map (λ (s : Source). s.bytes)) (sym (slice_get-get_or sources i no_source within)) ∙ is))) read
      ∙ ap (λ ls. found ++ (record { bytes = here.bytes; lines = lines_in names sources i; included = ls } ∷ rest)) others
      ∙ ap (λ n. found ++ (lint_source names sources is_all i here ∷ sources_from names sources is_all n (drop (i + 1) sources))) next
      ∙ ap (λ ss. found ++ sources_from names sources is_all i ss) (sym at)
      ∙ before
