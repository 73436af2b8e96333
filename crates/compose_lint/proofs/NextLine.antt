-- The lines of a source, one after another.
use Rattle.std.proofs.Common.{◌≡◌, ◌∙◌, ℕ, ◌+◌, ◌<◌, List, [], ◌∷◌, ◌++◌, map, length, get_or, sym, ap, append_assoc, arith}
use Rattle.std.specs.Prelude.{Some, slice_get}
use Rattle.std.specs.Option.{option_map}
use Rattle.std.proofs.lemmas.Option.{slice_get-get_or, same_Some}
use Rattle.keysym_core.specs.Names.{KeysymNames}
use Rattle.compose_text.specs.Lines.{lines_of}
use Rattle.compose_read.specs.Lines.{Source, numbered, source_lines, without_mark}
use Rattle.compose_lint.specs.Lines.{LintLine, lint_line, line_read, lines_in}
use Rattle.compose_lint.proofs.Given.{read_is}

no_source : Source
no_source = record { name = []; bytes = [] }

module _ (names : KeysymNames) (sources : List Source) (source : ℕ) where
  -- before the first line, those of the bytes are all
  pub lines_at_first : (bytes rest : List ℕ) → source < length sources → option_map (λ (s : Source). s.bytes) (slice_get sources source) ≡ Some bytes → rest ≡ without_mark bytes
      → map (lint_line names sources) (numbered source 0 1 (lines_of rest)) ≡ lines_in names sources source
  lines_at_first bytes rest within is unmarked =
      ap (λ bs. map (lint_line names sources) (numbered source 0 1 (lines_of bs))) unmarked
      ∙ ap (λ bs. map (lint_line names sources) (numbered source 0 1 (source_lines bs)))
      (sym (same_Some (get_or sources source (record { name = []; bytes = [] })).bytes bytes
      (ap (option_map (λ (s : Source). s.bytes)) (sym (slice_get-get_or sources source (record { name = []; bytes = [] }) within)) ∙ is)))

  -- one more line
  pub next_line : (line : ℕ) (bytes rest behind : List ℕ) (l : LintLine) (found after whole : List LintLine) → lines_of rest ≡ bytes ∷ lines_of behind
      → l ≡ line_read names source (line + 1) bytes → after ≡ found ++ l ∷ []
      → found ++ map (lint_line names sources) (numbered source 0 (1 + line) (lines_of rest)) ≡ whole
      → after ++ map (lint_line names sources) (numbered source 0 (1 + (line + 1)) (lines_of behind)) ≡ whole
  next_line line bytes rest behind l found after whole parted given pushed before =
      let one : line + 1 ≡ 1 + line = omega arith in
      ap (λ ls. ls ++ map (lint_line names sources) (numbered source 0 (1 + (line + 1)) (lines_of behind))) pushed
      ∙ append_assoc found (l ∷ []) (map (lint_line names sources) (numbered source 0 (1 + (line + 1)) (lines_of behind)))
      ∙ ap (λ x. found ++ x ∷ map (lint_line names sources) (numbered source 0 (1 + (line + 1)) (lines_of behind)))
      (given ∙ sym (read_is names sources (record { source = source; line = line + 1; bytes = bytes; depth = 0 })))
      ∙ ap (λ n. found ++ map (lint_line names sources) (numbered source 0 n (bytes ∷ lines_of behind))) one
      ∙ ap (λ ls. found ++ map (lint_line names sources) (numbered source 0 (1 + line) ls)) (sym parted)
      ∙ before
