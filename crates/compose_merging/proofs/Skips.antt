-- The report of the faulty lines of two tables.
use Rattle.std.proofs.Common.{◌≡◌, ◌∙◌, ◌+◌, ap, sym, ℕ, List, [], ◌∷◌, ◌++◌, length, append-nil, arith, length-append}
use Rattle.compose_read.specs.declared.ReadFault.{ReadFault}
use Rattle.compose_input.specs.declared.tables.TableFiles.{TableFiles}
use Rattle.compose_skipped.specs.Kept.{skipped_faults}
use Rattle.compose_skipped.specs.Reported.{Reported, count_line, fault_lines, nothing, report_of, report_text, with_faults}

zero_count : (n : ℕ) → 0 + n ≡ n
zero_count n = omega arith

two_report : (header : List ℕ) (old new : TableFiles)
    → report_of (with_faults (with_faults nothing old (skipped_faults header old)) new (skipped_faults header new)) ≡ report_text header (old ∷ new ∷ [])
two_report header old new =
    let before = skipped_faults header old in let after = skipped_faults header new in let lines = fault_lines old before in
    ap (λ (count : ℕ). (lines ++ fault_lines new after) ++ count_line (count + length after)) (zero_count (length before))
    ∙ ap (λ (more : List ℕ). (lines ++ more) ++ count_line (length before + length after)) (sym (append-nil (fault_lines new after)))
    ∙ ap (λ (count : ℕ). (lines ++ (fault_lines new after ++ [])) ++ count_line count)
    (sym (length-append before after) ∙ ap (λ (more : List ReadFault). length (before ++ more)) (sym (append-nil after)))

-- the report after both tables are added to an empty one
pub two_reported : (header : List ℕ) (old new : TableFiles) (r0 r1 r2 : Reported) → r0 ≡ nothing → r1 ≡ with_faults r0 old (skipped_faults header old)
    → r2 ≡ with_faults r1 new (skipped_faults header new) → report_of r2 ≡ report_text header (old ∷ new ∷ [])
two_reported header old new r0 r1 r2 at0 at1 at2 =
    ap report_of (at2 ∙ ap (λ (r : Reported). with_faults r new (skipped_faults header new)) (at1 ∙ ap (λ (r : Reported). with_faults r old (skipped_faults header old)) at0)) ∙ two_report header old new
