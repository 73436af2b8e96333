use Rattle.std.proofs.Common.{◌≡◌, ◌++◌, ℕ, List, Bor, map, drop}
use Rattle.std.specs.Prelude.{flat_map, bytes_eq, IfSome}
use Rattle.indexmap.specs.IndexMap.{get_by}
use Rattle.compose_lint.specs.Lines.{all_lines}
use Rattle.compose_lint.specs.Comments.{turned}
use Rattle.compose_lint.specs.Commonest.{IsLed, times}
use Rattle.compose_lint.specs.Findings.{line_findings}
use Rattle.compose_lint.proofs.kinds.push_findings.Given as goal

-- the findings so far, and those in the remaining lines, are all
abbrev pub invariant-loop-line : goal.invariant-loop-line
invariant-loop-line l = record {
  found : l.findings.items
      ++ flat_map
      (line_findings l.file.names.now l.file.readers l.file.faults.now (all_lines l.all.files.now) (record { bytes = l.file.bytes.now; lines = l.lines; included = l.included })) (drop l.line-index l.lines)
      ≡ l.fn.findings.items
      ++ flat_map (line_findings l.file.names.now l.file.readers l.file.faults.now (all_lines l.all.files.now) (record { bytes = l.file.bytes.now; lines = l.lines; included = l.included })) l.lines;
  texts : IfSome l.by_text (λ leaders. (k : Bor (List ℕ)) → IsLed (times (map turned l.all.comments.now) k.now) k.now (map turned l.all.comments.now) (get_by (λ p. bytes_eq k.now p.now) leaders));
}
