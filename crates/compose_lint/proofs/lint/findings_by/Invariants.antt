use Rattle.std.proofs.Common.{◌≡◌, ◌++◌, ℕ, List, Bor, map, drop}
use Rattle.std.specs.Prelude.{flat_map, bytes_eq, IfSome}
use Rattle.indexmap.specs.IndexMap.{get_by}
use Rattle.compose_lint.specs.Lines.{all_lines}
use Rattle.compose_lint.specs.Comments.{turned}
use Rattle.compose_lint.specs.Commonest.{IsLed, times}
use Rattle.compose_lint.specs.Findings.{findings_in, findings_of}
use Rattle.compose_lint.proofs.lint.findings_by.Given as goal

-- the findings so far, and those in the remaining files, are all
abbrev pub invariant-loop-source : goal.invariant-loop-source
invariant-loop-source l = record {
  found : l.found.items ++ flat_map (findings_in l.names l.readers l.faults (all_lines l.all.files.now)) (drop l.source-index l.all.files.now) ≡ findings_of l.names l.readers l.faults l.all.files.now;
  texts : IfSome l.by_text (λ leaders. (k : Bor (List ℕ)) → IsLed (times (map turned l.all.comments.now) k.now) k.now (map turned l.all.comments.now) (get_by (λ p. bytes_eq k.now p.now) leaders));
}
