use Rattle.std.proofs.Common.{◌∙◌, ◌++◌, ap, ap₂}
use Rattle.compose_lint.specs.Lines.{SourceLines, all_lines}
use Rattle.compose_lint.specs.Findings.{findings_in}
use Rattle.compose_lint.proofs.OneMore.{one_more}
use Rattle.compose_lint.proofs.lint.findings_by.Goals as goal

pub loop-source-preserved : goal.loop-source-preserved
loop-source-preserved c =
    let files = c.args.all.files.now in let found = c.loop-source.found.items in
    let each = findings_in c.args.names.now c.args.readers c.args.faults.now (all_lines files) in record {
      found = one_more each files c.loop-source.source-index c.source-item.result found c.push_findings.new.findings.items _ c.loop-source-test.true
          (c.in_ok-push_findings.ensures.found
          ∙ ap₂ (λ bs ls. found ++ each (record { bytes = bs; lines = ls; included = c.included.result.now })) c.bytes.ensures c.lines.ensures
          ∙ ap (λ ls. found ++ each (record { bytes = c.source-item.result.bytes; lines = c.source-item.result.lines; included = ls })) c.included.ensures
          ∙ ap (λ (f : SourceLines). found ++ each f) c.source-item.is)
          c.loop-source.invariant.found;
      texts = c.in_ok-push_findings.ensures.texts;
    }
