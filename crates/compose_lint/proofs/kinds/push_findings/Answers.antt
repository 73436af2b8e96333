use Rattle.std.proofs.Common.{◌∙◌, ◌++◌, false, map, sym, ap}
use Rattle.std.specs.Prelude.{Some}
use Rattle.std.specs.Option.{option_map_or}
use Rattle.std.proofs.lemmas.Option.{slice_get-get_or}
use Rattle.compose_lint.specs.Lines.{LintLine, all_lines}
use Rattle.compose_lint.specs.Comments.{comment_note, is_misplaced}
use Rattle.compose_lint.specs.Findings.{when, line_findings, form_kinds, prefix_kinds, comment_kinds, redundant_kinds}
use Rattle.compose_lint.specs.declared.finding.FindingKind.TheVariants.{Comment}
use Rattle.compose_lint.proofs.OneMore.{one_more}
use Rattle.compose_lint.proofs.kinds.push_findings.Goals as goal

pub own_kinds-requires-clause-once : goal.own_kinds-requires-clause-once
own_kinds-requires-clause-once c = λ is d given.
    (let lines = c.args.file.lines.now in let line = c.line-item.result in
    c.in_ok-last.ensures.once is c.loop-line.line-index line d (slice_get-get_or lines c.loop-line.line-index line c.loop-line-test.true ∙ ap Some (sym c.line-item.is)) given)

pub loop-line-preserved : goal.loop-line-preserved
loop-line-preserved c =
    let lines = c.args.file.lines.now in let found = c.loop-line.findings.items in let line = c.line-item.result in let all = all_lines c.args.all.files.now in let included = c.args.included.now in
    let each = line_findings c.args.file.names.now c.args.file.readers c.args.file.faults.now all (record { bytes = c.args.file.bytes.now; lines = lines; included = included }) in record {
      found = one_more each lines c.loop-line.line-index line found c.push_kinds.new.findings.items _ c.loop-line-test.true
          (c.in_ok-push_kinds.ensures
          ∙ ap (λ ks. found ++ map (λ k. record { source = line.source; line = line.line; kind = k }) ks)
          (c.deref.ensures.value
          ∙ c.in_ok-push_redundant_kinds.ensures
          ∙ ap (λ ks. ks ++ redundant_kinds included line)
          (c.in_ok-push_when.ensures
          ∙ ap (λ b. c.push_prefix_kinds.new.kinds.items ++ when b Comment) (c.in_ok-is_misplaced.ensures.is ∙ ap (λ notes. option_map_or (is_misplaced notes) (comment_note line) false) c.requires.notes)
          ∙ ap (λ ks. ks ++ comment_kinds all line) (c.in_ok-push_prefix_kinds.ensures ∙ ap (λ ks. ks ++ prefix_kinds all line) (c.in_ok-push_form_kinds.ensures ∙ ap (λ ks. ks ++ form_kinds all line) c.in_ok-kinds.ensures))))
          ∙ ap (λ (l : LintLine). found ++ each l) c.line-item.is)
          c.loop-line.invariant.found;
      texts = c.in_ok-is_misplaced.ensures.texts;
    }
