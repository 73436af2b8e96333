use Rattle.std.proofs.Common.{◌∙◌, ◌++◌, take, sym, ap, arith}
use Rattle.std.proofs.lemmas.List.{take_all}
use Rattle.std.specs.Prelude.{option_to_list}
use Rattle.std.proofs.lemmas.Grind.{flat_map-append}
use Rattle.compose_lint.specs.Lines.{LintLine, SourceLines, all_lines}
use Rattle.compose_lint.specs.Comments.{comment_note, comments_in}
use Rattle.compose_lint.proofs.PrefixOnes.{lines_more}
use Rattle.compose_lint.proofs.comments.comments_in.Goals as goal

pub loop-file-preserved : goal.loop-file-preserved
loop-file-preserved c =
    let files = c.args.files.now in let i = c.loop-file.file-index in let file = c.file-item.result in
    c.in_ok-push_comments.ensures
    ∙ ap (λ ns. ns ++ comments_in c.lines.result.now) c.loop-file.invariant
    ∙ ap (λ ls. comments_in (all_lines (take i files)) ++ comments_in ls) (c.lines.ensures ∙ ap (λ (f : SourceLines). f.lines) c.file-item.is)
    ∙ sym (ap comments_in (lines_more files i file c.loop-file-test.true) ∙ flat_map-append (λ (l : LintLine). option_to_list (comment_note l)) (all_lines (take i files)) _)

pub returns : goal.returns
returns c = c.loop-file.invariant ∙ ap (λ files. comments_in (all_lines files)) (take_all c.loop-file.file-index c.args.files.now (omega arith))
