use Rattle.std.proofs.Common.{◌∙◌, ◌++◌, ap}
use Rattle.std.specs.Prelude.{option_to_list}
use Rattle.compose_lint.specs.Lines.{LintLine}
use Rattle.compose_lint.specs.Comments.{comment_note}
use Rattle.compose_lint.proofs.OneMore.{one_more}
use Rattle.compose_lint.proofs.comments.push_comments.Goals as goal

pub loop-line-preserved : goal.loop-line-preserved
loop-line-preserved c =
    let found = c.loop-line.notes.items in
    one_more (λ (l : LintLine). option_to_list (comment_note l)) c.args.lines.now c.loop-line.line-index c.line-item.result found c.push_commented.new.notes.items _ c.loop-line-test.true
    (c.in_ok-push_commented.ensures ∙ ap (λ (l : LintLine). found ++ option_to_list (comment_note l)) c.line-item.is)
    c.loop-line.invariant
