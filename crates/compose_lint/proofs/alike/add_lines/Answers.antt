use Rattle.std.proofs.Common.{◌∙◌, ◌∷◌, [], ap}
use Rattle.std.specs.Option.{option_or}
use Rattle.indexmap.specs.IndexMap.{get_by_text}
use Rattle.compose_lint.specs.Lines.{LintLine}
use Rattle.compose_lint.specs.Alike.{form_place}
use Rattle.compose_lint.proofs.AlikeOnes.{line_added}
use Rattle.compose_lint.proofs.alike.add_lines.Goals as goal

pub loop-line-preserved : goal.loop-line-preserved
loop-line-preserved c = λ q.
    (let before = get_by_text c.loop-line.places q in
    line_added c.args.lines.now c.loop-line.line-index c.line-item.result q _ before _ c.loop-line-test.true
    (c.in_ok-add_line.ensures q ∙ ap (λ (l : LintLine). option_or before (form_place (l ∷ []) q)) c.line-item.is)
    (c.loop-line.invariant q))
