use Rattle.std.proofs.Common.{◌∙◌, ◌++◌, ◌∷◌, [], take, ap, arith}
use Rattle.compose_results.specs.SourceLines.{all_lines}
use Rattle.compose_results.proofs.OneMore.{one_source}
use Rattle.compose_results.proofs.lines.all_lines.Goals as goal

pub loop-index-preserved : goal.loop-index-preserved
loop-index-preserved c =
    let sources = c.args.sources.now in let index = c.loop-index.index in
    c.in_ok-push.ensures.items ∙ ap (λ xs. xs ++ c.in_ok-lines.lines ∷ []) c.loop-index.invariant
    ∙ ap (λ ls. all_lines (take index sources) ++ ls ∷ []) c.in_ok-lines.ensures
    ∙ one_source sources index c.bytes.result.now (omega (arith, c.loop-index-test.true, c.count-index-end.ensures.count)) c.bytes.ensures
