use Rattle.std.proofs.Common.{◌∙◌, ap}
use Rattle.std.specs.Option.{option_or}
use Rattle.indexmap.specs.IndexMap.{get_by_text}
use Rattle.compose_lint.specs.Lines.{SourceLines}
use Rattle.compose_lint.specs.Alike.{form_place}
use Rattle.compose_lint.proofs.AlikeOnes.{file_added}
use Rattle.compose_lint.proofs.alike.form_places.Goals as goal

pub loop-file-preserved : goal.loop-file-preserved
loop-file-preserved c = λ q.
    (let old = get_by_text c.loop-file.places q in
    file_added c.args.files.now c.loop-file.file-index c.file-item.result q _ old c.loop-file-test.true
    (c.in_ok-add_lines.ensures q ∙ ap (λ ls. option_or old (form_place ls q)) (c.lines.ensures ∙ ap (λ (f : SourceLines). f.lines) c.file-item.is))
    (c.loop-file.invariant q))
