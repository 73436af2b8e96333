use Rattle.std.proofs.Common.{◌∙◌, ap}
use Rattle.std.specs.Prelude.{is_some}
use Rattle.compose_diff.specs.Accepted.{Line}
use Rattle.compose_lint.proofs.Among.{one_more}
use Rattle.compose_lint.proofs.accepted.lines_among.Goals as goal

pub loop-line-preserved : goal.loop-line-preserved
loop-line-preserved c = λ q.
    (ap is_some (c.in_ok-insert.ensures.updates.0 (record c.line.inside.text { now = q }))
    ∙ one_more (λ (line : Line). line.text) c.args.lines.now c.loop-line.line-index c.line-item.result q c.line.inside.text.now _ _ c.loop-line-test.true c.line-item.is
    (ap (λ (l : Line). l.text) c.line.view_is) (c.loop-line.invariant q))
