use Rattle.std.proofs.Common.{◌∙◌, ap, string_bytes}
use Rattle.std.specs.Prelude.{is_some}
use Rattle.compose_lint.proofs.Among.{one_more}
use Rattle.compose_lint.proofs.accepted.texts_among.Goals as goal

pub loop-text-preserved : goal.loop-text-preserved
loop-text-preserved c = λ q.
    (ap is_some (c.in_ok-insert.ensures.updates.0 (record c.as_bytes.result { now = q }))
    ∙ one_more (λ text. string_bytes text) c.args.texts.now c.loop-text.text-index c.text-item.result q c.as_bytes.result.now _ _ c.loop-text-test.true c.text-item.is c.as_bytes.ensures.value (c.loop-text.invariant q))
