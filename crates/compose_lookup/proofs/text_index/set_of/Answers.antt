use Rattle.std.proofs.Common.{◌∙◌}
use Rattle.compose_lookup.proofs.Asked.{text_added}
use Rattle.compose_lookup.proofs.text_index.set_of.Goals as goal

pub loop-text-preserved : goal.loop-text-preserved
loop-text-preserved c = λ q. c.in_ok-insert.ensures.updates.0 q ∙ text_added c.args.texts.now c.loop-text.text-index _ q.now _ c.loop-text-test.true (c.loop-text.invariant q)
