use Rattle.std.proofs.Common.{◌∙◌, sym, arith}
use Rattle.compose_fresh.proofs.FreshKeysyms.{stale_later, stale_used}
use Rattle.compose_fresh.proofs.fresh.first_stale.Goals as goal

pub returns-then-index-used : goal.returns-then-index-used
returns-then-index-used c = λ old first.
    stale_used old c.args.fresh.now c.args.used c.loop-index.index c.index-fresh-index.result first c.loop-index-test.true c.index-fresh-index.is
    (sym c.is_ignored.ensures ∙ c.if-is_ignored.false) c.if-index-used.true
    ∙ c.loop-index.invariant.1 old first

pub loop-index-preserved : goal.loop-index-preserved
loop-index-preserved c = (
  omega arith,
  λ old first. stale_later old c.args.fresh.now c.args.used c.loop-index.index c.index-fresh-index.result first c.loop-index-test.true c.index-fresh-index.is
      (sym c.is_ignored.ensures ∙ c.if-is_ignored.false) (omega arith)
      ∙ c.loop-index.invariant.1 old first,
)
