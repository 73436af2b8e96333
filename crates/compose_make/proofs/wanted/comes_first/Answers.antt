use Rattle.std.proofs.Common.{◌∙◌}
use Rattle.compose_make.proofs.Order.{as_long}
use Rattle.compose_make.proofs.wanted.comes_first.Goals as goal

pub returns-then-keys-other : goal.returns-then-keys-other
returns-then-keys-other c = c.eq.ensures ∙ as_long c.args.keys.now c.args.other.now c.cmp.result c.if-keys-other.true c.cmp.ensures
