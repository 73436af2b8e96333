use Rattle.std.proofs.Common.{◌∙◌, ap}
use Rattle.compose_lint.specs.Commonest.{leads_other}
use Rattle.compose_lint.proofs.Leading.{read_off}
use Rattle.compose_lint.proofs.commonest.has_other.Goals as goal

pub returns : goal.returns
returns c = λ notes led. c.leads_other.ensures ∙ ap (leads_other c.args.value.now) c.get.ensures.value ∙ read_off notes c.args.key.now c.args.value.now _ (led c.args.key)
