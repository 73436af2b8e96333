use Rattle.std.proofs.Common.{◌∙◌}
use Rattle.compose_merge.proofs.Sought.{sought}
use Rattle.compose_merge.proofs.listed.is_listed.Goals as goal

pub returns : goal.returns
returns c =
    c.is_ok.ensures.value
    ∙ sought (λ t. t.now) c.args.sorted.now c.args.sequence.now c.args.sequence c.binary_search.result c.requires c.binary_search.ensures.bound c.binary_search.ensures.position
