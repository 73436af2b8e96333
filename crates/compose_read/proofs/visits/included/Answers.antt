use Rattle.std.proofs.Common.{◌∙◌, Some}
use Rattle.compose_read.proofs.OpenSources.{included_is}
use Rattle.compose_read.proofs.visits.included.Goals as goal

pub returns-clause-included : goal.returns-clause-included
returns-clause-included c = c.index_of.ensures.index ∙ included_is c.args.sources.now c.args.bytes.now (Some c.in_ok-name.name.now) c.in_ok-name.ensures
