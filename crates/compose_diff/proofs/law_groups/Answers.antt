use Rattle.compose_diff.proofs.Grouped.{each_is_group}
use Rattle.compose_diff.proofs.law_groups.Goals as goal

pub returns : goal.returns
returns c = each_is_group
