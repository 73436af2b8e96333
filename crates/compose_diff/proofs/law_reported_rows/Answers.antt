use Rattle.compose_diff.specs.Causes.{is_gone}
use Rattle.compose_diff.proofs.Grouped.{each_in_one}
use Rattle.compose_diff.proofs.law_reported_rows.Goals as goal

pub returns : goal.returns
returns c rows left = each_in_one (is_gone rows left) left
