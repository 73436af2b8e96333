use Rattle.compose_check.proofs.Valid.{valid_from_none, none_from_valid}
use Rattle.compose_check.proofs.verdict.law_conditions.Goals as goal

pub returns-clause-valid : goal.returns-clause-valid
returns-clause-valid c = valid_from_none

pub returns-clause-only : goal.returns-clause-only
returns-clause-only c = none_from_valid
